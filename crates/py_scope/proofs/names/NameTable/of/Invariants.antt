use Rattle.std.proofs.Common.{take}
use Rattle.py_scope.specs.Tables.{KnowsNames}
use Rattle.py_scope.proofs.names.NameTable.of.Given as goal

abbrev pub invariant-loop-mention : goal.invariant-loop-mention
invariant-loop-mention l = KnowsNames l.mentions (take l.mention-index l.mentions) l.table.map
