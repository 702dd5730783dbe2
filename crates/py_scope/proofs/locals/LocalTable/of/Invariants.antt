use Rattle.std.proofs.Common.{take}
use Rattle.py_scope.specs.Tables.{KnowsLocals}
use Rattle.py_scope.proofs.locals.LocalTable.of.Given as goal

abbrev pub invariant-loop-mention : goal.invariant-loop-mention
invariant-loop-mention l = KnowsLocals (take l.mention-index l.mentions) l.table.map
