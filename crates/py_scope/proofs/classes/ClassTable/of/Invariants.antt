use Rattle.std.proofs.Common.{take}
use Rattle.py_scope.specs.Tables.{KnowsClasses}
use Rattle.py_scope.proofs.classes.ClassTable.of.Given as goal

abbrev pub invariant-loop-mention : goal.invariant-loop-mention
invariant-loop-mention l = KnowsClasses (take l.mention-index l.mentions) l.table.map
