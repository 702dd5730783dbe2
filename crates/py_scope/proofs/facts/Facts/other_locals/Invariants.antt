use Rattle.std.proofs.Common.{take, length}
use Rattle.py_scope.specs.Finished.{other_locals}
use Rattle.py_scope.specs.Names.{Each}
use Rattle.py_scope.proofs.facts.Facts.other_locals.Given as goal

abbrev pub invariant-loop-mention : goal.invariant-loop-mention
invariant-loop-mention l = Each (length l.self.functions.now) (other_locals l.self.mentions.now (take l.mention-index l.self.mentions.now)) l.sets.items
