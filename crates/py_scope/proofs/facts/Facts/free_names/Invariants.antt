use Rattle.std.proofs.Common.{take, length}
use Rattle.py_scope.specs.Finished.{free_names}
use Rattle.py_scope.specs.Names.{Each}
use Rattle.py_scope.proofs.facts.Facts.free_names.Given as goal

abbrev pub invariant-loop-mention : goal.invariant-loop-mention
invariant-loop-mention l = Each (length l.self.functions.now) (free_names l.self.mentions.now l.self.functions.now (take l.mention-index l.self.mentions.now)) l.sets.items
