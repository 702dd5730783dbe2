use Rattle.std.proofs.Common.{◌≡◌, ◌++◌, drop}
use Rattle.py_scope.specs.Finished.{finished_from}
use Rattle.py_scope.proofs.facts.Facts.finished.Given as goal

abbrev pub invariant-loop-place : goal.invariant-loop-place
invariant-loop-place l =
    finished_from l.self.mentions.now l.self.functions.now 0 l.self.functions.now
    ≡ l.finished ++ finished_from l.self.mentions.now l.self.functions.now l.place (drop l.place l.self.functions.now)
