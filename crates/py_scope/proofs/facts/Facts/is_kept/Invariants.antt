use Rattle.std.proofs.Common.{◌≡◌, ◌-◌, length}
use Rattle.py_scope.specs.Scopes.{outwards, around, is_kept}
use Rattle.py_scope.proofs.facts.Facts.is_kept.Given as goal

abbrev pub invariant-loop-step : goal.invariant-loop-step
invariant-loop-step l =
    is_kept l.self.mentions.now (around l.self.functions.now l.fn.from) l.name
    ≡ is_kept l.self.mentions.now (outwards (length l.self.functions.now - l._step) l.self.functions.now l.here) l.name
