use Rattle.std.proofs.Common.{◌≡◌, ◌-◌, ℕ, length, slice_get, option_map}
use Rattle.py_scope.specs.Finished.{is_among}
use Rattle.py_scope.specs.Names.{added_if}
use Rattle.py_scope.specs.Scopes.{outwards, around, passing}
use Rattle.py_scope.proofs.facts.Facts.add_to_passing.Given as goal

abbrev pub invariant-loop-step : goal.invariant-loop-step
invariant-loop-step l =
    (length l.sets.items ≡ length l.fn.sets.items)
    × ((g : ℕ) → option_map (added_if (is_among (passing l.self.mentions.now (around l.self.functions.now l.fn.from) l.name) g) l.name) (slice_get l.fn.sets.items g)
    ≡ option_map (added_if (is_among (passing l.self.mentions.now (outwards (length l.self.functions.now - l._step) l.self.functions.now l.here) l.name) g) l.name) (slice_get l.sets.items g))
