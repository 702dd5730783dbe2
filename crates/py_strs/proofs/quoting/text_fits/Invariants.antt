use Rattle.std.proofs.Common.{◌≡◌, ◌+◌, length}
use Rattle.std.specs.List.{flat_map}
use Rattle.py_strs.specs.QuotingForms.{piece}
use Rattle.py_strs.proofs.quoting.text_fits.Given as goal

abbrev pub invariant-loop-c : goal.invariant-loop-c
invariant-loop-c l = l.left + (2 + length (flat_map (piece l.quote) l.yielded)) ≡ l.room
