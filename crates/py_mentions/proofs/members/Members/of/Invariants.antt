use Rattle.std.proofs.Common.{◌≡◌, ◌&&◌, nat_lt, ℕ, List, slice_get}
use Rattle.py_mentions.specs.Members.{has_member}
use Rattle.py_mentions.specs.Rules.{suite_binds}
use Rattle.py_mentions.proofs.members.Members.of.Given as goal

abbrev pub invariant-loop-suite : goal.invariant-loop-suite
invariant-loop-suite l = (c : ℕ) → (t : List ℕ) → has_member l.members.set c t ≡ nat_lt c l.suite && suite_binds l.program t (slice_get l.program.nodes c)
