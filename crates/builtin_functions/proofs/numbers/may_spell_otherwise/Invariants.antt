use Rattle.std.proofs.Common.{◌≡◌, ◌==◌, drop}
use Rattle.std.specs.Prelude.{◌||◌, nat_le}
use Rattle.std.specs.List.{list_any}
use Rattle.builtin_functions.proofs.numbers.may_spell_otherwise.Given as goal

-- it is that of the rest
abbrev pub invariant-loop-byte : goal.invariant-loop-byte
invariant-loop-byte l = list_any (λ b. nat_le 128 b || (b == 95)) l.bytes ≡ list_any (λ b. nat_le 128 b || (b == 95)) (drop l.byte-index l.bytes)
