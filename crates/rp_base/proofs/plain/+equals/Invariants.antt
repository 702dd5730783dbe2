use Rattle.std.proofs.Common.{◌≡◌, drop, length}
use Rattle.rp_base.specs.PlainValues.{equal_items}
use Rattle.rp_base.proofs.plain.+equals.Given as goal

-- the answer is that for what is left
abbrev pub invariant-equal_all-loop-i : goal.invariant-equal_all-loop-i
invariant-equal_all-loop-i l = (length l.xs ≡ length l.ys) × (equal_items l.xs l.ys ≡ equal_items (drop l.i l.xs) (drop l.i l.ys))
