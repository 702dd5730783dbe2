use Rattle.std.proofs.Common.{◌≡◌, ℤ, pos, negsuc, ◌≤ℤ◌, Err, of_z, ap, sym, subst, arith}
use Rattle.std.specs.Int.{w128}
use Rattle.std.proofs.lemmas.Int.{ints}
use Rattle.py_ints.specs.Arithmetic.{left_shift}
use Rattle.py_ints.specs.declared.arithmetic.IntEnd.TheVariants as end
use Rattle.py_ints.proofs.Powers.{wide_shift, wide_minus_one, minus_one_is, past}
use Rattle.py_ints.proofs.arithmetic.shift_left.Goals as goal

pub returns-then-a-neminus1 : goal.returns-then-a-neminus1
returns-then-a-neminus1 c =
    let high : pos 127 ≤ℤ c.args.b = grind (arith, ints) in
    wide_shift c.args.a c.args.b (λ e. c.if-a-eq0.false (ap (of_z w128) e)) (λ e. c.if-a-neminus1.true (ap (of_z w128) e)) high

pub returns-else-b-eq127 : goal.returns-else-b-eq127
returns-else-b-eq127 c =
    let high : pos 127 ≤ℤ c.args.b = grind (arith, ints) in
    let is : c.args.a ≡ negsuc 0 = minus_one_is c.args.a c.ranges.a c.if-a-neminus1.false in
    subst (λ (z : ℤ). Err end.BeyondInt ≡ left_shift z c.args.b) (sym is) (wide_minus_one c.args.b (past c.args.b high c.if-b-eq127.false))
