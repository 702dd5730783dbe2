use Rattle.std.proofs.Common.{pos, ◌<ℤ◌, of_z, ap, ◌∙◌}
use Rattle.std.specs.Int.{w128, int_div_euclid, int_rem_euclid}
use Rattle.py_ints.proofs.Fitting.{plain_args, below_zero, zero_is, quotient_whole, quotient_part}
use Rattle.py_ints.proofs.arithmetic.floor_div.Goals as goal

pub returns-then-rem_euclid-eq0 : goal.returns-then-rem_euclid-eq0
returns-then-rem_euclid-eq0 c =
    let a = c.args.a in
    let b = c.args.b in
    let low : b <ℤ pos 0 = below_zero b c.ranges.b c.if-b-eq0.false c.if-b-gt0.false in
    let whole = c.div_euclid-quotient.ensures ∙ plain_args int_div_euclid a b c.ranges.a c.ranges.b in
    let rest = c.rem_euclid.ensures.value ∙ plain_args int_rem_euclid a b c.ranges.a c.ranges.b in
    quotient_whole a b _ _ c.ranges.a low (λ e. c.if-b-eqminus1.false (ap (of_z w128) e)) whole rest (zero_is _ (record { sfits = c.rem_euclid.type_inv }) c.if-rem_euclid-eq0.true)

pub returns-else-rem_euclid-eq0 : goal.returns-else-rem_euclid-eq0
returns-else-rem_euclid-eq0 c =
    let a = c.args.a in
    let b = c.args.b in
    let low : b <ℤ pos 0 = below_zero b c.ranges.b c.if-b-eq0.false c.if-b-gt0.false in
    let whole = c.div_euclid-quotient.ensures ∙ plain_args int_div_euclid a b c.ranges.a c.ranges.b in
    let rest = c.rem_euclid.ensures.value ∙ plain_args int_rem_euclid a b c.ranges.a c.ranges.b in
    quotient_part a b _ _ c.ranges.a low (λ e. c.if-b-eqminus1.false (ap (of_z w128) e)) (record { sfits = c.div_euclid-quotient.type_inv }) whole rest (λ e. c.if-rem_euclid-eq0.false (ap (of_z w128) e))
