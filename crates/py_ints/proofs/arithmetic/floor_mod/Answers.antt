use Rattle.std.proofs.Common.{pos, ◌<ℤ◌, of_z, ap, ◌∙◌}
use Rattle.std.specs.Int.{w128, int_rem_euclid}
use Rattle.py_ints.proofs.Fitting.{plain_args, below_zero, zero_is, remainder_whole, remainder_part}
use Rattle.py_ints.proofs.arithmetic.floor_mod.Goals as goal

pub returns-then-rest-eq0 : goal.returns-then-rest-eq0
returns-then-rest-eq0 c =
    let a = c.args.a in
    let b = c.args.b in
    let low : b <ℤ pos 0 = below_zero b c.ranges.b c.if-b-eq0.false c.if-b-gt0.false in
    let rest = c.rem_euclid-rest.ensures.value ∙ plain_args int_rem_euclid a b c.ranges.a c.ranges.b in
    remainder_whole a b _ low rest (zero_is _ (record { sfits = c.rem_euclid-rest.type_inv }) c.if-rest-eq0.true)

pub returns-else-rest-eq0 : goal.returns-else-rest-eq0
returns-else-rest-eq0 c =
    let a = c.args.a in
    let b = c.args.b in
    let low : b <ℤ pos 0 = below_zero b c.ranges.b c.if-b-eq0.false c.if-b-gt0.false in
    let rest = c.rem_euclid-rest.ensures.value ∙ plain_args int_rem_euclid a b c.ranges.a c.ranges.b in
    remainder_part a b _ c.ranges.b low (record { sfits = c.rem_euclid-rest.type_inv }) rest (λ e. c.if-rest-eq0.false (ap (of_z w128) e))
