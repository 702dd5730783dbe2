use Rattle.std.proofs.Common.{◌-◌, ◌*◌, ◌^◌, ◌<◌, ◌≤◌, ℤ, pos, ◌+ℤ◌, FitsSigned, arith, subst}
use Rattle.std.specs.Int.{w128}
use Rattle.std.specs.Option.{SomeIff}
use Rattle.std.proofs.lemmas.Int.{to_z-of_z}
use Rattle.language_rules.specs.Ranges.{above}
use Rattle.eval_ranges.proofs.RangeLemmas.{distance_fits, inside, up_is_there}
use Rattle.eval_ranges.proofs.numbers.going_up.Goals as goal

pub overflow_mul-place : goal.overflow_mul-place
overflow_mul-place c =
    let w : c.args.place * c.args.width < above c.args.stop c.args.start = inside (above c.args.stop c.args.start) c.args.width c.args.place c.requires in
    let m : above c.args.stop c.args.start ≤ 2 ^ 128 - 1 = distance_fits c.args.stop c.args.start c.ranges.stop c.ranges.start in
    record { fits = omega (arith, w, m) }

pub unwrap-requires : goal.unwrap-requires
unwrap-requires c =
    let d = c.args.place * c.args.width in
    up_is_there c.checked_add_unsigned.result c.args.start c.args.stop d c.ranges.start c.ranges.stop
    (subst (λ (x : ℤ). SomeIff c.checked_add_unsigned.result (FitsSigned w128 (x +ℤ pos d)) (x +ℤ pos d)) (to_z-of_z w128 c.args.start c.ranges.start) c.checked_add_unsigned.ensures)
    (inside (above c.args.stop c.args.start) c.args.width c.args.place c.requires)
