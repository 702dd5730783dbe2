use Rattle.std.proofs.Common.{◌-◌, ◌*◌, ◌^◌, ◌<◌, ◌≤◌, ℤ, pos, ◌-ℤ◌, FitsSigned, arith, subst}
use Rattle.std.specs.Int.{w128}
use Rattle.std.specs.Option.{SomeIff}
use Rattle.std.proofs.lemmas.Int.{to_z-of_z}
use Rattle.language_rules.specs.Ranges.{above}
use Rattle.eval_ranges.proofs.RangeLemmas.{distance_fits, inside, down_is_there}
use Rattle.eval_ranges.proofs.numbers.going_down.Goals as goal

pub overflow_mul-place : goal.overflow_mul-place
overflow_mul-place c =
    let w : c.args.place * c.args.width < above c.args.start c.args.stop = inside (above c.args.start c.args.stop) c.args.width c.args.place c.requires in
    let m : above c.args.start c.args.stop ≤ 2 ^ 128 - 1 = distance_fits c.args.start c.args.stop c.ranges.start c.ranges.stop in
    record { fits = omega (arith, w, m) }

pub unwrap-requires : goal.unwrap-requires
unwrap-requires c =
    let d = c.args.place * c.args.width in
    down_is_there c.checked_sub_unsigned.result c.args.start c.args.stop d c.ranges.start c.ranges.stop
    (subst (λ (x : ℤ). SomeIff c.checked_sub_unsigned.result (FitsSigned w128 (x -ℤ pos d)) (x -ℤ pos d)) (to_z-of_z w128 c.args.start c.ranges.start) c.checked_sub_unsigned.ensures)
    (inside (above c.args.start c.args.stop) c.args.width c.args.place c.requires)
