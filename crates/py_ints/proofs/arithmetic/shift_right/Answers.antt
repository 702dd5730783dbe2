use Rattle.std.proofs.Common.{pos, ◌<ℤ◌, ◌≤ℤ◌, arith}
use Rattle.std.proofs.lemmas.Int.{ints}
use Rattle.py_ints.proofs.Powers.{far_below, far_above}
use Rattle.py_ints.proofs.arithmetic.shift_right.Goals as goal

pub returns-then-a-lt0 : goal.returns-then-a-lt0
returns-then-a-lt0 c =
    let high : pos 127 <ℤ c.args.b = grind (arith, ints) in
    let below : c.args.a <ℤ pos 0 = grind (arith, ints) in
    far_below c.args.a c.args.b c.ranges.a high below

pub returns-else-a-lt0 : goal.returns-else-a-lt0
returns-else-a-lt0 c =
    let high : pos 127 <ℤ c.args.b = grind (arith, ints) in
    let above : pos 0 ≤ℤ c.args.a = grind (arith, ints) in
    far_above c.args.a c.args.b c.ranges.a high above
