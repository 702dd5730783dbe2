use Rattle.py_ints.proofs.Powers.{wide_size, even_size, odd_size}
use Rattle.py_ints.proofs.arithmetic.huge_power.Goals as goal

pub returns-then-unsigned_abs-gt1 : goal.returns-then-unsigned_abs-gt1
returns-then-unsigned_abs-gt1 c = wide_size c.args.a c.args.b c.unsigned_abs.result c.ranges.a c.unsigned_abs.ensures.value c.if-unsigned_abs-gt1.true c.requires

pub returns-then-b-eq0 : goal.returns-then-b-eq0
returns-then-b-eq0 c = even_size c.args.a c.args.b c.unsigned_abs.result c.ranges.a c.ranges.b c.unsigned_abs.ensures.value c.if-unsigned_abs-gt1.false c.requires c.if-b-eq0.true

pub returns-else-b-eq0 : goal.returns-else-b-eq0
returns-else-b-eq0 c = odd_size c.args.a c.args.b c.unsigned_abs.result c.ranges.a c.ranges.b c.unsigned_abs.ensures.value c.if-unsigned_abs-gt1.false c.requires c.if-b-eq0.false
