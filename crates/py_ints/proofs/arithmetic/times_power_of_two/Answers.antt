use Rattle.std.proofs.Common.{◌∙◌}
use Rattle.py_ints.proofs.Powers.{times_power}
use Rattle.py_ints.proofs.arithmetic.times_power_of_two.Goals as goal

pub returns : goal.returns
returns c = c.multiply.ensures ∙ times_power c.args.a c.args.count c.ranges.a c.requires
