use Rattle.py_plain.specs.Arithmetic as arithmetic
use Rattle.value_operators.proofs.operators.binary_of_plains.Goals as goal

pub returns-clause-computes : goal.returns-clause-computes
returns-clause-computes c = c.give.ensures.computes (arithmetic.binary c.args.op c.args.left.now c.args.right.now) c.plain_binary.ensures
