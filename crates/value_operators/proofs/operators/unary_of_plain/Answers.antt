use Rattle.py_plain.specs.Arithmetic as arithmetic
use Rattle.value_operators.proofs.AnswerLemmas.{or_no_memory}
use Rattle.value_operators.proofs.operators.unary_of_plain.Goals as goal

pub returns-clause-computes : goal.returns-clause-computes
returns-clause-computes c =
    c.give.ensures.computes (arithmetic.unary c.args.op c.args.operand.now) (or_no_memory (arithmetic.unary c.args.op c.args.operand.now) c.plain_unary.result c.plain_unary.ensures)
