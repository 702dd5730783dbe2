use Rattle.std.proofs.Common.{arith}
use Rattle.nested_serve.proofs.Steps.{names_handler}
use Rattle.nested_serve.proofs.running.advance_by_name.Goals as goal

pub returns-clause-run : goal.returns-clause-run
returns-clause-run c = λ machine. names_handler machine c.args.fuel.now c.in-Some.left (omega (arith, c.in-Some.ensures.0, c.in-Some.ensures.1))
