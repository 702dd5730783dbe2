use Rattle.std.proofs.Common.{arith}
use Rattle.nested_serve.proofs.Steps.{performs}
use Rattle.nested_serve.proofs.performing.advance_performing.Goals as goal

pub returns-in_ok-begin_operation-in-Some-clause-run : goal.returns-in_ok-begin_operation-in-Some-clause-run
returns-in_ok-begin_operation-in-Some-clause-run c =
    performs c.args.machine.now c.begin_operation.new.machine c.args.operation c.in_ok-begin_operation-in-Some.field-0 c.args.fuel.now c.in-Some.left (omega (arith, c.in-Some.ensures.0, c.in-Some.ensures.1))
    c.in_ok-begin_operation-in-Some.ensures.means c.in_ok-begin_operation-in-Some.ensures.light
