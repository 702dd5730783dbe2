use Rattle.std.proofs.Common.{arith}
use Rattle.language_rules.specs.Going.{done}
use Rattle.nested_serve.proofs.Steps.{carried_out}
use Rattle.nested_serve.proofs.at_once.execute_at_once.Goals as goal

pub returns : goal.returns
returns c =
    (carried_out c.args.machine.now c.execute.new.store c.args.env c.args.number c.args.fuel.now c.in_ok-left.left done c.deref.result.now c.deref.ensures.value c.in_ok-left.ensures.0 c.in_ok-left.ensures.1, omega (arith, c.in_ok-left.ensures.1))
