use Rattle.std.proofs.Common.{arith}
use Rattle.language_rules.specs.Codes.{Gives}
use Rattle.nested_serve.proofs.Steps.{carried_out}
use Rattle.nested_serve.proofs.at_once.carry_out.Goals as goal

pub returns-in-Some : goal.returns-in-Some
returns-in-Some c =
    (carried_out c.args.machine.now c.args.machine.now.store c.args.env c.args.number c.args.fuel.now c.in-Some.evaluated.left (Gives c.in-Some.evaluated.value) c.deref.result.now c.deref.ensures.value c.in-Some.ensures.0 c.in-Some.ensures.1, omega (arith, c.in-Some.ensures.1))
