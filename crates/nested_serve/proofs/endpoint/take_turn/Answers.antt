use Rattle.std.proofs.Common.{subst}
use Rattle.nested_serve.specs.declared.endpoint.Turn.{Turn}
use Rattle.nested_serve.specs.declared.endpoint.Turn.TheVariants as turn
use Rattle.nested_serve.specs.Endpoints.{StandsAt}
use Rattle.nested_serve.proofs.Endpoints.{stays}
use Rattle.nested_serve.proofs.endpoint.take_turn.Goals as goal

pub returns-in-Beyond-clause-stands : goal.returns-in-Beyond-clause-stands
returns-in-Beyond-clause-stands c = λ program spent stands.
    stays program spent c.args.fuel.now c.args.machine.now (turn.Beyond c.in-Beyond.beyond) (subst (λ (t : Turn). StandsAt program spent c.args.machine.now t) c.in-Beyond.is stands)
