use Rattle.nested_serve.proofs.Endpoints.{at_first}
use Rattle.nested_serve.proofs.endpoint.Endpoint.new.Goals as goal

pub returns-clause-stands : goal.returns-clause-stands
returns-clause-stands c = at_first c.args.program c.in_ok-machine.machine c.in_ok-machine.first c.in_ok-machine.ensures
