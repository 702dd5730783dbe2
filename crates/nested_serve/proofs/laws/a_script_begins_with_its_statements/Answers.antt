use Rattle.nested_serve.proofs.Beginning.{begins}
use Rattle.nested_serve.proofs.laws.a_script_begins_with_its_statements.Goals as goal

pub returns : goal.returns
returns c = begins
