use Rattle.host_api.proofs.Limits.{int_within}
use Rattle.host_api.proofs.tests.TallyHost.call.Goals as goal

pub returns-clause-limits : goal.returns-clause-limits
returns-clause-limits c = int_within _
