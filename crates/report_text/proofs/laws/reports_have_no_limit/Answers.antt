use Rattle.report_text.proofs.Limits.{wants_memory}
use Rattle.report_text.proofs.laws.reports_have_no_limit.Goals as goal

pub returns : goal.returns
returns c = wants_memory
