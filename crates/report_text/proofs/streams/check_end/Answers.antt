use Rattle.std.proofs.Common.{sym}
use Rattle.report_text.proofs.Steps.{end_checked}
use Rattle.report_text.proofs.streams.check_end.Goals as goal

pub returns : goal.returns
returns c = sym (end_checked c.args.start c.args.bytes.now c.requires c.if-start-bytes.false)
