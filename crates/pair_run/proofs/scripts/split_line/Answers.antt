use Rattle.pair_run.proofs.Lines.{split_at_feed, split_at_end}
use Rattle.pair_run.proofs.scripts.split_line.Goals as goal

pub returns-in-Some-clause-lines : goal.returns-in-Some-clause-lines
returns-in-Some-clause-lines c = split_at_feed c.args.text.now c.in-Some.end c.in-Some.ensures

pub returns-in-None-clause-lines : goal.returns-in-None-clause-lines
returns-in-None-clause-lines c = split_at_end c.args.text.now c.in-None.ensures c.requires
