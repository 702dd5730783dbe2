use Rattle.eval_targets.proofs.Settling.{ends_left, ends_raised}
use Rattle.eval_targets.proofs.settled.failed.Goals as goal

pub returns-in-Raise : goal.returns-in-Raise
returns-in-Raise c = record {
  ends = λ env s s' t f h. ends_raised env s s' t f c.args.end c.in-Raise.raised c.in-Raise.is h;
}

pub returns-in-Beyond : goal.returns-in-Beyond
returns-in-Beyond c = record {
  ends = λ env s s' t f h. ends_left env s s' t f c.args.end c.in-Beyond.beyond c.in-Beyond.is h;
}
