use Rattle.eval_comparing.specs.Answers.{pairs_of}
use Rattle.eval_comparing.proofs.PairLaws.{pair_taken}
use Rattle.eval_comparing.proofs.meeting.paired.Goals as goal

pub items-preserved : goal.items-preserved
items-preserved c = pair_taken c.items.lefts c.items.rights c.pop.new.self c.pop-in-Some.new.self c.in-Some.left c.in-Some-pop.right c.items.pairs c.push.new.self (pairs_of c.args.lefts c.args.rights) (rw c.in-Some.is at c.pop.ensures) (rw c.in-Some-pop.is at c.pop-in-Some.ensures) c.in_ok-push-in-Some-pop.ensures.ok c.items.invariant.0 c.items.invariant.1
