use Rattle.eval_comparing.proofs.PairLaws.{tuple_met}
use Rattle.eval_comparing.proofs.meeting.meet.Goals as goal

pub meet_tuples-requires : goal.meet_tuples-requires
meet_tuples-requires c = tuple_met c.args.left.now c.args.right.now c.in-Tuple.field-0 c.in-Tuple.is c.requires
