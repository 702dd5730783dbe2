use Rattle.eval_comparing.proofs.PairLaws.{plain_tuple_met, plains_met}
use Rattle.eval_comparing.proofs.meeting.meet_plain.Goals as goal

pub meet_tuples-requires : goal.meet_tuples-requires
meet_tuples-requires c = plain_tuple_met c.args.left.now c.args.right.now c.args.plain.now c.in-Tuple.field-0 c.requires.plain c.in-Tuple.is

pub returns-in-Plain : goal.returns-in-Plain
returns-in-Plain c = plains_met c.args.left.now c.args.right.now c.args.plain.now c.in-Plain.other c.equal.result c.requires.plain c.in-Plain.is c.equal.ensures
