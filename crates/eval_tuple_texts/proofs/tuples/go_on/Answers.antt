use Rattle.std.proofs.Common.{reverse}
use Rattle.eval_tuple_texts.proofs.TextLaws.{too_long}
use Rattle.eval_tuple_texts.specs.TextLevels.{texts_around, turn_step}
use Rattle.eval_tuple_texts.proofs.tuples.go_on.Goals as goal

pub returns-in-TooLong : goal.returns-in-TooLong
returns-in-TooLong c = too_long c.turns.levels c.turns.turn (texts_around (reverse c.args.levels) (turn_step c.args.turn)) c.in-TooLong.is c.turns.invariant.1
