use Rattle.std.proofs.Common.{◌≡◌, reverse}
use Rattle.eval_tuple_texts.specs.TextLevels.{AsksOne, texts_around, turn_step}
use Rattle.eval_tuple_texts.proofs.tuples.go_on.Given as goal

abbrev pub invariant-turns : goal.invariant-turns
invariant-turns l = AsksOne l.turn × (texts_around (reverse l.fn.levels) (turn_step l.fn.turn) ≡ texts_around (reverse l.levels) (turn_step l.turn))
