use Rattle.py_parser.proofs.SizeLaws.{falls}
use Rattle.py_parser.proofs.reading.take.Goals as goal

pub opening-smaller-in-Open-1 : goal.opening-smaller-in-Open-1
opening-smaller-in-Open-1 c =
    falls c.args.limits.now c.in-Some-Word.level c.opening.bound c.opening.building c.in-Some-Word.field-0 c.opening.stack c.pop.new.self c.open_word.new.stack c.in-Some-Word.word c.args.terminal
    c.in_ok-open_word-in-Some-Word.field-0 c.in_ok-open_word-in-Some-Word.ensures c.in-Open.is c.in-Some-Word.ensures c.if-bound-eq0.false
