use Rattle.py_grammar.specs.Table.{opening}
use Rattle.py_parser.specs.Building.{begun}
use Rattle.py_parser.specs.Lexemes.{lexemes}
use Rattle.py_parser.specs.Stepping.{read_on}
use Rattle.py_parser.proofs.ReadLaws.{closed_here}
use Rattle.py_parser.proofs.reading.read.Goals as goal

pub returns-in-Closed : goal.returns-in-Closed
returns-in-Closed c =
    closed_here c.args.limits.now c.loop-place.place c.args.text.now c.slice-word.result.now c.args.tokens.now _ c.terminal_of-terminal.result c.loop-place.stack c.take.new.stack
    c.loop-place.building c.take.new.building c.in_ok-take.field-0 (read_on c.args.limits.now (opening c.args.start) begun (lexemes c.args.text.now c.args.tokens.now))
    c.loop-place-test.true c.terminal_of-terminal.ensures c.slice-word.ensures c.in_ok-take.ensures c.in-Closed.is c.loop-place.invariant
