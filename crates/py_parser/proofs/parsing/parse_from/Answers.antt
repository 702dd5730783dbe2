use Rattle.py_parser.specs.Lexemes.{lexemes}
use Rattle.py_parser.proofs.PlaceLaws.{tree_of}
use Rattle.py_parser.proofs.parsing.parse_from.Goals as goal

pub returns-in_ok-finish-in-Done : goal.returns-in_ok-finish-in-Done
returns-in_ok-finish-in-Done c =
    tree_of c.args.start (lexemes c.args.text.now c.args.tokens.now) c.in-Done.building c.in_ok-finish-in-Done.field-0 c.is_expression.result c.in_ok-building.field-0 c.in_ok-building.ensures
    c.in-Done.is c.is_expression.ensures c.in_ok-finish-in-Done.ensures
