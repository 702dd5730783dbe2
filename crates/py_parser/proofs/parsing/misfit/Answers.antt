use Rattle.py_parser.proofs.PlaceLaws.{misfit_of}
use Rattle.py_parser.proofs.parsing.misfit.Goals as goal

pub returns : goal.returns
returns c =
    misfit_of c.args.start c.args.text.now c.args.tokens.now c.args.place (record { line = c.line_at-line.result; rule = c.in_ok-rule.rule }) c.requires.stuck c.in_ok-rule.ensures
    c.line_at-line.ensures
