use Rattle.std.proofs.Common.{◌∙◌, sym}
use Rattle.py_parser.specs.Lexemes.{lexemes}
use Rattle.py_parser.proofs.PlaceLaws.{one_before}
use Rattle.py_parser.proofs.parsing.kind_before.Goals as goal

pub returns : goal.returns
returns c = c.kind_at.ensures ∙ sym (one_before c.args.place (lexemes c.args.text.now c.args.tokens.now) c.if-place-eq0.false)
