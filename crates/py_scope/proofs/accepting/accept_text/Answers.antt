use Rattle.std.proofs.Common.{subst, List, Err}
use Rattle.py_lexer.specs.declared.token.Token.{Token}
use Rattle.py_parser.specs.Lexemes.{lexemes}
use Rattle.py_parser.specs.Parsing.{Parsed}
use Rattle.py_scope.proofs.AcceptLaws.{no_tree_end, short_text}
use Rattle.py_scope.proofs.accepting.accept_text.Goals as goal

pub parse_from-requires : goal.parse_from-requires
parse_from-requires c = short_text c.args.text.now c.in_ok-tokens.tokens.items c.in_ok-tokens.ensures.read

pub returns-in_err-tree : goal.returns-in_err-tree
returns-in_err-tree c =
    no_tree_end c.args.start c.args.text.now c.in_ok-tokens.tokens.items c.in_err-tree.field-0.0 c.from_residual-in_err-tree.result (c.utf8.text, c.in_ok-tokens.ensures.read)
    (subst (λ (ts : List Token). Parsed c.args.start (lexemes c.args.text.now ts) (Err c.in_err-tree.field-0.0)) c.as_slice.ensures.value c.in_err-tree.ensures)
    c.from_residual-in_err-tree.ensures.1
