-- A text has a tree or a refusal, and one alone.
use Rattle.std.proofs.Common.{◌≡◌, ◌∙◌, sym, refl, ap, List}
use Rattle.py_ast.specs.declared.program.Program.{Program}
use Rattle.py_grammar.specs.declared.symbol.Start.{Start}
use Rattle.py_grammar.specs.Building.{Lexeme}
use Rattle.py_grammar.specs.Reading.{Done}
use Rattle.py_grammar.specs.Table.{opening}
use Rattle.py_grammar.proofs.RuleLaws.{passed-of}
use Rattle.py_grammar.proofs.TextLaws.{reads-exactly, has-one-tree, start-reach}
use Rattle.rp_base.specs.declared.rules.Refused.{Refused}
use Rattle.py_parser.specs.declared.builder.Building.{Building}
use Rattle.py_parser.specs.Building.{begun, program_of}
use Rattle.py_parser.specs.BuildingActs.{builder}
use Rattle.py_parser.specs.Parsing.{script_limits, is_expression, HasTree, IsFirstMisfit}

pub one_tree : (start : Start) (ts : List Lexeme) (p q : Program) → HasTree start ts p → HasTree start ts q → p ≡ q
one_tree start ts p q h i =
    h.2 ∙ ap (program_of (is_expression start)) (has-one-tree Building builder script_limits start begun h.0 i.0 ts h.1 i.1) ∙ sym i.2

pub not_both : (start : Start) (ts : List Lexeme) (p : Program) (refused : Refused) → HasTree start ts p → IsFirstMisfit start ts refused → ⊥
not_both start ts p refused h i =
    i.2.2 (passed-of Building builder script_limits (opening start) begun ts i.0 i.1 (Done h.0) (start-reach script_limits start) ((reads-exactly Building builder script_limits start begun h.0 ts).1 h.1) i.2.0 refl)
