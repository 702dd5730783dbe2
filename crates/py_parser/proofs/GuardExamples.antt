-- Texts with guards, by their tokens, and the place of the first token that fits nowhere.
use Rattle.std.proofs.Common.{◌≡◌, refl, ℕ, List, [], ◌∷◌, ◌++◌, map, Option, Some, None}
use Rattle.std.specs.Prelude.{codes}
use Rattle.py_grammar.specs.declared.symbol.Limits.{Limits}
use Rattle.py_grammar.specs.declared.symbol.Start.TheVariants as starts
use Rattle.py_grammar.specs.declared.terminal.Terminal.{Terminal}
use Rattle.py_grammar.specs.declared.terminal.Terminal.TheVariants as t
use Rattle.py_grammar.specs.Building.{Lexeme}
use Rattle.py_grammar.specs.Reading.{Outcome, Done, Stuck}
use Rattle.py_grammar.specs.Table.{opening}
use Rattle.py_parser.specs.declared.builder.Building.{Building}
use Rattle.py_parser.specs.Building.{begun}
use Rattle.py_parser.specs.BuildingComputing.{building_computes}
use Rattle.py_parser.specs.Stepping.{read_on}

-- all names are x, and all ints 1
abbrev pub spelling : Terminal → List ℕ
spelling t.Name = codes "x"
spelling t.Int = codes "1"
spelling t.Augmented = codes "+="
spelling _ = []

abbrev pub token : Terminal → Lexeme
token k = record { kind = k; text = spelling k; line = 1 }

abbrev pub place : Outcome Building → Option ℕ
place (Done b) = None
place (Stuck n) = Some n

-- within so many parameters or arguments
abbrev pub stuck : ℕ → List Terminal → Option ℕ
stuck most ks = place (read_on (record { levels = 100; arguments = most }) (opening starts.Script) begun (map token (ks ++ (t.End ∷ []))))

-- x(x) = 1
pub call_is_no_target : stuck 255 (t.Name ∷ t.OpenParenthesis ∷ t.Name ∷ t.CloseParenthesis ∷ t.Assign ∷ t.Int ∷ t.Newline ∷ []) ≡ Some 4
unfolding building_computes
call_is_no_target = refl

-- (x) = 1
pub parentheses_are_no_target : stuck 255 (t.OpenParenthesis ∷ t.Name ∷ t.CloseParenthesis ∷ t.Assign ∷ t.Int ∷ t.Newline ∷ []) ≡ Some 3
unfolding building_computes
parentheses_are_no_target = refl

-- x.x, x[1] = 1
pub places_are_targets :
    stuck 255 (t.Name ∷ t.Dot ∷ t.Name ∷ t.Comma ∷ t.Name ∷ t.OpenBracket ∷ t.Int ∷ t.CloseBracket ∷ t.Assign ∷ t.Int ∷ t.Newline ∷ []) ≡ None
unfolding building_computes
places_are_targets = refl

-- x, x += 1
pub tuple_is_no_place : stuck 255 (t.Name ∷ t.Comma ∷ t.Name ∷ t.Augmented ∷ t.Int ∷ t.Newline ∷ []) ≡ Some 3
unfolding building_computes
tuple_is_no_place = refl

-- within one argument: x(x,) is read, x(x, x) is stuck behind the comma
pub one_argument : stuck 1 (t.Name ∷ t.OpenParenthesis ∷ t.Name ∷ t.Comma ∷ t.CloseParenthesis ∷ t.Newline ∷ []) ≡ None
unfolding building_computes
one_argument = refl

pub two_arguments : stuck 1 (t.Name ∷ t.OpenParenthesis ∷ t.Name ∷ t.Comma ∷ t.Name ∷ t.CloseParenthesis ∷ t.Newline ∷ []) ≡ Some 4
unfolding building_computes
two_arguments = refl

-- within one parameter: lambda x, x: x is stuck at the comma
pub two_parameters : stuck 1 (t.Lambda ∷ t.Name ∷ t.Comma ∷ t.Name ∷ t.Colon ∷ t.Name ∷ t.Newline ∷ []) ≡ Some 2
unfolding building_computes
two_parameters = refl
