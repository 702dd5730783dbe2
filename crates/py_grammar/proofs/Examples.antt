-- Texts, by their tokens, and the place of the first token that fits nowhere. Guards are taken to hold.
use Rattle.std.proofs.Common.{◌≡◌, refl, ℕ, true, List, [], ◌∷◌, ◌++◌, map, Option, Some, None}
use Rattle.py_grammar.specs.declared.act.Act.TheVariants as a
use Rattle.py_grammar.specs.declared.symbol.Limits.{Limits}
use Rattle.py_grammar.specs.declared.symbol.Start.{Start}
use Rattle.py_grammar.specs.declared.symbol.Start.TheVariants as starts
use Rattle.py_grammar.specs.declared.terminal.Terminal.{Terminal}
use Rattle.py_grammar.specs.declared.terminal.Terminal.TheVariants as t
use Rattle.py_grammar.specs.Building.{Lexeme}
use Rattle.py_grammar.specs.Reading.{Outcome, Done, Stuck, run}
use Rattle.py_grammar.specs.Sets.{first}
use Rattle.py_grammar.specs.Table.{opening, ways, empty}
use Rattle.py_grammar.specs.Traces.{Event, TakesIn, Does, tracing}

abbrev pub token : Terminal → Lexeme
token k = record { kind = k; text = []; line = 1 }

abbrev pub within : ℕ → Limits
within levels = record { levels = levels; arguments = 255 }

abbrev pub read : Limits → Start → List Terminal → Outcome (List Event)
read lim start ks = run (List Event) (tracing (λ l g es. true)) lim (opening start) [] (map token (ks ++ (t.End ∷ [])))

-- None where the text is read to its end
abbrev pub stuck : Outcome (List Event) → Option ℕ
stuck (Done es) = None
stuck (Stuck n) = Some n

abbrev pub script : List Terminal → Option ℕ
script ks = stuck (read (within 100) starts.Script ks)

-- the empty text, and `return` alone
pub nothing_at_all : script [] ≡ None
unfolding ways empty first
nothing_at_all = refl

pub return_alone : script (t.Return ∷ t.Newline ∷ []) ≡ None
unfolding ways empty first
return_alone = refl

-- f(,)
pub no_argument : script (t.Name ∷ t.OpenParenthesis ∷ t.Comma ∷ t.CloseParenthesis ∷ t.Newline ∷ []) ≡ Some 2
unfolding ways empty first
no_argument = refl

-- f(x,)
pub last_comma : script (t.Name ∷ t.OpenParenthesis ∷ t.Name ∷ t.Comma ∷ t.CloseParenthesis ∷ t.Newline ∷ []) ≡ None
unfolding ways empty first
last_comma = refl

-- x = ( and the end of the text
pub left_open : script (t.Name ∷ t.Assign ∷ t.OpenParenthesis ∷ []) ≡ Some 3
unfolding ways empty first
left_open = refl

-- a if b
pub no_else : script (t.Name ∷ t.If ∷ t.Name ∷ t.Newline ∷ []) ≡ Some 3
unfolding ways empty first
no_else = refl

-- a = b = c
pub two_assignments : script (t.Name ∷ t.Assign ∷ t.Name ∷ t.Assign ∷ t.Name ∷ t.Newline ∷ []) ≡ Some 3
unfolding ways empty first
two_assignments = refl

-- for f(x) in y: no target can be made of a call
pub call_as_target : script (t.For ∷ t.Name ∷ t.OpenParenthesis ∷ t.Name ∷ t.CloseParenthesis ∷ t.In ∷ t.Name ∷ t.Colon ∷ t.Pass ∷ t.Newline ∷ []) ≡ Some 5
unfolding ways empty first
call_as_target = refl

-- for f(x).a, b in y: pass
pub attribute_of_a_call :
    script (t.For ∷ t.Name ∷ t.OpenParenthesis ∷ t.Name ∷ t.CloseParenthesis ∷ t.Dot ∷ t.Name ∷ t.Comma ∷ t.Name ∷ t.In ∷ t.Name ∷ t.Colon ∷ t.Pass ∷ t.Newline ∷ []) ≡ None
unfolding ways empty first
attribute_of_a_call = refl

-- del x
pub delete_a_name : script (t.Del ∷ t.Name ∷ t.Newline ∷ []) ≡ Some 2
unfolding ways empty first
delete_a_name = refl

-- lambda a, : a
pub comma_in_a_lambda : script (t.Lambda ∷ t.Name ∷ t.Comma ∷ t.Colon ∷ t.Name ∷ t.Newline ∷ []) ≡ Some 3
unfolding ways empty first
comma_in_a_lambda = refl

-- try: pass, and nothing else
pub try_alone : script (t.Try ∷ t.Colon ∷ t.Pass ∷ t.Newline ∷ []) ≡ Some 4
unfolding ways empty first
try_alone = refl

-- an indented first line
pub indented : script (t.Indent ∷ t.Name ∷ t.Newline ∷ t.Dedent ∷ []) ≡ Some 0
unfolding ways empty first
indented = refl

-- at one level: (x) is read, ((x)) is stuck at x, and (()) is read
pub one_level : stuck (read (within 1) starts.Expression (t.OpenParenthesis ∷ t.Name ∷ t.CloseParenthesis ∷ [])) ≡ None
unfolding ways empty first
one_level = refl

pub two_levels : stuck (read (within 1) starts.Expression (t.OpenParenthesis ∷ t.OpenParenthesis ∷ t.Name ∷ t.CloseParenthesis ∷ t.CloseParenthesis ∷ [])) ≡ Some 2
unfolding ways empty first
two_levels = refl

pub empty_inside : stuck (read (within 1) starts.Expression (t.OpenParenthesis ∷ t.OpenParenthesis ∷ t.CloseParenthesis ∷ t.CloseParenthesis ∷ [])) ≡ None
unfolding ways empty first
empty_inside = refl

-- at level 0 no suite can be opened
pub no_suite : stuck (read (within 0) starts.Script (t.While ∷ t.Name ∷ t.Colon ∷ t.Pass ∷ t.Newline ∷ [])) ≡ Some 0
unfolding ways empty first
no_suite = refl

-- 1, 2 is no single expression
pub comma_outside : stuck (read (within 100) starts.Expression (t.Int ∷ t.Comma ∷ t.Int ∷ t.Newline ∷ [])) ≡ Some 1
unfolding ways empty first
comma_outside = refl

-- a < b < c is one chain: what happens, the first first
abbrev pub acts : List Event → List Event → List Event
acts [] done = done
acts (TakesIn u ∷ es) done = acts es done
acts (Does a.Nothing ∷ es) done = acts es done
acts (Does x ∷ es) done = acts es (Does x ∷ done)

abbrev pub acts_of : Outcome (List Event) → List Event
acts_of (Done es) = acts es []
acts_of (Stuck n) = []

pub comparisons : acts_of (read (within 100) starts.Expression (t.Name ∷ t.Comparison ∷ t.Name ∷ t.Comparison ∷ t.Name ∷ []))
    ≡ Does a.MakeName ∷ Does a.BeginLinks ∷ Does a.ComparisonSign ∷ Does a.MakeName ∷ Does a.AddLink ∷ Does a.ComparisonSign ∷ Does a.MakeName ∷ Does a.AddLink ∷ Does a.MakeCompare ∷ []
unfolding ways empty first
comparisons = refl

-- a - b - c groups from the left, a ** b ** c from the right
pub differences : acts_of (read (within 100) starts.Expression (t.Name ∷ t.Minus ∷ t.Name ∷ t.Minus ∷ t.Name ∷ []))
    ≡ Does a.MakeName ∷ Does a.BinarySign ∷ Does a.MakeName ∷ Does a.MakeBinary ∷ Does a.BinarySign ∷ Does a.MakeName ∷ Does a.MakeBinary ∷ []
unfolding ways empty first
differences = refl

pub powers : acts_of (read (within 100) starts.Expression (t.Name ∷ t.DoubleStar ∷ t.Name ∷ t.DoubleStar ∷ t.Name ∷ []))
    ≡ Does a.MakeName ∷ Does a.BinarySign ∷ Does a.MakeName ∷ Does a.BinarySign ∷ Does a.MakeName ∷ Does a.MakeBinary ∷ Does a.MakeBinary ∷ []
unfolding ways empty first
powers = refl

-- not a == b
pub not_behind_comparison : acts_of (read (within 100) starts.Expression (t.Not ∷ t.Name ∷ t.Comparison ∷ t.Name ∷ []))
    ≡ Does a.Mark ∷ Does a.MakeName ∷ Does a.BeginLinks ∷ Does a.ComparisonSign ∷ Does a.MakeName ∷ Does a.AddLink ∷ Does a.MakeCompare ∷ Does a.MakeNot ∷ []
unfolding ways empty first
not_behind_comparison = refl
