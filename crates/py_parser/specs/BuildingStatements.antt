-- The statements that acts make of the parts that wait. Lists of parts have the last one first.
use Rattle.std.specs.Prelude.{ℕ, List, [], ◌∷◌, Option, Some}
use Rattle.py_ast.specs.declared.name.Name.{Name}
use Rattle.py_ast.specs.declared.statement.Statement.{Statement}
use Rattle.py_ast.specs.declared.statement.Statement.TheVariants as statement
use Rattle.py_parser.specs.declared.builder.Building.{Building}
use Rattle.py_parser.specs.declared.parts.Gathering.{Gathering}
use Rattle.py_parser.specs.declared.parts.Tree.{Tree}
use Rattle.py_parser.specs.Building.{stuck, statement_tree, with_suite}

-- `pass`, `break` and `continue` are the last token
abbrev pub word_alone : Statement → Building → Building
word_alone s b = statement_tree s b.line b

abbrev pub alone : List Tree → Building → Building
alone (tree ∷ trees) b = statement_tree (statement.Alone tree.number) tree.line (record b { trees = trees })
alone [] b = stuck b

abbrev pub give_back : List Tree → List ℕ → Building → Building
give_back (tree ∷ trees) (at ∷ marks) b = statement_tree (statement.Return (Some tree.number)) at (record b { trees = trees; marks = marks })
give_back _ _ b = stuck b

-- `return` or `raise` with nothing behind it
abbrev pub bare : Statement → List ℕ → Building → Building
bare s (at ∷ marks) b = statement_tree s at (record b { marks = marks })
bare s [] b = stuck b

abbrev pub raise_name : List (Option Name) → List ℕ → Building → Building
raise_name (Some n ∷ names) (at ∷ marks) b = statement_tree (statement.RaiseName n) at (record b { names = names; marks = marks })
raise_name _ _ b = stuck b

abbrev pub raise_call : List Gathering → List (Option Name) → List ℕ → Building → Building
raise_call (arguments ∷ lists) (Some n ∷ names) (at ∷ marks) b =
    statement_tree (statement.RaiseCall n arguments.numbers) at (record b { lists = lists; names = names; marks = marks })
raise_call _ _ _ b = stuck b

-- `global` or `nonlocal`
abbrev pub declare : (List Name → Statement) → List (List Name) → List ℕ → Building → Building
declare make (names ∷ others) (at ∷ marks) b = statement_tree (make names) at (record b { name_lists = others; marks = marks })
declare make _ _ b = stuck b

abbrev pub branch : List Tree → List (Option ℕ) → List ℕ → Building → Building
branch (test ∷ trees) (otherwise ∷ Some body ∷ suites) (at ∷ marks) b =
    statement_tree (statement.If test.number body otherwise) at (record b { trees = trees; suites = suites; marks = marks })
branch _ _ _ b = stuck b

-- an `elif`: what the `if` before it does otherwise
abbrev pub other_branch : List Tree → List (Option ℕ) → List ℕ → Building → Building
other_branch (test ∷ trees) (otherwise ∷ Some body ∷ suites) (at ∷ marks) b =
    with_suite (statement.If test.number body otherwise) at (record b { trees = trees; suites = suites; marks = marks })
other_branch _ _ _ b = stuck b

abbrev pub loop_while : List Tree → List (Option ℕ) → List ℕ → Building → Building
loop_while (test ∷ trees) (Some body ∷ suites) (at ∷ marks) b =
    statement_tree (statement.While test.number body) at (record b { trees = trees; suites = suites; marks = marks })
loop_while _ _ _ b = stuck b

abbrev pub attempt : List Gathering → List (Option ℕ) → List ℕ → Building → Building
attempt (handlers ∷ lists) (last ∷ Some body ∷ suites) (at ∷ marks) b =
    statement_tree (statement.Try body handlers.numbers last) at (record b { lists = lists; suites = suites; marks = marks })
attempt _ _ _ b = stuck b

abbrev pub handler : List (List Name) → List (Option Name) → List (Option ℕ) → List ℕ → Building → Building
handler (kinds ∷ others) (n ∷ names) (Some body ∷ suites) (at ∷ marks) b =
    statement_tree (statement.Except kinds n body) at (record b { name_lists = others; names = names; suites = suites; marks = marks })
handler _ _ _ _ b = stuck b

abbrev pub make_class : List (Option Name) → List (Option ℕ) → List ℕ → Building → Building
make_class (base ∷ Some n ∷ names) (Some body ∷ suites) (at ∷ marks) b =
    statement_tree (statement.Class n base body) at (record b { names = names; suites = suites; marks = marks })
make_class _ _ _ b = stuck b
