-- Marks, names and lists that wait to be used.
use Rattle.std.specs.Prelude.{ℕ, List, [], ◌∷◌, ◌++◌, Some, None}
use Rattle.py_ast.specs.declared.expression.Link.{Link}
use Rattle.py_ast.specs.declared.name.Name.{Name}
use Rattle.py_ast.specs.declared.statement.Statement.TheVariants as statement
use Rattle.py_parser.specs.declared.builder.Building.{Building}
use Rattle.py_parser.specs.declared.parts.Form.TheVariants as form
use Rattle.py_parser.specs.declared.parts.Gathering.{Gathering}
use Rattle.py_parser.specs.declared.parts.Sign.{Sign}
use Rattle.py_parser.specs.declared.parts.Tree.{Tree}
use Rattle.py_parser.specs.Building.{stuck, with_suite}
use Rattle.py_parser.specs.BuildingParts.{joined}

-- something begins on the line of the last token
abbrev pub mark : Building → Building
mark b = record b { marks = b.line ∷ b.marks }

abbrev pub begin_list : Building → Building
begin_list b = record b { lists = record { numbers = []; line = b.line; form = form.Places } ∷ b.lists }

-- a list that begins with a tree
abbrev pub begin_with : List Tree → Building → Building
begin_with (tree ∷ trees) b = record b {
  trees = trees;
  lists = record { numbers = tree.number ∷ []; line = tree.line; form = joined form.Places tree.form } ∷ b.lists;
}
begin_with [] b = stuck b

abbrev pub with_number : Tree → Gathering → Gathering
with_number tree list = record list { numbers = list.numbers ++ tree.number ∷ []; form = joined list.form tree.form }

abbrev pub add : List Tree → List Gathering → Building → Building
add (tree ∷ trees) (list ∷ lists) b = record b { trees = trees; lists = with_number tree list ∷ lists }
add _ _ b = stuck b

-- the last token, as a name
abbrev pub last_name : Building → Name
last_name b = record { text = b.word; line = b.line }

abbrev pub begin_names : Building → Building
begin_names b = record b { name_lists = [] ∷ b.name_lists }

abbrev pub add_name : List (List Name) → Building → Building
add_name (names ∷ lists) b = record b { name_lists = (names ++ last_name b ∷ []) ∷ lists }
add_name [] b = stuck b

abbrev pub name : Building → Building
name b = record b { names = Some (last_name b) ∷ b.names }

abbrev pub no_name : Building → Building
no_name b = record b { names = None ∷ b.names }

-- the statements gathered are a suite
abbrev pub suite : List Gathering → Building → Building
suite (list ∷ lists) b = with_suite (statement.Suite list.numbers) list.line (record b { lists = lists })
suite [] b = stuck b

abbrev pub no_suite : Building → Building
no_suite b = record b { suites = None ∷ b.suites }

abbrev pub begin_links : Building → Building
begin_links b = record b { links = [] ∷ b.links }

abbrev pub link : Sign → Tree → Link
link sign tree = record { comparison = sign.comparison; line = sign.line; right = tree.number }

abbrev pub add_link : List Tree → List Sign → List (List Link) → Building → Building
add_link (tree ∷ trees) (sign ∷ signs) (links ∷ others) b =
    record b { trees = trees; comparisons = signs; links = (links ++ link sign tree ∷ []) ∷ others }
add_link _ _ _ b = stuck b

-- in parentheses it is no target, and begins with the parenthesis
abbrev pub within : List Tree → List ℕ → Building → Building
within (tree ∷ trees) (at ∷ marks) b =
    record b { trees = record { number = tree.number; line = at; form = form.Value } ∷ trees; marks = marks }
within _ _ b = stuck b
