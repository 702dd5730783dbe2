-- What is built while a text is read.
use Rattle.std.specs.Prelude.{ℕ, ◌-◌, Bool, List, [], ◌∷◌, ◌++◌, length, Some, None}
use Rattle.py_ast.specs.declared.expression.Expression.{Expression}
use Rattle.py_ast.specs.declared.node.Node.{Node}
use Rattle.py_ast.specs.declared.node.Node.TheVariants as node
use Rattle.py_ast.specs.declared.program.Program.{Program}
use Rattle.py_ast.specs.declared.statement.Statement.{Statement}
use Rattle.py_ast.specs.declared.statement.Statement.TheVariants as statement
use Rattle.py_parser.specs.declared.parts.Form.{Form}
use Rattle.py_parser.specs.declared.parts.Form.TheVariants as form
use Rattle.py_parser.specs.declared.builder.Building.{Building}

abbrev pub begun : Building
begun = record {
  nodes = [];
  lines = [];
  functions = [];
  function = None;
  trees = [];
  lists = [];
  names = [];
  name_lists = [];
  suites = [];
  marks = [];
  signs = [];
  unary_signs = [];
  comparisons = [];
  links = [];
  word = [];
  line = 1;
}

-- the last token is kept, for names, literals, signs and lines
abbrev pub taken_in : List ℕ → ℕ → Building → Building
taken_in text at b = record b { word = text; line = at }

-- an act finds too little of what it asks for, which no text brings about
abbrev pub stuck : Building → Building
stuck b = record b {
  trees = [];
  lists = [];
  names = [];
  name_lists = [];
  suites = [];
  marks = [];
  signs = [];
  unary_signs = [];
  comparisons = [];
  links = [];
}

-- a node goes behind the others, so its number is how many stood before it
abbrev pub with_node : Node → ℕ → Building → Building
with_node n at b = record b { nodes = b.nodes ++ n ∷ []; lines = b.lines ++ at ∷ [] }

-- a tree of this node, with the line of its first token
abbrev pub with_tree : Node → ℕ → ℕ → Form → Building → Building
with_tree n at first_line f b = record (with_node n at b) { trees = record { number = length b.nodes; line = first_line; form = f } ∷ b.trees }

-- a suite, or an `if` that an `elif` is
abbrev pub with_suite : Statement → ℕ → Building → Building
with_suite s at b = record (with_node (node.Statement s) at b) { suites = Some (length b.nodes) ∷ b.suites }

-- an expression that is no target, a place, a statement
abbrev pub value_tree : Expression → ℕ → Building → Building
value_tree e at b = with_tree (node.Expression e) at at form.Value b

abbrev pub place_tree : Expression → ℕ → ℕ → Building → Building
place_tree e at first_line b = with_tree (node.Expression e) at first_line form.Place b

abbrev pub statement_tree : Statement → ℕ → Building → Building
statement_tree s at b = with_tree (node.Statement s) at at form.Value b

-- there is a node at least
abbrev pub rooted : List Node → Building → Building
rooted [] b = with_node (node.Statement (statement.Suite [])) b.line b
rooted (n ∷ ns) b = b

abbrev pub program : Bool → Building → Program
program is_expression b = record {
  nodes = b.nodes;
  lines = b.lines;
  root = length b.nodes - 1;
  functions = b.functions;
  handler_names = [];
  is_expression = is_expression;
}

-- The tree of a whole text: the node that was made last is its root.
abbrev pub program_of : Bool → Building → Program
program_of is_expression b = program is_expression (rooted b.nodes b)
