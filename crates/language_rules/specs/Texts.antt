-- What is found in a side's texts: nodes and functions by their numbers.
use Rattle.std.specs.Prelude.{ℕ, Bool, true, false, List, [], ◌∷◌, slice_get, Option, Some, None, if◌then◌else◌}
use Rattle.std.specs.Str.{bytes_eq}
use Rattle.py_ast.specs.declared.node.Node.{Node}
use Rattle.py_ast.specs.declared.node.Node.TheVariants as node
use Rattle.py_ast.specs.declared.program.FunctionInfo.{FunctionInfo}
use Rattle.py_ast.specs.declared.program.Program.{Program}
use Rattle.py_ast.specs.declared.statement.Statement.{Statement}
use Rattle.py_ast.specs.declared.statement.Statement.TheVariants as statement
use Rattle.py_ast.specs.declared.target.Target.{Target}
use Rattle.language_rules.specs.Codes.{Env}
use Rattle.language_rules.specs.States.{State}
use Rattle.language_rules.specs.Going.{RuleTree, nowhere, looks, executes_all}

-- whether the name is among these
abbrev pub has_name : List ℕ → List (List ℕ) → Bool
has_name name [] = false
has_name name (other ∷ others) = if bytes_eq name other then true else has_name name others

-- ---- by number

-- a text of the side, by its number
abbrev pub text_at : State → ℕ → Option Program
text_at s number = slice_get s.texts number

-- a node of a text
abbrev pub node_of : Option Program → ℕ → Option Node
node_of None number = None
node_of (Some p) number = slice_get p.nodes number

-- the node of this number in the text that runs
abbrev pub node_at : State → Env → ℕ → Option Node
node_at s env number = node_of (text_at s env.text) number

-- a function of a text
abbrev pub function_of : Option Program → ℕ → Option FunctionInfo
function_of None number = None
function_of (Some p) number = slice_get p.functions number

-- the function of this number in the text of this number
abbrev pub function_at : State → ℕ → ℕ → Option FunctionInfo
function_at s text number = function_of (text_at s text) number

-- the names after `as` in a text
abbrev pub handler_names_of : Option Program → List (List ℕ)
handler_names_of None = []
handler_names_of (Some p) = p.handler_names

-- ---- on with a node of one kind

-- on with it, where it is a statement
abbrev pub as_statement : (Statement → RuleTree) → Option Node → RuleTree
as_statement f (Some (node.Statement s)) = f s
as_statement f _ = nowhere

-- on with the statement of this number
abbrev pub on_statement : Env → ℕ → (Statement → RuleTree) → RuleTree
on_statement env number f = looks (λ s. as_statement f (node_at s env number))

-- on with it, where it is a target
abbrev pub as_target : (Target → RuleTree) → Option Node → RuleTree
as_target f (Some (node.Target t)) = f t
as_target f _ = nowhere

-- on with the target of this number
abbrev pub on_target : Env → ℕ → (Target → RuleTree) → RuleTree
on_target env number f = looks (λ s. as_target f (node_at s env number))

-- on with its statements, where it is a suite
abbrev pub as_suite : (List ℕ → RuleTree) → Statement → RuleTree
as_suite f (statement.Suite statements) = f statements
as_suite f _ = nowhere

-- on with the statements of the suite of this number
abbrev pub on_suite : Env → ℕ → (List ℕ → RuleTree) → RuleTree
on_suite env number f = on_statement env number (as_suite f)

-- on with it, where it is there
abbrev pub as_function : (FunctionInfo → RuleTree) → Option FunctionInfo → RuleTree
as_function f (Some info) = f info
as_function f None = nowhere

-- on with the function of this number in the text of that number
abbrev pub on_function : ℕ → ℕ → (FunctionInfo → RuleTree) → RuleTree
on_function text number f = looks (λ s. as_function f (function_at s text number))

-- the statements of a suite in turn; a suite itself costs nothing
abbrev pub executes_suite : Env → ℕ → RuleTree
executes_suite env number = on_suite env number (executes_all env)
