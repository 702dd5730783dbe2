-- The parts of a node, by their numbers in written order, and the trees whose numbers are in order.
use Rattle.std.specs.Prelude.{◌≡◌, ◌<◌, ◌+◌, ℕ, length, List, [], ◌∷◌, ◌++◌, map, slice_get, Some}
use Rattle.std.specs.Option.{option_to_list}
use Rattle.py_ast.specs.declared.expression.Expression.{Expression}
use Rattle.py_ast.specs.declared.expression.Expression.TheVariants as expression
use Rattle.py_ast.specs.declared.node.Node.{Node}
use Rattle.py_ast.specs.declared.node.Node.TheVariants as node
use Rattle.py_ast.specs.declared.program.FunctionInfo.{FunctionInfo}
use Rattle.py_ast.specs.declared.program.Program.{Program}
use Rattle.py_ast.specs.declared.statement.Statement.{Statement}
use Rattle.py_ast.specs.declared.statement.Statement.TheVariants as statement
use Rattle.py_ast.specs.declared.target.Target.{Target}
use Rattle.py_ast.specs.declared.target.Target.TheVariants as target

abbrev pub expression_parts : Expression → List ℕ
expression_parts (expression.Name word) = []
expression_parts (expression.Builtin function) = []
expression_parts (expression.Constant value) = []
expression_parts (expression.Tuple items) = items
expression_parts (expression.List items) = items
expression_parts (expression.Dict items) = items
expression_parts (expression.Lambda function) = []
expression_parts (expression.Conditional first test last) = first ∷ test ∷ last ∷ []
expression_parts (expression.Or operands) = operands
expression_parts (expression.And operands) = operands
expression_parts (expression.Compare first links) = first ∷ map (λ link. link.right) links
expression_parts (expression.Not operand) = operand ∷ []
expression_parts (expression.Unary op operand) = operand ∷ []
expression_parts (expression.Binary op left right) = left ∷ right ∷ []
expression_parts (expression.Attribute receiver word) = receiver ∷ []
expression_parts (expression.Item receiver key) = receiver ∷ key ∷ []
expression_parts (expression.Call callee arguments) = callee ∷ arguments

abbrev pub target_parts : Target → List ℕ
target_parts (target.Name word) = []
target_parts (target.Attribute receiver word) = receiver ∷ []
target_parts (target.Item receiver key) = receiver ∷ key ∷ []
target_parts (target.Tuple targets) = targets

abbrev pub statement_parts : Statement → List ℕ
statement_parts (statement.Alone value) = value ∷ []
statement_parts (statement.Assign target value) = target ∷ value ∷ []
statement_parts (statement.Augmented target op value) = target ∷ value ∷ []
statement_parts statement.Pass = []
statement_parts statement.Break = []
statement_parts statement.Continue = []
statement_parts (statement.Return value) = option_to_list value
statement_parts statement.RaiseAgain = []
statement_parts (statement.RaiseName name) = []
statement_parts (statement.RaiseCall name arguments) = arguments
statement_parts (statement.Global names) = []
statement_parts (statement.Nonlocal names) = []
statement_parts (statement.Delete target) = target ∷ []
statement_parts (statement.If test body otherwise) = test ∷ body ∷ option_to_list otherwise
statement_parts (statement.While test body) = test ∷ body ∷ []
statement_parts (statement.For target source body) = target ∷ source ∷ body ∷ []
statement_parts (statement.Try body handlers last) = body ∷ handlers ++ option_to_list last
statement_parts (statement.Except kinds name body) = body ∷ []
statement_parts (statement.Def function) = []
statement_parts (statement.Class name base body) = body ∷ []
statement_parts (statement.Suite statements) = statements

abbrev pub parts_of : Node → List ℕ
parts_of (node.Expression e) = expression_parts e
parts_of (node.Target t) = target_parts t
parts_of (node.Statement s) = statement_parts s

abbrev pub Each : {A : Type 0} → (A → Type 0) → List A → Type 0
Each P [] = Unit {0}
Each P (x ∷ xs) = P x × Each P xs

-- the function that a node begins
abbrev pub functions_of : Node → List ℕ
functions_of (node.Expression (expression.Lambda function)) = function ∷ []
functions_of (node.Statement (statement.Def function)) = function ∷ []
functions_of _ = []

-- Each node's parts stand before it, the root is the last node, and each number of a line, a function or a body is one.
pub record IsNumbered (p : Program) : Type 0 where
  pub parts : (number : ℕ) (n : Node) → slice_get p.nodes number ≡ Some n → Each (λ part. part < number) (parts_of n)
  pub root : p.root + 1 ≡ length p.nodes
  pub lines : length p.lines ≡ length p.nodes
  pub functions : Each (λ n. Each (λ function. function < length p.functions) (functions_of n)) p.nodes
  pub bodies : Each (λ f. f.body < length p.nodes) p.functions
  pub parents : (number : ℕ) (f : FunctionInfo) → slice_get p.functions number ≡ Some f → Each (λ parent. parent < number) (option_to_list f.parent)
