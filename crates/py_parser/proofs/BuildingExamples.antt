-- Texts with the nodes of their trees, in order, computed by the checker from the grammar's table.
use Rattle.std.proofs.Common.{◌≡◌, ℕ, List, [], ◌∷◌, Option, Some, None, false, refl}
use Rattle.std.specs.Prelude.{codes, pos, ◌++◌}
use Rattle.py_ast.specs.declared.expression.Comparison.TheVariants as comparison
use Rattle.py_ast.specs.declared.expression.Expression.TheVariants as expression
use Rattle.py_ast.specs.declared.node.Node.{Node}
use Rattle.py_ast.specs.declared.node.Node.TheVariants as node
use Rattle.py_ast.specs.declared.program.FunctionInfo.{FunctionInfo}
use Rattle.py_ast.specs.declared.statement.Statement.TheVariants as statement
use Rattle.py_ast.specs.declared.target.Target.TheVariants as target
use Rattle.py_grammar.specs.declared.symbol.Limits.{Limits}
use Rattle.py_grammar.specs.declared.symbol.Start.{Start}
use Rattle.py_grammar.specs.declared.symbol.Start.TheVariants as starts
use Rattle.py_grammar.specs.declared.terminal.Terminal.{Terminal}
use Rattle.py_grammar.specs.declared.terminal.Terminal.TheVariants as t
use Rattle.py_grammar.specs.Building.{Lexeme}
use Rattle.py_grammar.specs.Reading.{Outcome, Done, Stuck, run}
use Rattle.py_grammar.specs.Table.{opening}
use Rattle.rp_base.specs.declared.operators.BinaryOp.TheVariants as binary
use Rattle.rp_base.specs.declared.operators.CmpOp.TheVariants as order
use Rattle.rp_base.specs.declared.operators.UnaryOp.TheVariants as unary
use Rattle.rp_base.specs.declared.plain.Plain.TheVariants as plain
use Rattle.py_parser.specs.declared.builder.Building.{Building}
use Rattle.py_parser.specs.Building.{begun}
use Rattle.py_parser.specs.BuildingActs.{builder}
use Rattle.py_parser.specs.BuildingComputing.{building_computes}

abbrev pub limits : Limits
limits = record { levels = 100; arguments = 255 }

abbrev pub at : ℕ → Terminal → List ℕ → Lexeme
at line kind text = record { kind = kind; text = text; line = line }

-- of a text that was read to its end
abbrev pub nodes_of : Outcome Building → Option (List Node)
nodes_of (Done b) = Some b.nodes
nodes_of (Stuck n) = None

abbrev pub lines_of : Outcome Building → Option (List ℕ)
lines_of (Done b) = Some b.lines
lines_of (Stuck n) = None

abbrev pub functions_of : Outcome Building → Option (List FunctionInfo)
functions_of (Done b) = Some b.functions
functions_of (Stuck n) = None

abbrev pub read : Start → List Lexeme → Outcome Building
read start text = run Building builder limits (opening start) begun (text ++ at 1 t.End [] ∷ [])

abbrev pub name : List ℕ → Node
name word = node.Expression (expression.Name word)

-- x if c else y
pub conditional : nodes_of (read starts.Expression (at 1 t.Name (codes "x") ∷ at 1 t.If (codes "if") ∷ at 1 t.Name (codes "c") ∷ at 1 t.Else (codes "else") ∷ at 1 t.Name (codes "y") ∷ []))
    ≡ Some (name (codes "x") ∷ name (codes "c") ∷ name (codes "y") ∷ node.Expression (expression.Conditional 0 1 2) ∷ [])
unfolding building_computes
conditional = refl

-- a < b is not c: one node, and the sign `is not` stands where `is` does
pub comparisons : nodes_of (read starts.Expression (at 1 t.Name (codes "a") ∷ at 1 t.Comparison (codes "<") ∷ at 1 t.Name (codes "b") ∷ at 1 t.Is (codes "is") ∷ at 1 t.Not (codes "not") ∷ at 1 t.Name (codes "c") ∷ []))
    ≡ Some (name (codes "a") ∷ name (codes "b") ∷ name (codes "c") ∷ node.Expression (expression.Compare 0 (record { comparison = comparison.Order order.Lt; line = 1; right = 1 } ∷ record { comparison = comparison.IsNot; line = 1; right = 2 } ∷ [])) ∷ [])
unfolding building_computes
comparisons = refl

-- - x ** 2: the power binds tighter
pub signs : nodes_of (read starts.Expression (at 1 t.Minus (codes "-") ∷ at 1 t.Name (codes "x") ∷ at 1 t.DoubleStar (codes "**") ∷ at 1 t.Int (codes "2") ∷ []))
    ≡ Some (name (codes "x") ∷ node.Expression (expression.Constant (plain.Int (pos 2))) ∷ node.Expression (expression.Binary binary.Pow 0 1) ∷ node.Expression (expression.Unary unary.Neg 2) ∷ [])
unfolding building_computes
signs = refl

-- not a or b and c
pub chains : nodes_of (read starts.Expression (at 1 t.Not (codes "not") ∷ at 1 t.Name (codes "a") ∷ at 1 t.Or (codes "or") ∷ at 1 t.Name (codes "b") ∷ at 1 t.And (codes "and") ∷ at 1 t.Name (codes "c") ∷ []))
    ≡ Some (name (codes "a") ∷ node.Expression (expression.Not 0) ∷ name (codes "b") ∷ name (codes "c") ∷ node.Expression (expression.And (2 ∷ 3 ∷ [])) ∷ node.Expression (expression.Or (1 ∷ 4 ∷ [])) ∷ [])
unfolding building_computes
chains = refl

-- f(a, b)[()]: arguments in written order
pub calls : nodes_of (read starts.Expression (at 1 t.Name (codes "f") ∷ at 1 t.OpenParenthesis (codes "(") ∷ at 1 t.Name (codes "a") ∷ at 1 t.Comma (codes ",") ∷ at 1 t.Name (codes "b") ∷ at 1 t.CloseParenthesis (codes ")") ∷ at 1 t.OpenBracket (codes "[") ∷ at 1 t.OpenParenthesis (codes "(") ∷ at 1 t.CloseParenthesis (codes ")") ∷ at 1 t.CloseBracket (codes "]") ∷ []))
    ≡ Some (name (codes "f") ∷ name (codes "a") ∷ name (codes "b") ∷ node.Expression (expression.Call 0 (1 ∷ 2 ∷ [])) ∷ node.Expression (expression.Tuple []) ∷ node.Expression (expression.Item 3 4) ∷ [])
unfolding building_computes
calls = refl

-- len, x.y = 1: the names become targets where they stand
pub targets : nodes_of (read starts.Script (at 1 t.Name (codes "len") ∷ at 1 t.Comma (codes ",") ∷ at 1 t.Name (codes "x") ∷ at 1 t.Dot (codes ".") ∷ at 1 t.Name (codes "y") ∷ at 1 t.Assign (codes "=") ∷ at 1 t.Int (codes "1") ∷ at 1 t.Newline [] ∷ []))
    ≡ Some (node.Target (target.Name (codes "len")) ∷ name (codes "x") ∷ node.Target (target.Attribute 1 (codes "y")) ∷ node.Target (target.Tuple (0 ∷ 2 ∷ [])) ∷ node.Expression (expression.Constant (plain.Int (pos 1))) ∷ node.Statement (statement.Assign 3 4) ∷ node.Statement (statement.Suite (5 ∷ [])) ∷ [])
unfolding building_computes
targets = refl

-- (x) = 1: the `=` does not fit
pub parenthesized : read starts.Script (at 1 t.OpenParenthesis (codes "(") ∷ at 1 t.Name (codes "x") ∷ at 1 t.CloseParenthesis (codes ")") ∷ at 1 t.Assign (codes "=") ∷ at 1 t.Int (codes "1") ∷ at 1 t.Newline [] ∷ []) ≡ Stuck 3
unfolding building_computes
parenthesized = refl

-- if a: b, elif c: d, else: pass, on three lines: an `elif` is what the `if` before it does otherwise
pub branches : nodes_of (read starts.Script (at 1 t.If (codes "if") ∷ at 1 t.Name (codes "a") ∷ at 1 t.Colon (codes ":") ∷ at 1 t.Name (codes "b") ∷ at 1 t.Newline [] ∷ at 2 t.Elif (codes "elif") ∷ at 2 t.Name (codes "c") ∷ at 2 t.Colon (codes ":") ∷ at 2 t.Name (codes "d") ∷ at 2 t.Newline [] ∷ at 3 t.Else (codes "else") ∷ at 3 t.Colon (codes ":") ∷ at 3 t.Pass (codes "pass") ∷ at 3 t.Newline [] ∷ []))
    ≡ Some (name (codes "a") ∷ name (codes "b") ∷ node.Statement (statement.Alone 1) ∷ node.Statement (statement.Suite (2 ∷ [])) ∷ name (codes "c") ∷ name (codes "d") ∷ node.Statement (statement.Alone 5) ∷ node.Statement (statement.Suite (6 ∷ [])) ∷ node.Statement statement.Pass ∷ node.Statement (statement.Suite (8 ∷ [])) ∷ node.Statement (statement.If 4 7 (Some 9)) ∷ node.Statement (statement.If 0 3 (Some 10)) ∷ node.Statement (statement.Suite (11 ∷ [])) ∷ [])
unfolding building_computes
branches = refl

-- their lines
pub lines_of_branches : lines_of (read starts.Script (at 1 t.If (codes "if") ∷ at 1 t.Name (codes "a") ∷ at 1 t.Colon (codes ":") ∷ at 1 t.Name (codes "b") ∷ at 1 t.Newline [] ∷ at 2 t.Elif (codes "elif") ∷ at 2 t.Name (codes "c") ∷ at 2 t.Colon (codes ":") ∷ at 2 t.Name (codes "d") ∷ at 2 t.Newline [] ∷ at 3 t.Else (codes "else") ∷ at 3 t.Colon (codes ":") ∷ at 3 t.Pass (codes "pass") ∷ at 3 t.Newline [] ∷ [])) ≡ Some (1 ∷ 1 ∷ 1 ∷ 1 ∷ 2 ∷ 2 ∷ 2 ∷ 2 ∷ 3 ∷ 3 ∷ 2 ∷ 1 ∷ 1 ∷ [])
unfolding building_computes
lines_of_branches = refl

-- (a
-- .b): an attribute stands on the line of its name
pub line_of_attribute : lines_of (read starts.Expression (at 1 t.OpenParenthesis (codes "(") ∷ at 1 t.Name (codes "a") ∷ at 2 t.Dot (codes ".") ∷ at 2 t.Name (codes "b") ∷ at 2 t.CloseParenthesis (codes ")") ∷ [])) ≡ Some (1 ∷ 2 ∷ [])
unfolding building_computes
line_of_attribute = refl

-- def f(x): return lambda y: x
pub functions : nodes_of (read starts.Script (at 1 t.Def (codes "def") ∷ at 1 t.Name (codes "f") ∷ at 1 t.OpenParenthesis (codes "(") ∷ at 1 t.Name (codes "x") ∷ at 1 t.CloseParenthesis (codes ")") ∷ at 1 t.Colon (codes ":") ∷ at 1 t.Return (codes "return") ∷ at 1 t.Lambda (codes "lambda") ∷ at 1 t.Name (codes "y") ∷ at 1 t.Colon (codes ":") ∷ at 1 t.Name (codes "x") ∷ at 1 t.Newline [] ∷ []))
    ≡ Some (name (codes "x") ∷ node.Expression (expression.Lambda 1) ∷ node.Statement (statement.Return (Some 1)) ∷ node.Statement (statement.Suite (2 ∷ [])) ∷ node.Statement (statement.Def 0) ∷ node.Statement (statement.Suite (4 ∷ [])) ∷ [])
unfolding building_computes
functions = refl

-- its functions, in the order in which they begin
pub function_table : functions_of (read starts.Script (at 1 t.Def (codes "def") ∷ at 1 t.Name (codes "f") ∷ at 1 t.OpenParenthesis (codes "(") ∷ at 1 t.Name (codes "x") ∷ at 1 t.CloseParenthesis (codes ")") ∷ at 1 t.Colon (codes ":") ∷ at 1 t.Return (codes "return") ∷ at 1 t.Lambda (codes "lambda") ∷ at 1 t.Name (codes "y") ∷ at 1 t.Colon (codes ":") ∷ at 1 t.Name (codes "x") ∷ at 1 t.Newline [] ∷ []))
    ≡ Some (record { name = codes "f"; parameters = record { text = codes "x"; line = 1 } ∷ []; locals = []; free = []; has_inner = false; parent = None; body = 3 } ∷ record { name = codes "<lambda>"; parameters = record { text = codes "y"; line = 1 } ∷ []; locals = []; free = []; has_inner = false; parent = Some 0; body = 0 } ∷ [])
unfolding building_computes
function_table = refl
