-- The tree of a script, printed by `tree_printer callback_b`.
use Rattle.std.specs.Prelude.{[], ◌∷◌, codes, pos, Some, None, false}
use Rattle.py_ast.specs.declared.program.Program.{Program}
use Rattle.py_ast.specs.declared.builtin.Builtin.TheVariants as builtin
use Rattle.py_ast.specs.declared.expression.Expression.TheVariants as expression
use Rattle.py_ast.specs.declared.node.Node.TheVariants as node
use Rattle.py_ast.specs.declared.statement.Statement.TheVariants as statement
use Rattle.rp_base.specs.declared.operators.BinaryOp.TheVariants as op
use Rattle.rp_base.specs.declared.plain.Plain.TheVariants as plain

-- def run(f):
--     print("run")
--     return f(3) + 1
-- def inner(n):
--     print("inner", n)
--     return n * 10
abbrev pub callback_b : Program
callback_b = record {
  nodes =
      node.Expression (expression.Builtin builtin.Print) ∷
      node.Expression (expression.Constant (plain.Text (codes "run"))) ∷
      node.Expression (expression.Call 0 (1 ∷ [])) ∷
      node.Statement (statement.Alone 2) ∷
      node.Expression (expression.Name (codes "f")) ∷
      node.Expression (expression.Constant (plain.Int (pos 3))) ∷
      node.Expression (expression.Call 4 (5 ∷ [])) ∷
      node.Expression (expression.Constant (plain.Int (pos 1))) ∷
      node.Expression (expression.Binary op.Add 6 7) ∷
      node.Statement (statement.Return (Some 8)) ∷
      node.Statement (statement.Suite (3 ∷ 9 ∷ [])) ∷
      node.Statement (statement.Def 0) ∷
      node.Expression (expression.Builtin builtin.Print) ∷
      node.Expression (expression.Constant (plain.Text (codes "inner"))) ∷
      node.Expression (expression.Name (codes "n")) ∷
      node.Expression (expression.Call 12 (13 ∷ 14 ∷ [])) ∷
      node.Statement (statement.Alone 15) ∷
      node.Expression (expression.Name (codes "n")) ∷
      node.Expression (expression.Constant (plain.Int (pos 10))) ∷
      node.Expression (expression.Binary op.Mul 17 18) ∷
      node.Statement (statement.Return (Some 19)) ∷
      node.Statement (statement.Suite (16 ∷ 20 ∷ [])) ∷
      node.Statement (statement.Def 1) ∷
      node.Statement (statement.Suite (11 ∷ 22 ∷ [])) ∷
      [];
  lines = (2 ∷ 2 ∷ 2 ∷ 2 ∷ 3 ∷ 3 ∷ 3 ∷ 3 ∷ 3 ∷ 3 ∷ 1 ∷ 1 ∷ 5 ∷ 5 ∷ 5 ∷ 5 ∷ 5 ∷ 6 ∷ 6 ∷ 6 ∷ 6 ∷ 4 ∷ 4 ∷ 1 ∷ []);
  root = 23;
  functions =
      record { name = (codes "run"); parameters = ((record { text = (codes "f"); line = 1 }) ∷ []); locals = ((codes "f") ∷ []); free = []; has_inner = false; parent = None; body = 10 } ∷
      record { name = (codes "inner"); parameters = ((record { text = (codes "n"); line = 4 }) ∷ []); locals = ((codes "n") ∷ []); free = []; has_inner = false; parent = None; body = 21 } ∷
      [];
  handler_names = [];
  is_expression = false;
}
