-- The tree of a script, printed by `tree_printer callback_a`.
use Rattle.std.specs.Prelude.{[], ◌∷◌, codes, Some, None, false}
use Rattle.py_ast.specs.declared.program.Program.{Program}
use Rattle.py_ast.specs.declared.builtin.Builtin.TheVariants as builtin
use Rattle.py_ast.specs.declared.expression.Expression.TheVariants as expression
use Rattle.py_ast.specs.declared.node.Node.TheVariants as node
use Rattle.py_ast.specs.declared.statement.Statement.TheVariants as statement
use Rattle.rp_base.specs.declared.plain.Plain.TheVariants as plain

-- def f(n):
--     print("f", n)
--     return conn.namespace["inner"](n)
-- print(conn.namespace["run"](f))
abbrev pub callback_a : Program
callback_a = record {
  nodes =
      node.Expression (expression.Builtin builtin.Print) ∷
      node.Expression (expression.Constant (plain.Text (codes "f"))) ∷
      node.Expression (expression.Name (codes "n")) ∷
      node.Expression (expression.Call 0 (1 ∷ 2 ∷ [])) ∷
      node.Statement (statement.Alone 3) ∷
      node.Expression (expression.Name (codes "conn")) ∷
      node.Expression (expression.Attribute 5 (codes "namespace")) ∷
      node.Expression (expression.Constant (plain.Text (codes "inner"))) ∷
      node.Expression (expression.Item 6 7) ∷
      node.Expression (expression.Name (codes "n")) ∷
      node.Expression (expression.Call 8 (9 ∷ [])) ∷
      node.Statement (statement.Return (Some 10)) ∷
      node.Statement (statement.Suite (4 ∷ 11 ∷ [])) ∷
      node.Statement (statement.Def 0) ∷
      node.Expression (expression.Builtin builtin.Print) ∷
      node.Expression (expression.Name (codes "conn")) ∷
      node.Expression (expression.Attribute 15 (codes "namespace")) ∷
      node.Expression (expression.Constant (plain.Text (codes "run"))) ∷
      node.Expression (expression.Item 16 17) ∷
      node.Expression (expression.Name (codes "f")) ∷
      node.Expression (expression.Call 18 (19 ∷ [])) ∷
      node.Expression (expression.Call 14 (20 ∷ [])) ∷
      node.Statement (statement.Alone 21) ∷
      node.Statement (statement.Suite (13 ∷ 22 ∷ [])) ∷
      [];
  lines = (2 ∷ 2 ∷ 2 ∷ 2 ∷ 2 ∷ 3 ∷ 3 ∷ 3 ∷ 3 ∷ 3 ∷ 3 ∷ 3 ∷ 1 ∷ 1 ∷ 4 ∷ 4 ∷ 4 ∷ 4 ∷ 4 ∷ 4 ∷ 4 ∷ 4 ∷ 4 ∷ 1 ∷ []);
  root = 23;
  functions =
      record { name = (codes "f"); parameters = ((record { text = (codes "n"); line = 1 }) ∷ []); locals = ((codes "n") ∷ []); free = []; has_inner = false; parent = None; body = 12 } ∷
      [];
  handler_names = [];
  is_expression = false;
}
