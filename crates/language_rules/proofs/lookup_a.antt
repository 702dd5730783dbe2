-- The tree of a script, printed by `tree_printer lookup_a`.
use Rattle.std.specs.Prelude.{[], ◌∷◌, codes, false}
use Rattle.py_ast.specs.declared.program.Program.{Program}
use Rattle.py_ast.specs.declared.builtin.Builtin.TheVariants as builtin
use Rattle.py_ast.specs.declared.expression.Expression.TheVariants as expression
use Rattle.py_ast.specs.declared.node.Node.TheVariants as node
use Rattle.py_ast.specs.declared.statement.Statement.TheVariants as statement
use Rattle.rp_base.specs.declared.plain.Plain.TheVariants as plain

-- print(conn.namespace["o"].f(conn.namespace["g"]()))
abbrev pub lookup_a : Program
lookup_a = record {
  nodes =
      node.Expression (expression.Builtin builtin.Print) ∷
      node.Expression (expression.Name (codes "conn")) ∷
      node.Expression (expression.Attribute 1 (codes "namespace")) ∷
      node.Expression (expression.Constant (plain.Text (codes "o"))) ∷
      node.Expression (expression.Item 2 3) ∷
      node.Expression (expression.Attribute 4 (codes "f")) ∷
      node.Expression (expression.Name (codes "conn")) ∷
      node.Expression (expression.Attribute 6 (codes "namespace")) ∷
      node.Expression (expression.Constant (plain.Text (codes "g"))) ∷
      node.Expression (expression.Item 7 8) ∷
      node.Expression (expression.Call 9 []) ∷
      node.Expression (expression.Call 5 (10 ∷ [])) ∷
      node.Expression (expression.Call 0 (11 ∷ [])) ∷
      node.Statement (statement.Alone 12) ∷
      node.Statement (statement.Suite (13 ∷ [])) ∷
      [];
  lines = (1 ∷ 1 ∷ 1 ∷ 1 ∷ 1 ∷ 1 ∷ 1 ∷ 1 ∷ 1 ∷ 1 ∷ 1 ∷ 1 ∷ 1 ∷ 1 ∷ 1 ∷ []);
  root = 14;
  functions = [];
  handler_names = [];
  is_expression = false;
}
