-- The tree of a script, printed by `tree_printer first_a`.
use Rattle.std.specs.Prelude.{[], ◌∷◌, codes, false}
use Rattle.py_ast.specs.declared.program.Program.{Program}
use Rattle.py_ast.specs.declared.builtin.Builtin.TheVariants as builtin
use Rattle.py_ast.specs.declared.expression.Expression.TheVariants as expression
use Rattle.py_ast.specs.declared.node.Node.TheVariants as node
use Rattle.py_ast.specs.declared.statement.Statement.TheVariants as statement
use Rattle.rp_base.specs.declared.plain.Plain.TheVariants as plain

-- print(conn.namespace["x"])
abbrev pub first_a : Program
first_a = record {
  nodes =
      node.Expression (expression.Builtin builtin.Print) ∷
      node.Expression (expression.Name (codes "conn")) ∷
      node.Expression (expression.Attribute 1 (codes "namespace")) ∷
      node.Expression (expression.Constant (plain.Text (codes "x"))) ∷
      node.Expression (expression.Item 2 3) ∷
      node.Expression (expression.Call 0 (4 ∷ [])) ∷
      node.Statement (statement.Alone 5) ∷
      node.Statement (statement.Suite (6 ∷ [])) ∷
      [];
  lines = (1 ∷ 1 ∷ 1 ∷ 1 ∷ 1 ∷ 1 ∷ 1 ∷ 1 ∷ []);
  root = 7;
  functions = [];
  handler_names = [];
  is_expression = false;
}
