-- The tree of a script, printed by `tree_printer texts_a`.
use Rattle.std.specs.Prelude.{[], ◌∷◌, codes, false}
use Rattle.py_ast.specs.declared.program.Program.{Program}
use Rattle.py_ast.specs.declared.builtin.Builtin.TheVariants as builtin
use Rattle.py_ast.specs.declared.expression.Expression.TheVariants as expression
use Rattle.py_ast.specs.declared.node.Node.TheVariants as node
use Rattle.py_ast.specs.declared.statement.Statement.TheVariants as statement
use Rattle.rp_base.specs.declared.plain.Plain.TheVariants as plain

-- conn.execute("y = 6")
-- print(conn.eval("y + 1"), conn.modules.journal.add("z"))
abbrev pub texts_a : Program
texts_a = record {
  nodes =
      node.Expression (expression.Name (codes "conn")) ∷
      node.Expression (expression.Attribute 0 (codes "execute")) ∷
      node.Expression (expression.Constant (plain.Text (codes "y = 6"))) ∷
      node.Expression (expression.Call 1 (2 ∷ [])) ∷
      node.Statement (statement.Alone 3) ∷
      node.Expression (expression.Builtin builtin.Print) ∷
      node.Expression (expression.Name (codes "conn")) ∷
      node.Expression (expression.Attribute 6 (codes "eval")) ∷
      node.Expression (expression.Constant (plain.Text (codes "y + 1"))) ∷
      node.Expression (expression.Call 7 (8 ∷ [])) ∷
      node.Expression (expression.Name (codes "conn")) ∷
      node.Expression (expression.Attribute 10 (codes "modules")) ∷
      node.Expression (expression.Attribute 11 (codes "journal")) ∷
      node.Expression (expression.Attribute 12 (codes "add")) ∷
      node.Expression (expression.Constant (plain.Text (codes "z"))) ∷
      node.Expression (expression.Call 13 (14 ∷ [])) ∷
      node.Expression (expression.Call 5 (9 ∷ 15 ∷ [])) ∷
      node.Statement (statement.Alone 16) ∷
      node.Statement (statement.Suite (4 ∷ 17 ∷ [])) ∷
      [];
  lines = (1 ∷ 1 ∷ 1 ∷ 1 ∷ 1 ∷ 2 ∷ 2 ∷ 2 ∷ 2 ∷ 2 ∷ 2 ∷ 2 ∷ 2 ∷ 2 ∷ 2 ∷ 2 ∷ 2 ∷ 2 ∷ 1 ∷ []);
  root = 18;
  functions = [];
  handler_names = [];
  is_expression = false;
}
