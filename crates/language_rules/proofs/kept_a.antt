-- The tree of a script, printed by `tree_printer kept_a`.
use Rattle.std.specs.Prelude.{[], ◌∷◌, codes, pos, false}
use Rattle.py_ast.specs.declared.program.Program.{Program}
use Rattle.py_ast.specs.declared.expression.Expression.TheVariants as expression
use Rattle.py_ast.specs.declared.node.Node.TheVariants as node
use Rattle.py_ast.specs.declared.statement.Statement.TheVariants as statement
use Rattle.py_ast.specs.declared.target.Target.TheVariants as target
use Rattle.rp_base.specs.declared.plain.Plain.TheVariants as plain

-- l = [1]
-- conn.namespace["keep"](l)
-- l.append(2)
-- conn.namespace["show"]()
abbrev pub kept_a : Program
kept_a = record {
  nodes =
      node.Target (target.Name (codes "l")) ∷
      node.Expression (expression.Constant (plain.Int (pos 1))) ∷
      node.Expression (expression.List (1 ∷ [])) ∷
      node.Statement (statement.Assign 0 2) ∷
      node.Expression (expression.Name (codes "conn")) ∷
      node.Expression (expression.Attribute 4 (codes "namespace")) ∷
      node.Expression (expression.Constant (plain.Text (codes "keep"))) ∷
      node.Expression (expression.Item 5 6) ∷
      node.Expression (expression.Name (codes "l")) ∷
      node.Expression (expression.Call 7 (8 ∷ [])) ∷
      node.Statement (statement.Alone 9) ∷
      node.Expression (expression.Name (codes "l")) ∷
      node.Expression (expression.Attribute 11 (codes "append")) ∷
      node.Expression (expression.Constant (plain.Int (pos 2))) ∷
      node.Expression (expression.Call 12 (13 ∷ [])) ∷
      node.Statement (statement.Alone 14) ∷
      node.Expression (expression.Name (codes "conn")) ∷
      node.Expression (expression.Attribute 16 (codes "namespace")) ∷
      node.Expression (expression.Constant (plain.Text (codes "show"))) ∷
      node.Expression (expression.Item 17 18) ∷
      node.Expression (expression.Call 19 []) ∷
      node.Statement (statement.Alone 20) ∷
      node.Statement (statement.Suite (3 ∷ 10 ∷ 15 ∷ 21 ∷ [])) ∷
      [];
  lines = (1 ∷ 1 ∷ 1 ∷ 1 ∷ 2 ∷ 2 ∷ 2 ∷ 2 ∷ 2 ∷ 2 ∷ 2 ∷ 3 ∷ 3 ∷ 3 ∷ 3 ∷ 3 ∷ 4 ∷ 4 ∷ 4 ∷ 4 ∷ 4 ∷ 4 ∷ 1 ∷ []);
  root = 22;
  functions = [];
  handler_names = [];
  is_expression = false;
}
