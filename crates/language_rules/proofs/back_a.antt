-- The tree of a script, printed by `tree_printer back_a`.
use Rattle.std.specs.Prelude.{[], ◌∷◌, codes, pos, false}
use Rattle.py_ast.specs.declared.program.Program.{Program}
use Rattle.py_ast.specs.declared.builtin.Builtin.TheVariants as builtin
use Rattle.py_ast.specs.declared.expression.Expression.TheVariants as expression
use Rattle.py_ast.specs.declared.node.Node.TheVariants as node
use Rattle.py_ast.specs.declared.statement.Statement.TheVariants as statement
use Rattle.py_ast.specs.declared.target.Target.TheVariants as target
use Rattle.rp_base.specs.declared.plain.Plain.TheVariants as plain

-- l = [1]
-- u = conn.namespace["back"]((l, 2))
-- u[0].append(5)
-- print(l, u[1])
abbrev pub back_a : Program
back_a = record {
  nodes =
      node.Target (target.Name (codes "l")) ∷
      node.Expression (expression.Constant (plain.Int (pos 1))) ∷
      node.Expression (expression.List (1 ∷ [])) ∷
      node.Statement (statement.Assign 0 2) ∷
      node.Target (target.Name (codes "u")) ∷
      node.Expression (expression.Name (codes "conn")) ∷
      node.Expression (expression.Attribute 5 (codes "namespace")) ∷
      node.Expression (expression.Constant (plain.Text (codes "back"))) ∷
      node.Expression (expression.Item 6 7) ∷
      node.Expression (expression.Name (codes "l")) ∷
      node.Expression (expression.Constant (plain.Int (pos 2))) ∷
      node.Expression (expression.Tuple (9 ∷ 10 ∷ [])) ∷
      node.Expression (expression.Call 8 (11 ∷ [])) ∷
      node.Statement (statement.Assign 4 12) ∷
      node.Expression (expression.Name (codes "u")) ∷
      node.Expression (expression.Constant (plain.Int (pos 0))) ∷
      node.Expression (expression.Item 14 15) ∷
      node.Expression (expression.Attribute 16 (codes "append")) ∷
      node.Expression (expression.Constant (plain.Int (pos 5))) ∷
      node.Expression (expression.Call 17 (18 ∷ [])) ∷
      node.Statement (statement.Alone 19) ∷
      node.Expression (expression.Builtin builtin.Print) ∷
      node.Expression (expression.Name (codes "l")) ∷
      node.Expression (expression.Name (codes "u")) ∷
      node.Expression (expression.Constant (plain.Int (pos 1))) ∷
      node.Expression (expression.Item 23 24) ∷
      node.Expression (expression.Call 21 (22 ∷ 25 ∷ [])) ∷
      node.Statement (statement.Alone 26) ∷
      node.Statement (statement.Suite (3 ∷ 13 ∷ 20 ∷ 27 ∷ [])) ∷
      [];
  lines = (1 ∷ 1 ∷ 1 ∷ 1 ∷ 2 ∷ 2 ∷ 2 ∷ 2 ∷ 2 ∷ 2 ∷ 2 ∷ 2 ∷ 2 ∷ 2 ∷ 3 ∷ 3 ∷ 3 ∷ 3 ∷ 3 ∷ 3 ∷ 3 ∷ 4 ∷ 4 ∷ 4 ∷ 4 ∷ 4 ∷ 4 ∷ 4 ∷ 1 ∷ []);
  root = 28;
  functions = [];
  handler_names = [];
  is_expression = false;
}
