-- The tree of a script, printed by `tree_printer keys_a`.
use Rattle.std.specs.Prelude.{[], ◌∷◌, codes, pos, true, false}
use Rattle.py_ast.specs.declared.program.Program.{Program}
use Rattle.py_ast.specs.declared.builtin.Builtin.TheVariants as builtin
use Rattle.py_ast.specs.declared.expression.Comparison.TheVariants as comparison
use Rattle.py_ast.specs.declared.expression.Expression.TheVariants as expression
use Rattle.py_ast.specs.declared.node.Node.TheVariants as node
use Rattle.py_ast.specs.declared.statement.Statement.TheVariants as statement
use Rattle.py_ast.specs.declared.target.Target.TheVariants as target
use Rattle.rp_base.specs.declared.operators.CmpOp.TheVariants as cmp
use Rattle.rp_base.specs.declared.plain.Plain.TheVariants as plain

-- d = conn.namespace["d"]
-- print(d[True], True == 1, True)
-- d[True] = "yes"
-- print(d)
abbrev pub keys_a : Program
keys_a = record {
  nodes =
      node.Target (target.Name (codes "d")) ∷
      node.Expression (expression.Name (codes "conn")) ∷
      node.Expression (expression.Attribute 1 (codes "namespace")) ∷
      node.Expression (expression.Constant (plain.Text (codes "d"))) ∷
      node.Expression (expression.Item 2 3) ∷
      node.Statement (statement.Assign 0 4) ∷
      node.Expression (expression.Builtin builtin.Print) ∷
      node.Expression (expression.Name (codes "d")) ∷
      node.Expression (expression.Constant (plain.Bool true)) ∷
      node.Expression (expression.Item 7 8) ∷
      node.Expression (expression.Constant (plain.Bool true)) ∷
      node.Expression (expression.Constant (plain.Int (pos 1))) ∷
      node.Expression (expression.Compare 10 (record { comparison = comparison.Order cmp.Eq; line = 2; right = 11 } ∷ [])) ∷
      node.Expression (expression.Constant (plain.Bool true)) ∷
      node.Expression (expression.Call 6 (9 ∷ 12 ∷ 13 ∷ [])) ∷
      node.Statement (statement.Alone 14) ∷
      node.Expression (expression.Name (codes "d")) ∷
      node.Expression (expression.Constant (plain.Bool true)) ∷
      node.Target (target.Item 16 17) ∷
      node.Expression (expression.Constant (plain.Text (codes "yes"))) ∷
      node.Statement (statement.Assign 18 19) ∷
      node.Expression (expression.Builtin builtin.Print) ∷
      node.Expression (expression.Name (codes "d")) ∷
      node.Expression (expression.Call 21 (22 ∷ [])) ∷
      node.Statement (statement.Alone 23) ∷
      node.Statement (statement.Suite (5 ∷ 15 ∷ 20 ∷ 24 ∷ [])) ∷
      [];
  lines = (1 ∷ 1 ∷ 1 ∷ 1 ∷ 1 ∷ 1 ∷ 2 ∷ 2 ∷ 2 ∷ 2 ∷ 2 ∷ 2 ∷ 2 ∷ 2 ∷ 2 ∷ 2 ∷ 3 ∷ 3 ∷ 3 ∷ 3 ∷ 3 ∷ 4 ∷ 4 ∷ 4 ∷ 4 ∷ 1 ∷ []);
  root = 25;
  functions = [];
  handler_names = [];
  is_expression = false;
}
