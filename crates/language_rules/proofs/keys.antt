-- The tree of a script, printed by `tree_printer keys`.
use Rattle.std.specs.Prelude.{[], ◌∷◌, codes, pos, true, false}
use Rattle.py_ast.specs.declared.program.Program.{Program}
use Rattle.py_ast.specs.declared.builtin.Builtin.TheVariants as builtin
use Rattle.py_ast.specs.declared.expression.Comparison.TheVariants as comparison
use Rattle.py_ast.specs.declared.expression.Expression.TheVariants as expression
use Rattle.py_ast.specs.declared.node.Node.TheVariants as node
use Rattle.py_ast.specs.declared.statement.Statement.TheVariants as statement
use Rattle.py_ast.specs.declared.target.Target.TheVariants as target
use Rattle.rp_base.specs.declared.plain.Plain.TheVariants as plain

-- d = {1: "one"}
-- d[True] = "yes"
-- print(d, 1 in d)
abbrev pub keys : Program
keys = record {
  nodes =
      node.Target (target.Name (codes "d")) ∷
      node.Expression (expression.Constant (plain.Int (pos 1))) ∷
      node.Expression (expression.Constant (plain.Text (codes "one"))) ∷
      node.Expression (expression.Dict (1 ∷ 2 ∷ [])) ∷
      node.Statement (statement.Assign 0 3) ∷
      node.Expression (expression.Name (codes "d")) ∷
      node.Expression (expression.Constant (plain.Bool true)) ∷
      node.Target (target.Item 5 6) ∷
      node.Expression (expression.Constant (plain.Text (codes "yes"))) ∷
      node.Statement (statement.Assign 7 8) ∷
      node.Expression (expression.Builtin builtin.Print) ∷
      node.Expression (expression.Name (codes "d")) ∷
      node.Expression (expression.Constant (plain.Int (pos 1))) ∷
      node.Expression (expression.Name (codes "d")) ∷
      node.Expression (expression.Compare 12 (record { comparison = comparison.In; line = 3; right = 13 } ∷ [])) ∷
      node.Expression (expression.Call 10 (11 ∷ 14 ∷ [])) ∷
      node.Statement (statement.Alone 15) ∷
      node.Statement (statement.Suite (4 ∷ 9 ∷ 16 ∷ [])) ∷
      [];
  lines = (1 ∷ 1 ∷ 1 ∷ 1 ∷ 1 ∷ 2 ∷ 2 ∷ 2 ∷ 2 ∷ 2 ∷ 3 ∷ 3 ∷ 3 ∷ 3 ∷ 3 ∷ 3 ∷ 3 ∷ 1 ∷ []);
  root = 17;
  functions = [];
  handler_names = [];
  is_expression = false;
}
