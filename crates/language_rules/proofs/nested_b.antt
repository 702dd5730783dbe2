-- The tree of a script, printed by `tree_printer nested_b`.
use Rattle.std.specs.Prelude.{[], ◌∷◌, codes, pos, false}
use Rattle.py_ast.specs.declared.program.Program.{Program}
use Rattle.py_ast.specs.declared.expression.Expression.TheVariants as expression
use Rattle.py_ast.specs.declared.node.Node.TheVariants as node
use Rattle.py_ast.specs.declared.statement.Statement.TheVariants as statement
use Rattle.py_ast.specs.declared.target.Target.TheVariants as target
use Rattle.rp_base.specs.declared.plain.Plain.TheVariants as plain

-- p = [1, {"k": [2, "x"]}]
abbrev pub nested_b : Program
nested_b = record {
  nodes =
      node.Target (target.Name (codes "p")) ∷
      node.Expression (expression.Constant (plain.Int (pos 1))) ∷
      node.Expression (expression.Constant (plain.Text (codes "k"))) ∷
      node.Expression (expression.Constant (plain.Int (pos 2))) ∷
      node.Expression (expression.Constant (plain.Text (codes "x"))) ∷
      node.Expression (expression.List (3 ∷ 4 ∷ [])) ∷
      node.Expression (expression.Dict (2 ∷ 5 ∷ [])) ∷
      node.Expression (expression.List (1 ∷ 6 ∷ [])) ∷
      node.Statement (statement.Assign 0 7) ∷
      node.Statement (statement.Suite (8 ∷ [])) ∷
      [];
  lines = (1 ∷ 1 ∷ 1 ∷ 1 ∷ 1 ∷ 1 ∷ 1 ∷ 1 ∷ 1 ∷ 1 ∷ []);
  root = 9;
  functions = [];
  handler_names = [];
  is_expression = false;
}
