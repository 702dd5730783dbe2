-- The tree of a script, printed by `tree_printer drain_b`.
use Rattle.std.specs.Prelude.{[], ◌∷◌, codes, pos, false}
use Rattle.py_ast.specs.declared.program.Program.{Program}
use Rattle.py_ast.specs.declared.expression.Expression.TheVariants as expression
use Rattle.py_ast.specs.declared.node.Node.TheVariants as node
use Rattle.py_ast.specs.declared.statement.Statement.TheVariants as statement
use Rattle.py_ast.specs.declared.target.Target.TheVariants as target
use Rattle.rp_base.specs.declared.plain.Plain.TheVariants as plain

-- l = [1, 2]
-- t = "ab"
abbrev pub drain_b : Program
drain_b = record {
  nodes =
      node.Target (target.Name (codes "l")) ∷
      node.Expression (expression.Constant (plain.Int (pos 1))) ∷
      node.Expression (expression.Constant (plain.Int (pos 2))) ∷
      node.Expression (expression.List (1 ∷ 2 ∷ [])) ∷
      node.Statement (statement.Assign 0 3) ∷
      node.Target (target.Name (codes "t")) ∷
      node.Expression (expression.Constant (plain.Text (codes "ab"))) ∷
      node.Statement (statement.Assign 5 6) ∷
      node.Statement (statement.Suite (4 ∷ 7 ∷ [])) ∷
      [];
  lines = (1 ∷ 1 ∷ 1 ∷ 1 ∷ 1 ∷ 2 ∷ 2 ∷ 2 ∷ 1 ∷ []);
  root = 8;
  functions = [];
  handler_names = [];
  is_expression = false;
}
