-- The tree of a script, printed by `tree_printer nested_a`.
use Rattle.std.specs.Prelude.{[], ◌∷◌, codes, pos, false}
use Rattle.py_ast.specs.declared.program.Program.{Program}
use Rattle.py_ast.specs.declared.builtin.Builtin.TheVariants as builtin
use Rattle.py_ast.specs.declared.expression.Expression.TheVariants as expression
use Rattle.py_ast.specs.declared.node.Node.TheVariants as node
use Rattle.py_ast.specs.declared.statement.Statement.TheVariants as statement
use Rattle.py_ast.specs.declared.target.Target.TheVariants as target
use Rattle.rp_base.specs.declared.plain.Plain.TheVariants as plain

-- p = conn.namespace["p"]
-- print([p, (3, p)])
abbrev pub nested_a : Program
nested_a = record {
  nodes =
      node.Target (target.Name (codes "p")) ∷
      node.Expression (expression.Name (codes "conn")) ∷
      node.Expression (expression.Attribute 1 (codes "namespace")) ∷
      node.Expression (expression.Constant (plain.Text (codes "p"))) ∷
      node.Expression (expression.Item 2 3) ∷
      node.Statement (statement.Assign 0 4) ∷
      node.Expression (expression.Builtin builtin.Print) ∷
      node.Expression (expression.Name (codes "p")) ∷
      node.Expression (expression.Constant (plain.Int (pos 3))) ∷
      node.Expression (expression.Name (codes "p")) ∷
      node.Expression (expression.Tuple (8 ∷ 9 ∷ [])) ∷
      node.Expression (expression.List (7 ∷ 10 ∷ [])) ∷
      node.Expression (expression.Call 6 (11 ∷ [])) ∷
      node.Statement (statement.Alone 12) ∷
      node.Statement (statement.Suite (5 ∷ 13 ∷ [])) ∷
      [];
  lines = (1 ∷ 1 ∷ 1 ∷ 1 ∷ 1 ∷ 1 ∷ 2 ∷ 2 ∷ 2 ∷ 2 ∷ 2 ∷ 2 ∷ 2 ∷ 2 ∷ 1 ∷ []);
  root = 14;
  functions = [];
  handler_names = [];
  is_expression = false;
}
