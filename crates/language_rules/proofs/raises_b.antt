-- The tree of a script, printed by `tree_printer raises_b`.
use Rattle.std.specs.Prelude.{[], ◌∷◌, codes, pos, false}
use Rattle.py_ast.specs.declared.program.Program.{Program}
use Rattle.py_ast.specs.declared.builtin.Builtin.TheVariants as builtin
use Rattle.py_ast.specs.declared.expression.Expression.TheVariants as expression
use Rattle.py_ast.specs.declared.node.Node.TheVariants as node
use Rattle.py_ast.specs.declared.statement.Statement.TheVariants as statement
use Rattle.rp_base.specs.declared.plain.Plain.TheVariants as plain

-- print(1)
-- raise ValueError("no")
abbrev pub raises_b : Program
raises_b = record {
  nodes =
      node.Expression (expression.Builtin builtin.Print) ∷
      node.Expression (expression.Constant (plain.Int (pos 1))) ∷
      node.Expression (expression.Call 0 (1 ∷ [])) ∷
      node.Statement (statement.Alone 2) ∷
      node.Expression (expression.Constant (plain.Text (codes "no"))) ∷
      node.Statement (statement.RaiseCall (record { text = (codes "ValueError"); line = 2 }) (4 ∷ [])) ∷
      node.Statement (statement.Suite (3 ∷ 5 ∷ [])) ∷
      [];
  lines = (1 ∷ 1 ∷ 1 ∷ 1 ∷ 2 ∷ 2 ∷ 1 ∷ []);
  root = 6;
  functions = [];
  handler_names = [];
  is_expression = false;
}
