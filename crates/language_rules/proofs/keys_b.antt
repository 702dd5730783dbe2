-- The tree of a script, printed by `tree_printer keys_b`.
use Rattle.std.specs.Prelude.{[], ◌∷◌, codes, pos, false}
use Rattle.py_ast.specs.declared.program.Program.{Program}
use Rattle.py_ast.specs.declared.expression.Expression.TheVariants as expression
use Rattle.py_ast.specs.declared.node.Node.TheVariants as node
use Rattle.py_ast.specs.declared.statement.Statement.TheVariants as statement
use Rattle.py_ast.specs.declared.target.Target.TheVariants as target
use Rattle.rp_base.specs.declared.plain.Plain.TheVariants as plain

-- d = {1: "one"}
abbrev pub keys_b : Program
keys_b = record {
  nodes =
      node.Target (target.Name (codes "d")) ∷
      node.Expression (expression.Constant (plain.Int (pos 1))) ∷
      node.Expression (expression.Constant (plain.Text (codes "one"))) ∷
      node.Expression (expression.Dict (1 ∷ 2 ∷ [])) ∷
      node.Statement (statement.Assign 0 3) ∷
      node.Statement (statement.Suite (4 ∷ [])) ∷
      [];
  lines = (1 ∷ 1 ∷ 1 ∷ 1 ∷ 1 ∷ 1 ∷ []);
  root = 5;
  functions = [];
  handler_names = [];
  is_expression = false;
}
