-- The tree of a script, printed by `tree_printer executed`.
use Rattle.std.specs.Prelude.{[], ◌∷◌, codes, pos, false}
use Rattle.py_ast.specs.declared.program.Program.{Program}
use Rattle.py_ast.specs.declared.expression.Expression.TheVariants as expression
use Rattle.py_ast.specs.declared.node.Node.TheVariants as node
use Rattle.py_ast.specs.declared.statement.Statement.TheVariants as statement
use Rattle.py_ast.specs.declared.target.Target.TheVariants as target
use Rattle.rp_base.specs.declared.plain.Plain.TheVariants as plain

-- y = 6
abbrev pub executed : Program
executed = record {
  nodes =
      node.Target (target.Name (codes "y")) ∷
      node.Expression (expression.Constant (plain.Int (pos 6))) ∷
      node.Statement (statement.Assign 0 1) ∷
      node.Statement (statement.Suite (2 ∷ [])) ∷
      [];
  lines = (1 ∷ 1 ∷ 1 ∷ 1 ∷ []);
  root = 3;
  functions = [];
  handler_names = [];
  is_expression = false;
}
