-- The tree of a script, printed by `tree_printer raises_a`.
use Rattle.std.specs.Prelude.{[], ◌∷◌, pos, false}
use Rattle.py_ast.specs.declared.program.Program.{Program}
use Rattle.py_ast.specs.declared.builtin.Builtin.TheVariants as builtin
use Rattle.py_ast.specs.declared.expression.Expression.TheVariants as expression
use Rattle.py_ast.specs.declared.node.Node.TheVariants as node
use Rattle.py_ast.specs.declared.statement.Statement.TheVariants as statement
use Rattle.rp_base.specs.declared.plain.Plain.TheVariants as plain

-- print(2)
abbrev pub raises_a : Program
raises_a = record {
  nodes =
      node.Expression (expression.Builtin builtin.Print) ∷
      node.Expression (expression.Constant (plain.Int (pos 2))) ∷
      node.Expression (expression.Call 0 (1 ∷ [])) ∷
      node.Statement (statement.Alone 2) ∷
      node.Statement (statement.Suite (3 ∷ [])) ∷
      [];
  lines = (1 ∷ 1 ∷ 1 ∷ 1 ∷ 1 ∷ []);
  root = 4;
  functions = [];
  handler_names = [];
  is_expression = false;
}
