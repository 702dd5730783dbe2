-- The tree of a script, printed by `tree_printer far`.
use Rattle.std.specs.Prelude.{[], ◌∷◌, codes, pos, false}
use Rattle.py_ast.specs.declared.program.Program.{Program}
use Rattle.py_ast.specs.declared.expression.Expression.TheVariants as expression
use Rattle.py_ast.specs.declared.node.Node.TheVariants as node
use Rattle.py_ast.specs.declared.statement.Statement.TheVariants as statement
use Rattle.rp_base.specs.declared.operators.BinaryOp.TheVariants as op
use Rattle.rp_base.specs.declared.plain.Plain.TheVariants as plain

-- [1].insert(2 ** 70, 0)
abbrev pub far : Program
far = record {
  nodes =
      node.Expression (expression.Constant (plain.Int (pos 1))) ∷
      node.Expression (expression.List (0 ∷ [])) ∷
      node.Expression (expression.Attribute 1 (codes "insert")) ∷
      node.Expression (expression.Constant (plain.Int (pos 2))) ∷
      node.Expression (expression.Constant (plain.Int (pos 70))) ∷
      node.Expression (expression.Binary op.Pow 3 4) ∷
      node.Expression (expression.Constant (plain.Int (pos 0))) ∷
      node.Expression (expression.Call 2 (5 ∷ 6 ∷ [])) ∷
      node.Statement (statement.Alone 7) ∷
      node.Statement (statement.Suite (8 ∷ [])) ∷
      [];
  lines = (1 ∷ 1 ∷ 1 ∷ 1 ∷ 1 ∷ 1 ∷ 1 ∷ 1 ∷ 1 ∷ 1 ∷ []);
  root = 9;
  functions = [];
  handler_names = [];
  is_expression = false;
}
