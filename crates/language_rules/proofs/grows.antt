-- The tree of a script, printed by `tree_printer grows`.
use Rattle.std.specs.Prelude.{[], ◌∷◌, codes, pos, false}
use Rattle.py_ast.specs.declared.program.Program.{Program}
use Rattle.py_ast.specs.declared.expression.Expression.TheVariants as expression
use Rattle.py_ast.specs.declared.node.Node.TheVariants as node
use Rattle.py_ast.specs.declared.statement.Statement.TheVariants as statement
use Rattle.py_ast.specs.declared.target.Target.TheVariants as target
use Rattle.rp_base.specs.declared.operators.BinaryOp.TheVariants as op
use Rattle.rp_base.specs.declared.plain.Plain.TheVariants as plain

-- d = {1: 2}
-- for k in d:
--     d[k + 1] = 1
abbrev pub grows : Program
grows = record {
  nodes =
      node.Target (target.Name (codes "d")) ∷
      node.Expression (expression.Constant (plain.Int (pos 1))) ∷
      node.Expression (expression.Constant (plain.Int (pos 2))) ∷
      node.Expression (expression.Dict (1 ∷ 2 ∷ [])) ∷
      node.Statement (statement.Assign 0 3) ∷
      node.Target (target.Name (codes "k")) ∷
      node.Expression (expression.Name (codes "d")) ∷
      node.Expression (expression.Name (codes "d")) ∷
      node.Expression (expression.Name (codes "k")) ∷
      node.Expression (expression.Constant (plain.Int (pos 1))) ∷
      node.Expression (expression.Binary op.Add 8 9) ∷
      node.Target (target.Item 7 10) ∷
      node.Expression (expression.Constant (plain.Int (pos 1))) ∷
      node.Statement (statement.Assign 11 12) ∷
      node.Statement (statement.Suite (13 ∷ [])) ∷
      node.Statement (statement.For 5 6 14) ∷
      node.Statement (statement.Suite (4 ∷ 15 ∷ [])) ∷
      [];
  lines = (1 ∷ 1 ∷ 1 ∷ 1 ∷ 1 ∷ 2 ∷ 2 ∷ 3 ∷ 3 ∷ 3 ∷ 3 ∷ 3 ∷ 3 ∷ 3 ∷ 2 ∷ 2 ∷ 1 ∷ []);
  root = 16;
  functions = [];
  handler_names = [];
  is_expression = false;
}
