-- The tree of a script, printed by `tree_printer widest`.
use Rattle.std.specs.Prelude.{[], ◌∷◌, codes, pos, false}
use Rattle.py_ast.specs.declared.program.Program.{Program}
use Rattle.py_ast.specs.declared.builtin.Builtin.TheVariants as builtin
use Rattle.py_ast.specs.declared.expression.Expression.TheVariants as expression
use Rattle.py_ast.specs.declared.node.Node.TheVariants as node
use Rattle.py_ast.specs.declared.statement.Statement.TheVariants as statement
use Rattle.py_ast.specs.declared.target.Target.TheVariants as target
use Rattle.rp_base.specs.declared.operators.BinaryOp.TheVariants as op
use Rattle.rp_base.specs.declared.operators.UnaryOp.TheVariants as unary
use Rattle.rp_base.specs.declared.plain.Plain.TheVariants as plain

-- x = -170141183460469231731687303715884105727 - 1
-- print(x)
-- print(x - 1)
abbrev pub widest : Program
widest = record {
  nodes =
      node.Target (target.Name (codes "x")) ∷
      node.Expression (expression.Constant (plain.Int (pos 170141183460469231731687303715884105727))) ∷
      node.Expression (expression.Unary unary.Neg 1) ∷
      node.Expression (expression.Constant (plain.Int (pos 1))) ∷
      node.Expression (expression.Binary op.Sub 2 3) ∷
      node.Statement (statement.Assign 0 4) ∷
      node.Expression (expression.Builtin builtin.Print) ∷
      node.Expression (expression.Name (codes "x")) ∷
      node.Expression (expression.Call 6 (7 ∷ [])) ∷
      node.Statement (statement.Alone 8) ∷
      node.Expression (expression.Builtin builtin.Print) ∷
      node.Expression (expression.Name (codes "x")) ∷
      node.Expression (expression.Constant (plain.Int (pos 1))) ∷
      node.Expression (expression.Binary op.Sub 11 12) ∷
      node.Expression (expression.Call 10 (13 ∷ [])) ∷
      node.Statement (statement.Alone 14) ∷
      node.Statement (statement.Suite (5 ∷ 9 ∷ 15 ∷ [])) ∷
      [];
  lines = (1 ∷ 1 ∷ 1 ∷ 1 ∷ 1 ∷ 1 ∷ 2 ∷ 2 ∷ 2 ∷ 2 ∷ 3 ∷ 3 ∷ 3 ∷ 3 ∷ 3 ∷ 3 ∷ 1 ∷ []);
  root = 16;
  functions = [];
  handler_names = [];
  is_expression = false;
}
