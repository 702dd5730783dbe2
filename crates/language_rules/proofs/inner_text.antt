-- The tree of a script, printed by `tree_printer inner_text`.
use Rattle.std.specs.Prelude.{[], ◌∷◌, codes, pos, Some, None, false}
use Rattle.py_ast.specs.declared.program.Program.{Program}
use Rattle.py_ast.specs.declared.expression.Expression.TheVariants as expression
use Rattle.py_ast.specs.declared.node.Node.TheVariants as node
use Rattle.py_ast.specs.declared.statement.Statement.TheVariants as statement
use Rattle.rp_base.specs.declared.operators.BinaryOp.TheVariants as op
use Rattle.rp_base.specs.declared.plain.Plain.TheVariants as plain

-- try:
--     1 // 0
-- except ZeroDivisionError as e:
--     pass
abbrev pub inner_text : Program
inner_text = record {
  nodes =
      node.Expression (expression.Constant (plain.Int (pos 1))) ∷
      node.Expression (expression.Constant (plain.Int (pos 0))) ∷
      node.Expression (expression.Binary op.FloorDiv 0 1) ∷
      node.Statement (statement.Alone 2) ∷
      node.Statement (statement.Suite (3 ∷ [])) ∷
      node.Statement (statement.Pass) ∷
      node.Statement (statement.Suite (5 ∷ [])) ∷
      node.Statement (statement.Except ((record { text = (codes "ZeroDivisionError"); line = 3 }) ∷ []) (Some (record { text = (codes "e"); line = 3 })) 6) ∷
      node.Statement (statement.Try 4 (7 ∷ []) None) ∷
      node.Statement (statement.Suite (8 ∷ [])) ∷
      [];
  lines = (2 ∷ 2 ∷ 2 ∷ 2 ∷ 1 ∷ 4 ∷ 3 ∷ 3 ∷ 1 ∷ 1 ∷ []);
  root = 9;
  functions = [];
  handler_names = ((codes "e") ∷ []);
  is_expression = false;
}
