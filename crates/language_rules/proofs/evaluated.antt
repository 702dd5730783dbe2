-- The tree of a script, printed by `tree_printer evaluated`.
use Rattle.std.specs.Prelude.{[], ◌∷◌, codes, pos, true}
use Rattle.py_ast.specs.declared.program.Program.{Program}
use Rattle.py_ast.specs.declared.expression.Expression.TheVariants as expression
use Rattle.py_ast.specs.declared.node.Node.TheVariants as node
use Rattle.rp_base.specs.declared.operators.BinaryOp.TheVariants as op
use Rattle.rp_base.specs.declared.plain.Plain.TheVariants as plain

-- y + 1
abbrev pub evaluated : Program
evaluated = record {
  nodes =
      node.Expression (expression.Name (codes "y")) ∷
      node.Expression (expression.Constant (plain.Int (pos 1))) ∷
      node.Expression (expression.Binary op.Add 0 1) ∷
      [];
  lines = (1 ∷ 1 ∷ 1 ∷ []);
  root = 2;
  functions = [];
  handler_names = [];
  is_expression = true;
}
