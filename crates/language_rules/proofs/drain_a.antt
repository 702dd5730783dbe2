-- The tree of a script, printed by `tree_printer drain_a`.
use Rattle.std.specs.Prelude.{[], ◌∷◌, codes, pos, false}
use Rattle.py_ast.specs.declared.program.Program.{Program}
use Rattle.py_ast.specs.declared.builtin.Builtin.TheVariants as builtin
use Rattle.py_ast.specs.declared.expression.Expression.TheVariants as expression
use Rattle.py_ast.specs.declared.node.Node.TheVariants as node
use Rattle.py_ast.specs.declared.statement.Statement.TheVariants as statement
use Rattle.py_ast.specs.declared.target.Target.TheVariants as target
use Rattle.rp_base.specs.declared.operators.BinaryOp.TheVariants as op
use Rattle.rp_base.specs.declared.plain.Plain.TheVariants as plain

-- s = 0
-- for n in conn.namespace["l"]:
--     s += n
--     conn.namespace["l"].pop()
-- print(s, list(conn.namespace["l"]), sorted("ba"))
abbrev pub drain_a : Program
drain_a = record {
  nodes =
      node.Target (target.Name (codes "s")) ∷
      node.Expression (expression.Constant (plain.Int (pos 0))) ∷
      node.Statement (statement.Assign 0 1) ∷
      node.Target (target.Name (codes "n")) ∷
      node.Expression (expression.Name (codes "conn")) ∷
      node.Expression (expression.Attribute 4 (codes "namespace")) ∷
      node.Expression (expression.Constant (plain.Text (codes "l"))) ∷
      node.Expression (expression.Item 5 6) ∷
      node.Target (target.Name (codes "s")) ∷
      node.Expression (expression.Name (codes "n")) ∷
      node.Statement (statement.Augmented 8 op.Add 9) ∷
      node.Expression (expression.Name (codes "conn")) ∷
      node.Expression (expression.Attribute 11 (codes "namespace")) ∷
      node.Expression (expression.Constant (plain.Text (codes "l"))) ∷
      node.Expression (expression.Item 12 13) ∷
      node.Expression (expression.Attribute 14 (codes "pop")) ∷
      node.Expression (expression.Call 15 []) ∷
      node.Statement (statement.Alone 16) ∷
      node.Statement (statement.Suite (10 ∷ 17 ∷ [])) ∷
      node.Statement (statement.For 3 7 18) ∷
      node.Expression (expression.Builtin builtin.Print) ∷
      node.Expression (expression.Name (codes "s")) ∷
      node.Expression (expression.Builtin builtin.List) ∷
      node.Expression (expression.Name (codes "conn")) ∷
      node.Expression (expression.Attribute 23 (codes "namespace")) ∷
      node.Expression (expression.Constant (plain.Text (codes "l"))) ∷
      node.Expression (expression.Item 24 25) ∷
      node.Expression (expression.Call 22 (26 ∷ [])) ∷
      node.Expression (expression.Builtin builtin.Sorted) ∷
      node.Expression (expression.Constant (plain.Text (codes "ba"))) ∷
      node.Expression (expression.Call 28 (29 ∷ [])) ∷
      node.Expression (expression.Call 20 (21 ∷ 27 ∷ 30 ∷ [])) ∷
      node.Statement (statement.Alone 31) ∷
      node.Statement (statement.Suite (2 ∷ 19 ∷ 32 ∷ [])) ∷
      [];
  lines = (1 ∷ 1 ∷ 1 ∷ 2 ∷ 2 ∷ 2 ∷ 2 ∷ 2 ∷ 3 ∷ 3 ∷ 3 ∷ 4 ∷ 4 ∷ 4 ∷ 4 ∷ 4 ∷ 4 ∷ 4 ∷ 2 ∷ 2 ∷ 5 ∷ 5 ∷ 5 ∷ 5 ∷ 5 ∷ 5 ∷ 5 ∷ 5 ∷ 5 ∷ 5 ∷ 5 ∷ 5 ∷ 5 ∷ 1 ∷ []);
  root = 33;
  functions = [];
  handler_names = [];
  is_expression = false;
}
