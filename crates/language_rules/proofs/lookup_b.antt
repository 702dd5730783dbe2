-- The tree of a script, printed by `tree_printer lookup_b`.
use Rattle.std.specs.Prelude.{[], ◌∷◌, codes, pos, Some, None, false}
use Rattle.py_ast.specs.declared.program.Program.{Program}
use Rattle.py_ast.specs.declared.expression.Expression.TheVariants as expression
use Rattle.py_ast.specs.declared.node.Node.TheVariants as node
use Rattle.py_ast.specs.declared.statement.Statement.TheVariants as statement
use Rattle.py_ast.specs.declared.target.Target.TheVariants as target
use Rattle.rp_base.specs.declared.operators.BinaryOp.TheVariants as op
use Rattle.rp_base.specs.declared.plain.Plain.TheVariants as plain

-- class O:
--     def f(self, x):
--         return x + 1
-- o = O()
-- def g():
--     o.f = h
--     return 10
-- def h(x):
--     return x * 100
abbrev pub lookup_b : Program
lookup_b = record {
  nodes =
      node.Expression (expression.Name (codes "x")) ∷
      node.Expression (expression.Constant (plain.Int (pos 1))) ∷
      node.Expression (expression.Binary op.Add 0 1) ∷
      node.Statement (statement.Return (Some 2)) ∷
      node.Statement (statement.Suite (3 ∷ [])) ∷
      node.Statement (statement.Def 0) ∷
      node.Statement (statement.Suite (5 ∷ [])) ∷
      node.Statement (statement.Class (record { text = (codes "O"); line = 1 }) None 6) ∷
      node.Target (target.Name (codes "o")) ∷
      node.Expression (expression.Name (codes "O")) ∷
      node.Expression (expression.Call 9 []) ∷
      node.Statement (statement.Assign 8 10) ∷
      node.Expression (expression.Name (codes "o")) ∷
      node.Target (target.Attribute 12 (codes "f")) ∷
      node.Expression (expression.Name (codes "h")) ∷
      node.Statement (statement.Assign 13 14) ∷
      node.Expression (expression.Constant (plain.Int (pos 10))) ∷
      node.Statement (statement.Return (Some 16)) ∷
      node.Statement (statement.Suite (15 ∷ 17 ∷ [])) ∷
      node.Statement (statement.Def 1) ∷
      node.Expression (expression.Name (codes "x")) ∷
      node.Expression (expression.Constant (plain.Int (pos 100))) ∷
      node.Expression (expression.Binary op.Mul 20 21) ∷
      node.Statement (statement.Return (Some 22)) ∷
      node.Statement (statement.Suite (23 ∷ [])) ∷
      node.Statement (statement.Def 2) ∷
      node.Statement (statement.Suite (7 ∷ 11 ∷ 19 ∷ 25 ∷ [])) ∷
      [];
  lines = (3 ∷ 3 ∷ 3 ∷ 3 ∷ 2 ∷ 2 ∷ 1 ∷ 1 ∷ 4 ∷ 4 ∷ 4 ∷ 4 ∷ 6 ∷ 6 ∷ 6 ∷ 6 ∷ 7 ∷ 7 ∷ 5 ∷ 5 ∷ 9 ∷ 9 ∷ 9 ∷ 9 ∷ 8 ∷ 8 ∷ 1 ∷ []);
  root = 26;
  functions =
      record { name = (codes "f"); parameters = ((record { text = (codes "self"); line = 2 }) ∷ (record { text = (codes "x"); line = 2 }) ∷ []); locals = ((codes "self") ∷ (codes "x") ∷ []); free = []; has_inner = false; parent = None; body = 4 } ∷
      record { name = (codes "g"); parameters = []; locals = []; free = []; has_inner = false; parent = None; body = 18 } ∷
      record { name = (codes "h"); parameters = ((record { text = (codes "x"); line = 8 }) ∷ []); locals = ((codes "x") ∷ []); free = []; has_inner = false; parent = None; body = 24 } ∷
      [];
  handler_names = [];
  is_expression = false;
}
