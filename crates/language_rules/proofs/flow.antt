-- The tree of a script, printed by `tree_printer flow`.
use Rattle.std.specs.Prelude.{[], ◌∷◌, codes, pos, Some, None, false}
use Rattle.py_ast.specs.declared.program.Program.{Program}
use Rattle.py_ast.specs.declared.builtin.Builtin.TheVariants as builtin
use Rattle.py_ast.specs.declared.expression.Comparison.TheVariants as comparison
use Rattle.py_ast.specs.declared.expression.Expression.TheVariants as expression
use Rattle.py_ast.specs.declared.node.Node.TheVariants as node
use Rattle.py_ast.specs.declared.statement.Statement.TheVariants as statement
use Rattle.py_ast.specs.declared.target.Target.TheVariants as target
use Rattle.rp_base.specs.declared.operators.BinaryOp.TheVariants as op
use Rattle.rp_base.specs.declared.operators.CmpOp.TheVariants as cmp
use Rattle.rp_base.specs.declared.plain.Plain.TheVariants as plain

-- def f(n):
--     i = 0
--     while i < n:
--         i += 1
--         if i == 2:
--             continue
--         try:
--             if i == 4:
--                 break
--         finally:
--             print(i)
--     return i
-- print(f(9), 1 < 2 < 1 or "last")
-- a, b = (1, 2)
-- l = [a]
-- l[0] += b
-- print(l, not l, min(3, 1), max([1, 2]), sum((1, 2)), sorted([2, 1]))
abbrev pub flow : Program
flow = record {
  nodes =
      node.Target (target.Name (codes "i")) ∷
      node.Expression (expression.Constant (plain.Int (pos 0))) ∷
      node.Statement (statement.Assign 0 1) ∷
      node.Expression (expression.Name (codes "i")) ∷
      node.Expression (expression.Name (codes "n")) ∷
      node.Expression (expression.Compare 3 (record { comparison = comparison.Order cmp.Lt; line = 3; right = 4 } ∷ [])) ∷
      node.Target (target.Name (codes "i")) ∷
      node.Expression (expression.Constant (plain.Int (pos 1))) ∷
      node.Statement (statement.Augmented 6 op.Add 7) ∷
      node.Expression (expression.Name (codes "i")) ∷
      node.Expression (expression.Constant (plain.Int (pos 2))) ∷
      node.Expression (expression.Compare 9 (record { comparison = comparison.Order cmp.Eq; line = 5; right = 10 } ∷ [])) ∷
      node.Statement (statement.Continue) ∷
      node.Statement (statement.Suite (12 ∷ [])) ∷
      node.Statement (statement.If 11 13 None) ∷
      node.Expression (expression.Name (codes "i")) ∷
      node.Expression (expression.Constant (plain.Int (pos 4))) ∷
      node.Expression (expression.Compare 15 (record { comparison = comparison.Order cmp.Eq; line = 8; right = 16 } ∷ [])) ∷
      node.Statement (statement.Break) ∷
      node.Statement (statement.Suite (18 ∷ [])) ∷
      node.Statement (statement.If 17 19 None) ∷
      node.Statement (statement.Suite (20 ∷ [])) ∷
      node.Expression (expression.Builtin builtin.Print) ∷
      node.Expression (expression.Name (codes "i")) ∷
      node.Expression (expression.Call 22 (23 ∷ [])) ∷
      node.Statement (statement.Alone 24) ∷
      node.Statement (statement.Suite (25 ∷ [])) ∷
      node.Statement (statement.Try 21 [] (Some 26)) ∷
      node.Statement (statement.Suite (8 ∷ 14 ∷ 27 ∷ [])) ∷
      node.Statement (statement.While 5 28) ∷
      node.Expression (expression.Name (codes "i")) ∷
      node.Statement (statement.Return (Some 30)) ∷
      node.Statement (statement.Suite (2 ∷ 29 ∷ 31 ∷ [])) ∷
      node.Statement (statement.Def 0) ∷
      node.Expression (expression.Builtin builtin.Print) ∷
      node.Expression (expression.Name (codes "f")) ∷
      node.Expression (expression.Constant (plain.Int (pos 9))) ∷
      node.Expression (expression.Call 35 (36 ∷ [])) ∷
      node.Expression (expression.Constant (plain.Int (pos 1))) ∷
      node.Expression (expression.Constant (plain.Int (pos 2))) ∷
      node.Expression (expression.Constant (plain.Int (pos 1))) ∷
      node.Expression (expression.Compare 38 (record { comparison = comparison.Order cmp.Lt; line = 13; right = 39 } ∷ record { comparison = comparison.Order cmp.Lt; line = 13; right = 40 } ∷ [])) ∷
      node.Expression (expression.Constant (plain.Text (codes "last"))) ∷
      node.Expression (expression.Or (41 ∷ 42 ∷ [])) ∷
      node.Expression (expression.Call 34 (37 ∷ 43 ∷ [])) ∷
      node.Statement (statement.Alone 44) ∷
      node.Target (target.Name (codes "a")) ∷
      node.Target (target.Name (codes "b")) ∷
      node.Target (target.Tuple (46 ∷ 47 ∷ [])) ∷
      node.Expression (expression.Constant (plain.Int (pos 1))) ∷
      node.Expression (expression.Constant (plain.Int (pos 2))) ∷
      node.Expression (expression.Tuple (49 ∷ 50 ∷ [])) ∷
      node.Statement (statement.Assign 48 51) ∷
      node.Target (target.Name (codes "l")) ∷
      node.Expression (expression.Name (codes "a")) ∷
      node.Expression (expression.List (54 ∷ [])) ∷
      node.Statement (statement.Assign 53 55) ∷
      node.Expression (expression.Name (codes "l")) ∷
      node.Expression (expression.Constant (plain.Int (pos 0))) ∷
      node.Target (target.Item 57 58) ∷
      node.Expression (expression.Name (codes "b")) ∷
      node.Statement (statement.Augmented 59 op.Add 60) ∷
      node.Expression (expression.Builtin builtin.Print) ∷
      node.Expression (expression.Name (codes "l")) ∷
      node.Expression (expression.Name (codes "l")) ∷
      node.Expression (expression.Not 64) ∷
      node.Expression (expression.Builtin builtin.Min) ∷
      node.Expression (expression.Constant (plain.Int (pos 3))) ∷
      node.Expression (expression.Constant (plain.Int (pos 1))) ∷
      node.Expression (expression.Call 66 (67 ∷ 68 ∷ [])) ∷
      node.Expression (expression.Builtin builtin.Max) ∷
      node.Expression (expression.Constant (plain.Int (pos 1))) ∷
      node.Expression (expression.Constant (plain.Int (pos 2))) ∷
      node.Expression (expression.List (71 ∷ 72 ∷ [])) ∷
      node.Expression (expression.Call 70 (73 ∷ [])) ∷
      node.Expression (expression.Builtin builtin.Sum) ∷
      node.Expression (expression.Constant (plain.Int (pos 1))) ∷
      node.Expression (expression.Constant (plain.Int (pos 2))) ∷
      node.Expression (expression.Tuple (76 ∷ 77 ∷ [])) ∷
      node.Expression (expression.Call 75 (78 ∷ [])) ∷
      node.Expression (expression.Builtin builtin.Sorted) ∷
      node.Expression (expression.Constant (plain.Int (pos 2))) ∷
      node.Expression (expression.Constant (plain.Int (pos 1))) ∷
      node.Expression (expression.List (81 ∷ 82 ∷ [])) ∷
      node.Expression (expression.Call 80 (83 ∷ [])) ∷
      node.Expression (expression.Call 62 (63 ∷ 65 ∷ 69 ∷ 74 ∷ 79 ∷ 84 ∷ [])) ∷
      node.Statement (statement.Alone 85) ∷
      node.Statement (statement.Suite (33 ∷ 45 ∷ 52 ∷ 56 ∷ 61 ∷ 86 ∷ [])) ∷
      [];
  lines = (2 ∷ 2 ∷ 2 ∷ 3 ∷ 3 ∷ 3 ∷ 4 ∷ 4 ∷ 4 ∷ 5 ∷ 5 ∷ 5 ∷ 6 ∷ 5 ∷ 5 ∷ 8 ∷ 8 ∷ 8 ∷ 9 ∷ 8 ∷ 8 ∷ 7 ∷ 11 ∷ 11 ∷ 11 ∷ 11 ∷ 10 ∷ 7 ∷ 3 ∷ 3 ∷ 12 ∷ 12 ∷ 1 ∷ 1 ∷ 13 ∷ 13 ∷ 13 ∷ 13 ∷ 13 ∷ 13 ∷ 13 ∷ 13 ∷ 13 ∷ 13 ∷ 13 ∷ 13 ∷ 14 ∷ 14 ∷ 14 ∷ 14 ∷ 14 ∷ 14 ∷ 14 ∷ 15 ∷ 15 ∷ 15 ∷ 15 ∷ 16 ∷ 16 ∷ 16 ∷ 16 ∷ 16 ∷ 17 ∷ 17 ∷ 17 ∷ 17 ∷ 17 ∷ 17 ∷ 17 ∷ 17 ∷ 17 ∷ 17 ∷ 17 ∷ 17 ∷ 17 ∷ 17 ∷ 17 ∷ 17 ∷ 17 ∷ 17 ∷ 17 ∷ 17 ∷ 17 ∷ 17 ∷ 17 ∷ 17 ∷ 17 ∷ 1 ∷ []);
  root = 87;
  functions =
      record { name = (codes "f"); parameters = ((record { text = (codes "n"); line = 1 }) ∷ []); locals = ((codes "n") ∷ (codes "i") ∷ []); free = []; has_inner = false; parent = None; body = 32 } ∷
      [];
  handler_names = [];
  is_expression = false;
}
