-- The tree of a script, printed by `tree_printer closure`.
use Rattle.std.specs.Prelude.{[], ◌∷◌, codes, pos, Some, None, true, false}
use Rattle.py_ast.specs.declared.program.Program.{Program}
use Rattle.py_ast.specs.declared.builtin.Builtin.TheVariants as builtin
use Rattle.py_ast.specs.declared.expression.Expression.TheVariants as expression
use Rattle.py_ast.specs.declared.node.Node.TheVariants as node
use Rattle.py_ast.specs.declared.statement.Statement.TheVariants as statement
use Rattle.py_ast.specs.declared.target.Target.TheVariants as target
use Rattle.rp_base.specs.declared.operators.BinaryOp.TheVariants as op
use Rattle.rp_base.specs.declared.plain.Plain.TheVariants as plain

-- def make(n):
--     def add(k):
--         nonlocal n
--         n += k
--         return n
--     return add
-- f = make(10)
-- print(f(1), f(2))
-- try:
--     print(1 // 0)
-- except ZeroDivisionError as e:
--     print("caught", str(e))
-- finally:
--     print("last")
abbrev pub closure : Program
closure = record {
  nodes =
      node.Statement (statement.Nonlocal ((record { text = (codes "n"); line = 3 }) ∷ [])) ∷
      node.Target (target.Name (codes "n")) ∷
      node.Expression (expression.Name (codes "k")) ∷
      node.Statement (statement.Augmented 1 op.Add 2) ∷
      node.Expression (expression.Name (codes "n")) ∷
      node.Statement (statement.Return (Some 4)) ∷
      node.Statement (statement.Suite (0 ∷ 3 ∷ 5 ∷ [])) ∷
      node.Statement (statement.Def 1) ∷
      node.Expression (expression.Name (codes "add")) ∷
      node.Statement (statement.Return (Some 8)) ∷
      node.Statement (statement.Suite (7 ∷ 9 ∷ [])) ∷
      node.Statement (statement.Def 0) ∷
      node.Target (target.Name (codes "f")) ∷
      node.Expression (expression.Name (codes "make")) ∷
      node.Expression (expression.Constant (plain.Int (pos 10))) ∷
      node.Expression (expression.Call 13 (14 ∷ [])) ∷
      node.Statement (statement.Assign 12 15) ∷
      node.Expression (expression.Builtin builtin.Print) ∷
      node.Expression (expression.Name (codes "f")) ∷
      node.Expression (expression.Constant (plain.Int (pos 1))) ∷
      node.Expression (expression.Call 18 (19 ∷ [])) ∷
      node.Expression (expression.Name (codes "f")) ∷
      node.Expression (expression.Constant (plain.Int (pos 2))) ∷
      node.Expression (expression.Call 21 (22 ∷ [])) ∷
      node.Expression (expression.Call 17 (20 ∷ 23 ∷ [])) ∷
      node.Statement (statement.Alone 24) ∷
      node.Expression (expression.Builtin builtin.Print) ∷
      node.Expression (expression.Constant (plain.Int (pos 1))) ∷
      node.Expression (expression.Constant (plain.Int (pos 0))) ∷
      node.Expression (expression.Binary op.FloorDiv 27 28) ∷
      node.Expression (expression.Call 26 (29 ∷ [])) ∷
      node.Statement (statement.Alone 30) ∷
      node.Statement (statement.Suite (31 ∷ [])) ∷
      node.Expression (expression.Builtin builtin.Print) ∷
      node.Expression (expression.Constant (plain.Text (codes "caught"))) ∷
      node.Expression (expression.Builtin builtin.Str) ∷
      node.Expression (expression.Name (codes "e")) ∷
      node.Expression (expression.Call 35 (36 ∷ [])) ∷
      node.Expression (expression.Call 33 (34 ∷ 37 ∷ [])) ∷
      node.Statement (statement.Alone 38) ∷
      node.Statement (statement.Suite (39 ∷ [])) ∷
      node.Statement (statement.Except ((record { text = (codes "ZeroDivisionError"); line = 11 }) ∷ []) (Some (record { text = (codes "e"); line = 11 })) 40) ∷
      node.Expression (expression.Builtin builtin.Print) ∷
      node.Expression (expression.Constant (plain.Text (codes "last"))) ∷
      node.Expression (expression.Call 42 (43 ∷ [])) ∷
      node.Statement (statement.Alone 44) ∷
      node.Statement (statement.Suite (45 ∷ [])) ∷
      node.Statement (statement.Try 32 (41 ∷ []) (Some 46)) ∷
      node.Statement (statement.Suite (11 ∷ 16 ∷ 25 ∷ 47 ∷ [])) ∷
      [];
  lines = (3 ∷ 4 ∷ 4 ∷ 4 ∷ 5 ∷ 5 ∷ 2 ∷ 2 ∷ 6 ∷ 6 ∷ 1 ∷ 1 ∷ 7 ∷ 7 ∷ 7 ∷ 7 ∷ 7 ∷ 8 ∷ 8 ∷ 8 ∷ 8 ∷ 8 ∷ 8 ∷ 8 ∷ 8 ∷ 8 ∷ 10 ∷ 10 ∷ 10 ∷ 10 ∷ 10 ∷ 10 ∷ 9 ∷ 12 ∷ 12 ∷ 12 ∷ 12 ∷ 12 ∷ 12 ∷ 12 ∷ 11 ∷ 11 ∷ 14 ∷ 14 ∷ 14 ∷ 14 ∷ 13 ∷ 9 ∷ 1 ∷ []);
  root = 48;
  functions =
      record { name = (codes "make"); parameters = ((record { text = (codes "n"); line = 1 }) ∷ []); locals = ((codes "n") ∷ (codes "add") ∷ []); free = []; has_inner = true; parent = None; body = 10 } ∷
      record { name = (codes "add"); parameters = ((record { text = (codes "k"); line = 2 }) ∷ []); locals = ((codes "k") ∷ []); free = ((codes "n") ∷ []); has_inner = false; parent = (Some 0); body = 6 } ∷
      [];
  handler_names = ((codes "e") ∷ []);
  is_expression = false;
}
