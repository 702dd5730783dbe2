-- The tree of a script, printed by `tree_printer account_a`.
use Rattle.std.specs.Prelude.{[], ◌∷◌, codes, pos, Some, None, false}
use Rattle.py_ast.specs.declared.program.Program.{Program}
use Rattle.py_ast.specs.declared.builtin.Builtin.TheVariants as builtin
use Rattle.py_ast.specs.declared.expression.Expression.TheVariants as expression
use Rattle.py_ast.specs.declared.node.Node.TheVariants as node
use Rattle.py_ast.specs.declared.statement.Statement.TheVariants as statement
use Rattle.py_ast.specs.declared.target.Target.TheVariants as target
use Rattle.rp_base.specs.declared.operators.BinaryOp.TheVariants as op
use Rattle.rp_base.specs.declared.operators.UnaryOp.TheVariants as unary
use Rattle.rp_base.specs.declared.plain.Plain.TheVariants as plain

-- counter = conn.modules.counter
-- account = conn.namespace["account"]
-- seen = []
-- def watch(acc, amount):
--     seen.append((acc.owner, amount, counter.next()))
-- for name in ["ann", "bob", "ann"]:
--     acc = account(name)
--     acc.watch = watch
--     acc.pay(len(name) * 10)
-- try:
--     account("bob").pay(-1)
-- except ValueError as e:
--     print("refused:", str(e))
-- print(seen)
-- print(conn.namespace["accounts"])
abbrev pub account_a : Program
account_a = record {
  nodes =
      node.Target (target.Name (codes "counter")) ∷
      node.Expression (expression.Name (codes "conn")) ∷
      node.Expression (expression.Attribute 1 (codes "modules")) ∷
      node.Expression (expression.Attribute 2 (codes "counter")) ∷
      node.Statement (statement.Assign 0 3) ∷
      node.Target (target.Name (codes "account")) ∷
      node.Expression (expression.Name (codes "conn")) ∷
      node.Expression (expression.Attribute 6 (codes "namespace")) ∷
      node.Expression (expression.Constant (plain.Text (codes "account"))) ∷
      node.Expression (expression.Item 7 8) ∷
      node.Statement (statement.Assign 5 9) ∷
      node.Target (target.Name (codes "seen")) ∷
      node.Expression (expression.List []) ∷
      node.Statement (statement.Assign 11 12) ∷
      node.Expression (expression.Name (codes "seen")) ∷
      node.Expression (expression.Attribute 14 (codes "append")) ∷
      node.Expression (expression.Name (codes "acc")) ∷
      node.Expression (expression.Attribute 16 (codes "owner")) ∷
      node.Expression (expression.Name (codes "amount")) ∷
      node.Expression (expression.Name (codes "counter")) ∷
      node.Expression (expression.Attribute 19 (codes "next")) ∷
      node.Expression (expression.Call 20 []) ∷
      node.Expression (expression.Tuple (17 ∷ 18 ∷ 21 ∷ [])) ∷
      node.Expression (expression.Call 15 (22 ∷ [])) ∷
      node.Statement (statement.Alone 23) ∷
      node.Statement (statement.Suite (24 ∷ [])) ∷
      node.Statement (statement.Def 0) ∷
      node.Target (target.Name (codes "name")) ∷
      node.Expression (expression.Constant (plain.Text (codes "ann"))) ∷
      node.Expression (expression.Constant (plain.Text (codes "bob"))) ∷
      node.Expression (expression.Constant (plain.Text (codes "ann"))) ∷
      node.Expression (expression.List (28 ∷ 29 ∷ 30 ∷ [])) ∷
      node.Target (target.Name (codes "acc")) ∷
      node.Expression (expression.Name (codes "account")) ∷
      node.Expression (expression.Name (codes "name")) ∷
      node.Expression (expression.Call 33 (34 ∷ [])) ∷
      node.Statement (statement.Assign 32 35) ∷
      node.Expression (expression.Name (codes "acc")) ∷
      node.Target (target.Attribute 37 (codes "watch")) ∷
      node.Expression (expression.Name (codes "watch")) ∷
      node.Statement (statement.Assign 38 39) ∷
      node.Expression (expression.Name (codes "acc")) ∷
      node.Expression (expression.Attribute 41 (codes "pay")) ∷
      node.Expression (expression.Builtin builtin.Len) ∷
      node.Expression (expression.Name (codes "name")) ∷
      node.Expression (expression.Call 43 (44 ∷ [])) ∷
      node.Expression (expression.Constant (plain.Int (pos 10))) ∷
      node.Expression (expression.Binary op.Mul 45 46) ∷
      node.Expression (expression.Call 42 (47 ∷ [])) ∷
      node.Statement (statement.Alone 48) ∷
      node.Statement (statement.Suite (36 ∷ 40 ∷ 49 ∷ [])) ∷
      node.Statement (statement.For 27 31 50) ∷
      node.Expression (expression.Name (codes "account")) ∷
      node.Expression (expression.Constant (plain.Text (codes "bob"))) ∷
      node.Expression (expression.Call 52 (53 ∷ [])) ∷
      node.Expression (expression.Attribute 54 (codes "pay")) ∷
      node.Expression (expression.Constant (plain.Int (pos 1))) ∷
      node.Expression (expression.Unary unary.Neg 56) ∷
      node.Expression (expression.Call 55 (57 ∷ [])) ∷
      node.Statement (statement.Alone 58) ∷
      node.Statement (statement.Suite (59 ∷ [])) ∷
      node.Expression (expression.Builtin builtin.Print) ∷
      node.Expression (expression.Constant (plain.Text (codes "refused:"))) ∷
      node.Expression (expression.Builtin builtin.Str) ∷
      node.Expression (expression.Name (codes "e")) ∷
      node.Expression (expression.Call 63 (64 ∷ [])) ∷
      node.Expression (expression.Call 61 (62 ∷ 65 ∷ [])) ∷
      node.Statement (statement.Alone 66) ∷
      node.Statement (statement.Suite (67 ∷ [])) ∷
      node.Statement (statement.Except ((record { text = (codes "ValueError"); line = 12 }) ∷ []) (Some (record { text = (codes "e"); line = 12 })) 68) ∷
      node.Statement (statement.Try 60 (69 ∷ []) None) ∷
      node.Expression (expression.Builtin builtin.Print) ∷
      node.Expression (expression.Name (codes "seen")) ∷
      node.Expression (expression.Call 71 (72 ∷ [])) ∷
      node.Statement (statement.Alone 73) ∷
      node.Expression (expression.Builtin builtin.Print) ∷
      node.Expression (expression.Name (codes "conn")) ∷
      node.Expression (expression.Attribute 76 (codes "namespace")) ∷
      node.Expression (expression.Constant (plain.Text (codes "accounts"))) ∷
      node.Expression (expression.Item 77 78) ∷
      node.Expression (expression.Call 75 (79 ∷ [])) ∷
      node.Statement (statement.Alone 80) ∷
      node.Statement (statement.Suite (4 ∷ 10 ∷ 13 ∷ 26 ∷ 51 ∷ 70 ∷ 74 ∷ 81 ∷ [])) ∷
      [];
  lines = (1 ∷ 1 ∷ 1 ∷ 1 ∷ 1 ∷ 2 ∷ 2 ∷ 2 ∷ 2 ∷ 2 ∷ 2 ∷ 3 ∷ 3 ∷ 3 ∷ 5 ∷ 5 ∷ 5 ∷ 5 ∷ 5 ∷ 5 ∷ 5 ∷ 5 ∷ 5 ∷ 5 ∷ 5 ∷ 4 ∷ 4 ∷ 6 ∷ 6 ∷ 6 ∷ 6 ∷ 6 ∷ 7 ∷ 7 ∷ 7 ∷ 7 ∷ 7 ∷ 8 ∷ 8 ∷ 8 ∷ 8 ∷ 9 ∷ 9 ∷ 9 ∷ 9 ∷ 9 ∷ 9 ∷ 9 ∷ 9 ∷ 9 ∷ 6 ∷ 6 ∷ 11 ∷ 11 ∷ 11 ∷ 11 ∷ 11 ∷ 11 ∷ 11 ∷ 11 ∷ 10 ∷ 13 ∷ 13 ∷ 13 ∷ 13 ∷ 13 ∷ 13 ∷ 13 ∷ 12 ∷ 12 ∷ 10 ∷ 14 ∷ 14 ∷ 14 ∷ 14 ∷ 15 ∷ 15 ∷ 15 ∷ 15 ∷ 15 ∷ 15 ∷ 15 ∷ 1 ∷ []);
  root = 82;
  functions =
      record { name = (codes "watch"); parameters = ((record { text = (codes "acc"); line = 4 }) ∷ (record { text = (codes "amount"); line = 4 }) ∷ []); locals = ((codes "acc") ∷ (codes "amount") ∷ []); free = []; has_inner = false; parent = None; body = 25 } ∷
      [];
  handler_names = ((codes "e") ∷ []);
  is_expression = false;
}
