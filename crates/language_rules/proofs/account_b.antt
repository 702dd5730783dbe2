-- The tree of a script, printed by `tree_printer account_b`.
use Rattle.std.specs.Prelude.{[], ◌∷◌, codes, pos, Some, None, false}
use Rattle.py_ast.specs.declared.program.Program.{Program}
use Rattle.py_ast.specs.declared.builtin.Builtin.TheVariants as builtin
use Rattle.py_ast.specs.declared.expression.Comparison.TheVariants as comparison
use Rattle.py_ast.specs.declared.expression.Expression.TheVariants as expression
use Rattle.py_ast.specs.declared.node.Node.TheVariants as node
use Rattle.py_ast.specs.declared.statement.Statement.TheVariants as statement
use Rattle.py_ast.specs.declared.target.Target.TheVariants as target
use Rattle.rp_base.specs.declared.operators.BinaryOp.TheVariants as op
use Rattle.rp_base.specs.declared.operators.CmpOp.TheVariants as cmp
use Rattle.rp_base.specs.declared.plain.Plain.TheVariants as plain

-- class Account:
--     def __init__(self, owner):
--         self.owner = owner
--         self.total = 0
--         self.watch = None
--     def pay(self, amount):
--         if amount < 0:
--             raise ValueError("negative amount")
--         self.total += amount
--         if self.watch is not None:
--             self.watch(self, amount)
--     def __repr__(self):
--         return self.owner + ":" + str(self.total)
-- accounts = {}
-- def account(name):
--     if name not in accounts:
--         accounts[name] = Account(name)
--     return accounts[name]
abbrev pub account_b : Program
account_b = record {
  nodes =
      node.Expression (expression.Name (codes "self")) ∷
      node.Target (target.Attribute 0 (codes "owner")) ∷
      node.Expression (expression.Name (codes "owner")) ∷
      node.Statement (statement.Assign 1 2) ∷
      node.Expression (expression.Name (codes "self")) ∷
      node.Target (target.Attribute 4 (codes "total")) ∷
      node.Expression (expression.Constant (plain.Int (pos 0))) ∷
      node.Statement (statement.Assign 5 6) ∷
      node.Expression (expression.Name (codes "self")) ∷
      node.Target (target.Attribute 8 (codes "watch")) ∷
      node.Expression (expression.Constant plain.None) ∷
      node.Statement (statement.Assign 9 10) ∷
      node.Statement (statement.Suite (3 ∷ 7 ∷ 11 ∷ [])) ∷
      node.Statement (statement.Def 0) ∷
      node.Expression (expression.Name (codes "amount")) ∷
      node.Expression (expression.Constant (plain.Int (pos 0))) ∷
      node.Expression (expression.Compare 14 (record { comparison = comparison.Order cmp.Lt; line = 7; right = 15 } ∷ [])) ∷
      node.Expression (expression.Constant (plain.Text (codes "negative amount"))) ∷
      node.Statement (statement.RaiseCall (record { text = (codes "ValueError"); line = 8 }) (17 ∷ [])) ∷
      node.Statement (statement.Suite (18 ∷ [])) ∷
      node.Statement (statement.If 16 19 None) ∷
      node.Expression (expression.Name (codes "self")) ∷
      node.Target (target.Attribute 21 (codes "total")) ∷
      node.Expression (expression.Name (codes "amount")) ∷
      node.Statement (statement.Augmented 22 op.Add 23) ∷
      node.Expression (expression.Name (codes "self")) ∷
      node.Expression (expression.Attribute 25 (codes "watch")) ∷
      node.Expression (expression.Constant plain.None) ∷
      node.Expression (expression.Compare 26 (record { comparison = comparison.IsNot; line = 10; right = 27 } ∷ [])) ∷
      node.Expression (expression.Name (codes "self")) ∷
      node.Expression (expression.Attribute 29 (codes "watch")) ∷
      node.Expression (expression.Name (codes "self")) ∷
      node.Expression (expression.Name (codes "amount")) ∷
      node.Expression (expression.Call 30 (31 ∷ 32 ∷ [])) ∷
      node.Statement (statement.Alone 33) ∷
      node.Statement (statement.Suite (34 ∷ [])) ∷
      node.Statement (statement.If 28 35 None) ∷
      node.Statement (statement.Suite (20 ∷ 24 ∷ 36 ∷ [])) ∷
      node.Statement (statement.Def 1) ∷
      node.Expression (expression.Name (codes "self")) ∷
      node.Expression (expression.Attribute 39 (codes "owner")) ∷
      node.Expression (expression.Constant (plain.Text (codes ":"))) ∷
      node.Expression (expression.Binary op.Add 40 41) ∷
      node.Expression (expression.Builtin builtin.Str) ∷
      node.Expression (expression.Name (codes "self")) ∷
      node.Expression (expression.Attribute 44 (codes "total")) ∷
      node.Expression (expression.Call 43 (45 ∷ [])) ∷
      node.Expression (expression.Binary op.Add 42 46) ∷
      node.Statement (statement.Return (Some 47)) ∷
      node.Statement (statement.Suite (48 ∷ [])) ∷
      node.Statement (statement.Def 2) ∷
      node.Statement (statement.Suite (13 ∷ 38 ∷ 50 ∷ [])) ∷
      node.Statement (statement.Class (record { text = (codes "Account"); line = 1 }) None 51) ∷
      node.Target (target.Name (codes "accounts")) ∷
      node.Expression (expression.Dict []) ∷
      node.Statement (statement.Assign 53 54) ∷
      node.Expression (expression.Name (codes "name")) ∷
      node.Expression (expression.Name (codes "accounts")) ∷
      node.Expression (expression.Compare 56 (record { comparison = comparison.NotIn; line = 16; right = 57 } ∷ [])) ∷
      node.Expression (expression.Name (codes "accounts")) ∷
      node.Expression (expression.Name (codes "name")) ∷
      node.Target (target.Item 59 60) ∷
      node.Expression (expression.Name (codes "Account")) ∷
      node.Expression (expression.Name (codes "name")) ∷
      node.Expression (expression.Call 62 (63 ∷ [])) ∷
      node.Statement (statement.Assign 61 64) ∷
      node.Statement (statement.Suite (65 ∷ [])) ∷
      node.Statement (statement.If 58 66 None) ∷
      node.Expression (expression.Name (codes "accounts")) ∷
      node.Expression (expression.Name (codes "name")) ∷
      node.Expression (expression.Item 68 69) ∷
      node.Statement (statement.Return (Some 70)) ∷
      node.Statement (statement.Suite (67 ∷ 71 ∷ [])) ∷
      node.Statement (statement.Def 3) ∷
      node.Statement (statement.Suite (52 ∷ 55 ∷ 73 ∷ [])) ∷
      [];
  lines = (3 ∷ 3 ∷ 3 ∷ 3 ∷ 4 ∷ 4 ∷ 4 ∷ 4 ∷ 5 ∷ 5 ∷ 5 ∷ 5 ∷ 2 ∷ 2 ∷ 7 ∷ 7 ∷ 7 ∷ 8 ∷ 8 ∷ 7 ∷ 7 ∷ 9 ∷ 9 ∷ 9 ∷ 9 ∷ 10 ∷ 10 ∷ 10 ∷ 10 ∷ 11 ∷ 11 ∷ 11 ∷ 11 ∷ 11 ∷ 11 ∷ 10 ∷ 10 ∷ 6 ∷ 6 ∷ 13 ∷ 13 ∷ 13 ∷ 13 ∷ 13 ∷ 13 ∷ 13 ∷ 13 ∷ 13 ∷ 13 ∷ 12 ∷ 12 ∷ 1 ∷ 1 ∷ 14 ∷ 14 ∷ 14 ∷ 16 ∷ 16 ∷ 16 ∷ 17 ∷ 17 ∷ 17 ∷ 17 ∷ 17 ∷ 17 ∷ 17 ∷ 16 ∷ 16 ∷ 18 ∷ 18 ∷ 18 ∷ 18 ∷ 15 ∷ 15 ∷ 1 ∷ []);
  root = 74;
  functions =
      record { name = (codes "__init__"); parameters = ((record { text = (codes "self"); line = 2 }) ∷ (record { text = (codes "owner"); line = 2 }) ∷ []); locals = ((codes "self") ∷ (codes "owner") ∷ []); free = []; has_inner = false; parent = None; body = 12 } ∷
      record { name = (codes "pay"); parameters = ((record { text = (codes "self"); line = 6 }) ∷ (record { text = (codes "amount"); line = 6 }) ∷ []); locals = ((codes "self") ∷ (codes "amount") ∷ []); free = []; has_inner = false; parent = None; body = 37 } ∷
      record { name = (codes "__repr__"); parameters = ((record { text = (codes "self"); line = 12 }) ∷ []); locals = ((codes "self") ∷ []); free = []; has_inner = false; parent = None; body = 49 } ∷
      record { name = (codes "account"); parameters = ((record { text = (codes "name"); line = 15 }) ∷ []); locals = ((codes "name") ∷ []); free = []; has_inner = false; parent = None; body = 72 } ∷
      [];
  handler_names = [];
  is_expression = false;
}
