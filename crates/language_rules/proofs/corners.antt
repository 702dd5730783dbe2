-- The tree of a script, printed by `tree_printer corners`.
use Rattle.std.specs.Prelude.{[], ◌∷◌, codes, pos, Some, None, true, false}
use Rattle.py_ast.specs.declared.program.Program.{Program}
use Rattle.py_ast.specs.declared.builtin.Builtin.TheVariants as builtin
use Rattle.py_ast.specs.declared.expression.Comparison.TheVariants as comparison
use Rattle.py_ast.specs.declared.expression.Expression.TheVariants as expression
use Rattle.py_ast.specs.declared.node.Node.TheVariants as node
use Rattle.py_ast.specs.declared.statement.Statement.TheVariants as statement
use Rattle.py_ast.specs.declared.target.Target.TheVariants as target
use Rattle.rp_base.specs.declared.operators.CmpOp.TheVariants as cmp
use Rattle.rp_base.specs.declared.operators.UnaryOp.TheVariants as unary
use Rattle.rp_base.specs.declared.plain.Plain.TheVariants as plain

-- class C:
--     def __init__(self, n):
--         self.n = n
--     def __gt__(self, other):
--         return ("gt", self.n, other)
--     def __eq__(self, other):
--         return other == self.n
--     def f(self, x):
--         return x
-- class D:
--     def __init__(self):
--         return 1
-- c = C(3)
-- print(not range(5, 5), len(range(5, 0, -2)), [1, 2, 3][-1])
-- d = {1: 2}
-- v = d.keys()
-- d[3] = 4
-- d[3] = 5
-- print(len(v), d.setdefault(5, "new"), d.setdefault(1, "old"))
-- l = [1, 2]
-- l.insert(-1, "x")
-- l.insert(-9, "y")
-- l.insert(9, "z")
-- print(l, max(1, True), min(True, 1), max([1, 2]))
-- print(1 < c, c != 3, c != 4, c == 3)
-- c.f = l.append
-- c.f("w")
-- print(l)
-- try:
--     D()
-- except TypeError as e:
--     print(str(e))
abbrev pub corners : Program
corners = record {
  nodes =
      node.Expression (expression.Name (codes "self")) ∷
      node.Target (target.Attribute 0 (codes "n")) ∷
      node.Expression (expression.Name (codes "n")) ∷
      node.Statement (statement.Assign 1 2) ∷
      node.Statement (statement.Suite (3 ∷ [])) ∷
      node.Statement (statement.Def 0) ∷
      node.Expression (expression.Constant (plain.Text (codes "gt"))) ∷
      node.Expression (expression.Name (codes "self")) ∷
      node.Expression (expression.Attribute 7 (codes "n")) ∷
      node.Expression (expression.Name (codes "other")) ∷
      node.Expression (expression.Tuple (6 ∷ 8 ∷ 9 ∷ [])) ∷
      node.Statement (statement.Return (Some 10)) ∷
      node.Statement (statement.Suite (11 ∷ [])) ∷
      node.Statement (statement.Def 1) ∷
      node.Expression (expression.Name (codes "other")) ∷
      node.Expression (expression.Name (codes "self")) ∷
      node.Expression (expression.Attribute 15 (codes "n")) ∷
      node.Expression (expression.Compare 14 (record { comparison = comparison.Order cmp.Eq; line = 7; right = 16 } ∷ [])) ∷
      node.Statement (statement.Return (Some 17)) ∷
      node.Statement (statement.Suite (18 ∷ [])) ∷
      node.Statement (statement.Def 2) ∷
      node.Expression (expression.Name (codes "x")) ∷
      node.Statement (statement.Return (Some 21)) ∷
      node.Statement (statement.Suite (22 ∷ [])) ∷
      node.Statement (statement.Def 3) ∷
      node.Statement (statement.Suite (5 ∷ 13 ∷ 20 ∷ 24 ∷ [])) ∷
      node.Statement (statement.Class (record { text = (codes "C"); line = 1 }) None 25) ∷
      node.Expression (expression.Constant (plain.Int (pos 1))) ∷
      node.Statement (statement.Return (Some 27)) ∷
      node.Statement (statement.Suite (28 ∷ [])) ∷
      node.Statement (statement.Def 4) ∷
      node.Statement (statement.Suite (30 ∷ [])) ∷
      node.Statement (statement.Class (record { text = (codes "D"); line = 10 }) None 31) ∷
      node.Target (target.Name (codes "c")) ∷
      node.Expression (expression.Name (codes "C")) ∷
      node.Expression (expression.Constant (plain.Int (pos 3))) ∷
      node.Expression (expression.Call 34 (35 ∷ [])) ∷
      node.Statement (statement.Assign 33 36) ∷
      node.Expression (expression.Builtin builtin.Print) ∷
      node.Expression (expression.Builtin builtin.Range) ∷
      node.Expression (expression.Constant (plain.Int (pos 5))) ∷
      node.Expression (expression.Constant (plain.Int (pos 5))) ∷
      node.Expression (expression.Call 39 (40 ∷ 41 ∷ [])) ∷
      node.Expression (expression.Not 42) ∷
      node.Expression (expression.Builtin builtin.Len) ∷
      node.Expression (expression.Builtin builtin.Range) ∷
      node.Expression (expression.Constant (plain.Int (pos 5))) ∷
      node.Expression (expression.Constant (plain.Int (pos 0))) ∷
      node.Expression (expression.Constant (plain.Int (pos 2))) ∷
      node.Expression (expression.Unary unary.Neg 48) ∷
      node.Expression (expression.Call 45 (46 ∷ 47 ∷ 49 ∷ [])) ∷
      node.Expression (expression.Call 44 (50 ∷ [])) ∷
      node.Expression (expression.Constant (plain.Int (pos 1))) ∷
      node.Expression (expression.Constant (plain.Int (pos 2))) ∷
      node.Expression (expression.Constant (plain.Int (pos 3))) ∷
      node.Expression (expression.List (52 ∷ 53 ∷ 54 ∷ [])) ∷
      node.Expression (expression.Constant (plain.Int (pos 1))) ∷
      node.Expression (expression.Unary unary.Neg 56) ∷
      node.Expression (expression.Item 55 57) ∷
      node.Expression (expression.Call 38 (43 ∷ 51 ∷ 58 ∷ [])) ∷
      node.Statement (statement.Alone 59) ∷
      node.Target (target.Name (codes "d")) ∷
      node.Expression (expression.Constant (plain.Int (pos 1))) ∷
      node.Expression (expression.Constant (plain.Int (pos 2))) ∷
      node.Expression (expression.Dict (62 ∷ 63 ∷ [])) ∷
      node.Statement (statement.Assign 61 64) ∷
      node.Target (target.Name (codes "v")) ∷
      node.Expression (expression.Name (codes "d")) ∷
      node.Expression (expression.Attribute 67 (codes "keys")) ∷
      node.Expression (expression.Call 68 []) ∷
      node.Statement (statement.Assign 66 69) ∷
      node.Expression (expression.Name (codes "d")) ∷
      node.Expression (expression.Constant (plain.Int (pos 3))) ∷
      node.Target (target.Item 71 72) ∷
      node.Expression (expression.Constant (plain.Int (pos 4))) ∷
      node.Statement (statement.Assign 73 74) ∷
      node.Expression (expression.Name (codes "d")) ∷
      node.Expression (expression.Constant (plain.Int (pos 3))) ∷
      node.Target (target.Item 76 77) ∷
      node.Expression (expression.Constant (plain.Int (pos 5))) ∷
      node.Statement (statement.Assign 78 79) ∷
      node.Expression (expression.Builtin builtin.Print) ∷
      node.Expression (expression.Builtin builtin.Len) ∷
      node.Expression (expression.Name (codes "v")) ∷
      node.Expression (expression.Call 82 (83 ∷ [])) ∷
      node.Expression (expression.Name (codes "d")) ∷
      node.Expression (expression.Attribute 85 (codes "setdefault")) ∷
      node.Expression (expression.Constant (plain.Int (pos 5))) ∷
      node.Expression (expression.Constant (plain.Text (codes "new"))) ∷
      node.Expression (expression.Call 86 (87 ∷ 88 ∷ [])) ∷
      node.Expression (expression.Name (codes "d")) ∷
      node.Expression (expression.Attribute 90 (codes "setdefault")) ∷
      node.Expression (expression.Constant (plain.Int (pos 1))) ∷
      node.Expression (expression.Constant (plain.Text (codes "old"))) ∷
      node.Expression (expression.Call 91 (92 ∷ 93 ∷ [])) ∷
      node.Expression (expression.Call 81 (84 ∷ 89 ∷ 94 ∷ [])) ∷
      node.Statement (statement.Alone 95) ∷
      node.Target (target.Name (codes "l")) ∷
      node.Expression (expression.Constant (plain.Int (pos 1))) ∷
      node.Expression (expression.Constant (plain.Int (pos 2))) ∷
      node.Expression (expression.List (98 ∷ 99 ∷ [])) ∷
      node.Statement (statement.Assign 97 100) ∷
      node.Expression (expression.Name (codes "l")) ∷
      node.Expression (expression.Attribute 102 (codes "insert")) ∷
      node.Expression (expression.Constant (plain.Int (pos 1))) ∷
      node.Expression (expression.Unary unary.Neg 104) ∷
      node.Expression (expression.Constant (plain.Text (codes "x"))) ∷
      node.Expression (expression.Call 103 (105 ∷ 106 ∷ [])) ∷
      node.Statement (statement.Alone 107) ∷
      node.Expression (expression.Name (codes "l")) ∷
      node.Expression (expression.Attribute 109 (codes "insert")) ∷
      node.Expression (expression.Constant (plain.Int (pos 9))) ∷
      node.Expression (expression.Unary unary.Neg 111) ∷
      node.Expression (expression.Constant (plain.Text (codes "y"))) ∷
      node.Expression (expression.Call 110 (112 ∷ 113 ∷ [])) ∷
      node.Statement (statement.Alone 114) ∷
      node.Expression (expression.Name (codes "l")) ∷
      node.Expression (expression.Attribute 116 (codes "insert")) ∷
      node.Expression (expression.Constant (plain.Int (pos 9))) ∷
      node.Expression (expression.Constant (plain.Text (codes "z"))) ∷
      node.Expression (expression.Call 117 (118 ∷ 119 ∷ [])) ∷
      node.Statement (statement.Alone 120) ∷
      node.Expression (expression.Builtin builtin.Print) ∷
      node.Expression (expression.Name (codes "l")) ∷
      node.Expression (expression.Builtin builtin.Max) ∷
      node.Expression (expression.Constant (plain.Int (pos 1))) ∷
      node.Expression (expression.Constant (plain.Bool true)) ∷
      node.Expression (expression.Call 124 (125 ∷ 126 ∷ [])) ∷
      node.Expression (expression.Builtin builtin.Min) ∷
      node.Expression (expression.Constant (plain.Bool true)) ∷
      node.Expression (expression.Constant (plain.Int (pos 1))) ∷
      node.Expression (expression.Call 128 (129 ∷ 130 ∷ [])) ∷
      node.Expression (expression.Builtin builtin.Max) ∷
      node.Expression (expression.Constant (plain.Int (pos 1))) ∷
      node.Expression (expression.Constant (plain.Int (pos 2))) ∷
      node.Expression (expression.List (133 ∷ 134 ∷ [])) ∷
      node.Expression (expression.Call 132 (135 ∷ [])) ∷
      node.Expression (expression.Call 122 (123 ∷ 127 ∷ 131 ∷ 136 ∷ [])) ∷
      node.Statement (statement.Alone 137) ∷
      node.Expression (expression.Builtin builtin.Print) ∷
      node.Expression (expression.Constant (plain.Int (pos 1))) ∷
      node.Expression (expression.Name (codes "c")) ∷
      node.Expression (expression.Compare 140 (record { comparison = comparison.Order cmp.Lt; line = 25; right = 141 } ∷ [])) ∷
      node.Expression (expression.Name (codes "c")) ∷
      node.Expression (expression.Constant (plain.Int (pos 3))) ∷
      node.Expression (expression.Compare 143 (record { comparison = comparison.Order cmp.Ne; line = 25; right = 144 } ∷ [])) ∷
      node.Expression (expression.Name (codes "c")) ∷
      node.Expression (expression.Constant (plain.Int (pos 4))) ∷
      node.Expression (expression.Compare 146 (record { comparison = comparison.Order cmp.Ne; line = 25; right = 147 } ∷ [])) ∷
      node.Expression (expression.Name (codes "c")) ∷
      node.Expression (expression.Constant (plain.Int (pos 3))) ∷
      node.Expression (expression.Compare 149 (record { comparison = comparison.Order cmp.Eq; line = 25; right = 150 } ∷ [])) ∷
      node.Expression (expression.Call 139 (142 ∷ 145 ∷ 148 ∷ 151 ∷ [])) ∷
      node.Statement (statement.Alone 152) ∷
      node.Expression (expression.Name (codes "c")) ∷
      node.Target (target.Attribute 154 (codes "f")) ∷
      node.Expression (expression.Name (codes "l")) ∷
      node.Expression (expression.Attribute 156 (codes "append")) ∷
      node.Statement (statement.Assign 155 157) ∷
      node.Expression (expression.Name (codes "c")) ∷
      node.Expression (expression.Attribute 159 (codes "f")) ∷
      node.Expression (expression.Constant (plain.Text (codes "w"))) ∷
      node.Expression (expression.Call 160 (161 ∷ [])) ∷
      node.Statement (statement.Alone 162) ∷
      node.Expression (expression.Builtin builtin.Print) ∷
      node.Expression (expression.Name (codes "l")) ∷
      node.Expression (expression.Call 164 (165 ∷ [])) ∷
      node.Statement (statement.Alone 166) ∷
      node.Expression (expression.Name (codes "D")) ∷
      node.Expression (expression.Call 168 []) ∷
      node.Statement (statement.Alone 169) ∷
      node.Statement (statement.Suite (170 ∷ [])) ∷
      node.Expression (expression.Builtin builtin.Print) ∷
      node.Expression (expression.Builtin builtin.Str) ∷
      node.Expression (expression.Name (codes "e")) ∷
      node.Expression (expression.Call 173 (174 ∷ [])) ∷
      node.Expression (expression.Call 172 (175 ∷ [])) ∷
      node.Statement (statement.Alone 176) ∷
      node.Statement (statement.Suite (177 ∷ [])) ∷
      node.Statement (statement.Except ((record { text = (codes "TypeError"); line = 31 }) ∷ []) (Some (record { text = (codes "e"); line = 31 })) 178) ∷
      node.Statement (statement.Try 171 (179 ∷ []) None) ∷
      node.Statement (statement.Suite (26 ∷ 32 ∷ 37 ∷ 60 ∷ 65 ∷ 70 ∷ 75 ∷ 80 ∷ 96 ∷ 101 ∷ 108 ∷ 115 ∷ 121 ∷ 138 ∷ 153 ∷ 158 ∷ 163 ∷ 167 ∷ 180 ∷ [])) ∷
      [];
  lines = (3 ∷ 3 ∷ 3 ∷ 3 ∷ 2 ∷ 2 ∷ 5 ∷ 5 ∷ 5 ∷ 5 ∷ 5 ∷ 5 ∷ 4 ∷ 4 ∷ 7 ∷ 7 ∷ 7 ∷ 7 ∷ 7 ∷ 6 ∷ 6 ∷ 9 ∷ 9 ∷ 8 ∷ 8 ∷ 1 ∷ 1 ∷ 12 ∷ 12 ∷ 11 ∷ 11 ∷ 10 ∷ 10 ∷ 13 ∷ 13 ∷ 13 ∷ 13 ∷ 13 ∷ 14 ∷ 14 ∷ 14 ∷ 14 ∷ 14 ∷ 14 ∷ 14 ∷ 14 ∷ 14 ∷ 14 ∷ 14 ∷ 14 ∷ 14 ∷ 14 ∷ 14 ∷ 14 ∷ 14 ∷ 14 ∷ 14 ∷ 14 ∷ 14 ∷ 14 ∷ 14 ∷ 15 ∷ 15 ∷ 15 ∷ 15 ∷ 15 ∷ 16 ∷ 16 ∷ 16 ∷ 16 ∷ 16 ∷ 17 ∷ 17 ∷ 17 ∷ 17 ∷ 17 ∷ 18 ∷ 18 ∷ 18 ∷ 18 ∷ 18 ∷ 19 ∷ 19 ∷ 19 ∷ 19 ∷ 19 ∷ 19 ∷ 19 ∷ 19 ∷ 19 ∷ 19 ∷ 19 ∷ 19 ∷ 19 ∷ 19 ∷ 19 ∷ 19 ∷ 20 ∷ 20 ∷ 20 ∷ 20 ∷ 20 ∷ 21 ∷ 21 ∷ 21 ∷ 21 ∷ 21 ∷ 21 ∷ 21 ∷ 22 ∷ 22 ∷ 22 ∷ 22 ∷ 22 ∷ 22 ∷ 22 ∷ 23 ∷ 23 ∷ 23 ∷ 23 ∷ 23 ∷ 23 ∷ 24 ∷ 24 ∷ 24 ∷ 24 ∷ 24 ∷ 24 ∷ 24 ∷ 24 ∷ 24 ∷ 24 ∷ 24 ∷ 24 ∷ 24 ∷ 24 ∷ 24 ∷ 24 ∷ 24 ∷ 25 ∷ 25 ∷ 25 ∷ 25 ∷ 25 ∷ 25 ∷ 25 ∷ 25 ∷ 25 ∷ 25 ∷ 25 ∷ 25 ∷ 25 ∷ 25 ∷ 25 ∷ 26 ∷ 26 ∷ 26 ∷ 26 ∷ 26 ∷ 27 ∷ 27 ∷ 27 ∷ 27 ∷ 27 ∷ 28 ∷ 28 ∷ 28 ∷ 28 ∷ 30 ∷ 30 ∷ 30 ∷ 29 ∷ 32 ∷ 32 ∷ 32 ∷ 32 ∷ 32 ∷ 32 ∷ 31 ∷ 31 ∷ 29 ∷ 1 ∷ []);
  root = 181;
  functions =
      record { name = (codes "__init__"); parameters = ((record { text = (codes "self"); line = 2 }) ∷ (record { text = (codes "n"); line = 2 }) ∷ []); locals = ((codes "self") ∷ (codes "n") ∷ []); free = []; has_inner = false; parent = None; body = 4 } ∷
      record { name = (codes "__gt__"); parameters = ((record { text = (codes "self"); line = 4 }) ∷ (record { text = (codes "other"); line = 4 }) ∷ []); locals = ((codes "self") ∷ (codes "other") ∷ []); free = []; has_inner = false; parent = None; body = 12 } ∷
      record { name = (codes "__eq__"); parameters = ((record { text = (codes "self"); line = 6 }) ∷ (record { text = (codes "other"); line = 6 }) ∷ []); locals = ((codes "self") ∷ (codes "other") ∷ []); free = []; has_inner = false; parent = None; body = 19 } ∷
      record { name = (codes "f"); parameters = ((record { text = (codes "self"); line = 8 }) ∷ (record { text = (codes "x"); line = 8 }) ∷ []); locals = ((codes "self") ∷ (codes "x") ∷ []); free = []; has_inner = false; parent = None; body = 23 } ∷
      record { name = (codes "__init__"); parameters = ((record { text = (codes "self"); line = 11 }) ∷ []); locals = ((codes "self") ∷ []); free = []; has_inner = false; parent = None; body = 29 } ∷
      [];
  handler_names = ((codes "e") ∷ []);
  is_expression = false;
}
