-- The tree of a script, printed by `tree_printer operators`.
use Rattle.std.specs.Prelude.{[], ◌∷◌, codes, pos, Some, None, true, false}
use Rattle.py_ast.specs.declared.program.Program.{Program}
use Rattle.py_ast.specs.declared.builtin.Builtin.TheVariants as builtin
use Rattle.py_ast.specs.declared.expression.Comparison.TheVariants as comparison
use Rattle.py_ast.specs.declared.expression.Expression.TheVariants as expression
use Rattle.py_ast.specs.declared.node.Node.TheVariants as node
use Rattle.py_ast.specs.declared.statement.Statement.TheVariants as statement
use Rattle.py_ast.specs.declared.target.Target.TheVariants as target
use Rattle.rp_base.specs.declared.operators.BinaryOp.TheVariants as op
use Rattle.rp_base.specs.declared.operators.CmpOp.TheVariants as cmp
use Rattle.rp_base.specs.declared.operators.UnaryOp.TheVariants as unary
use Rattle.rp_base.specs.declared.plain.Plain.TheVariants as plain

-- print("a  b".split() == ["a", "b"], "a,b,".split(",") == ["a", "b", ""])
-- print(-7 // 2, -7 % 3, 7 // -2, 2 ** 10, (1,), ())
-- print("a-b".replace("-", "+"), ",".join(["a", "b"]))
-- x = [1]
-- y = x
-- x += (2, 3)
-- print(y, x * 2, x + [4], 1 in x, 5 not in x)
-- d = {1: 5, True: 6, 2: [x]}
-- print(d, d[1], 2 in d, "k" in d)
-- def f(a, b):
--     print(a)
--     return b
-- print(f(1, 0) or f(2, 3), f(3, 0) and f(4, 5), not f(5, 1))
-- print(f(6, 1) < f(7, 3) < f(8, 2) < f(9, 9), f(10, 1) if f(11, 0) else f(12, 2))
-- g = lambda n: n + 1
-- print(g(2), (lambda: (x, 1))())
abbrev pub operators : Program
operators = record {
  nodes =
      node.Expression (expression.Builtin builtin.Print) ∷
      node.Expression (expression.Constant (plain.Text (codes "a  b"))) ∷
      node.Expression (expression.Attribute 1 (codes "split")) ∷
      node.Expression (expression.Call 2 []) ∷
      node.Expression (expression.Constant (plain.Text (codes "a"))) ∷
      node.Expression (expression.Constant (plain.Text (codes "b"))) ∷
      node.Expression (expression.List (4 ∷ 5 ∷ [])) ∷
      node.Expression (expression.Compare 3 (record { comparison = comparison.Order cmp.Eq; line = 1; right = 6 } ∷ [])) ∷
      node.Expression (expression.Constant (plain.Text (codes "a,b,"))) ∷
      node.Expression (expression.Attribute 8 (codes "split")) ∷
      node.Expression (expression.Constant (plain.Text (codes ","))) ∷
      node.Expression (expression.Call 9 (10 ∷ [])) ∷
      node.Expression (expression.Constant (plain.Text (codes "a"))) ∷
      node.Expression (expression.Constant (plain.Text (codes "b"))) ∷
      node.Expression (expression.Constant (plain.Text [])) ∷
      node.Expression (expression.List (12 ∷ 13 ∷ 14 ∷ [])) ∷
      node.Expression (expression.Compare 11 (record { comparison = comparison.Order cmp.Eq; line = 1; right = 15 } ∷ [])) ∷
      node.Expression (expression.Call 0 (7 ∷ 16 ∷ [])) ∷
      node.Statement (statement.Alone 17) ∷
      node.Expression (expression.Builtin builtin.Print) ∷
      node.Expression (expression.Constant (plain.Int (pos 7))) ∷
      node.Expression (expression.Unary unary.Neg 20) ∷
      node.Expression (expression.Constant (plain.Int (pos 2))) ∷
      node.Expression (expression.Binary op.FloorDiv 21 22) ∷
      node.Expression (expression.Constant (plain.Int (pos 7))) ∷
      node.Expression (expression.Unary unary.Neg 24) ∷
      node.Expression (expression.Constant (plain.Int (pos 3))) ∷
      node.Expression (expression.Binary op.Mod 25 26) ∷
      node.Expression (expression.Constant (plain.Int (pos 7))) ∷
      node.Expression (expression.Constant (plain.Int (pos 2))) ∷
      node.Expression (expression.Unary unary.Neg 29) ∷
      node.Expression (expression.Binary op.FloorDiv 28 30) ∷
      node.Expression (expression.Constant (plain.Int (pos 2))) ∷
      node.Expression (expression.Constant (plain.Int (pos 10))) ∷
      node.Expression (expression.Binary op.Pow 32 33) ∷
      node.Expression (expression.Constant (plain.Int (pos 1))) ∷
      node.Expression (expression.Tuple (35 ∷ [])) ∷
      node.Expression (expression.Tuple []) ∷
      node.Expression (expression.Call 19 (23 ∷ 27 ∷ 31 ∷ 34 ∷ 36 ∷ 37 ∷ [])) ∷
      node.Statement (statement.Alone 38) ∷
      node.Expression (expression.Builtin builtin.Print) ∷
      node.Expression (expression.Constant (plain.Text (codes "a-b"))) ∷
      node.Expression (expression.Attribute 41 (codes "replace")) ∷
      node.Expression (expression.Constant (plain.Text (codes "-"))) ∷
      node.Expression (expression.Constant (plain.Text (codes "+"))) ∷
      node.Expression (expression.Call 42 (43 ∷ 44 ∷ [])) ∷
      node.Expression (expression.Constant (plain.Text (codes ","))) ∷
      node.Expression (expression.Attribute 46 (codes "join")) ∷
      node.Expression (expression.Constant (plain.Text (codes "a"))) ∷
      node.Expression (expression.Constant (plain.Text (codes "b"))) ∷
      node.Expression (expression.List (48 ∷ 49 ∷ [])) ∷
      node.Expression (expression.Call 47 (50 ∷ [])) ∷
      node.Expression (expression.Call 40 (45 ∷ 51 ∷ [])) ∷
      node.Statement (statement.Alone 52) ∷
      node.Target (target.Name (codes "x")) ∷
      node.Expression (expression.Constant (plain.Int (pos 1))) ∷
      node.Expression (expression.List (55 ∷ [])) ∷
      node.Statement (statement.Assign 54 56) ∷
      node.Target (target.Name (codes "y")) ∷
      node.Expression (expression.Name (codes "x")) ∷
      node.Statement (statement.Assign 58 59) ∷
      node.Target (target.Name (codes "x")) ∷
      node.Expression (expression.Constant (plain.Int (pos 2))) ∷
      node.Expression (expression.Constant (plain.Int (pos 3))) ∷
      node.Expression (expression.Tuple (62 ∷ 63 ∷ [])) ∷
      node.Statement (statement.Augmented 61 op.Add 64) ∷
      node.Expression (expression.Builtin builtin.Print) ∷
      node.Expression (expression.Name (codes "y")) ∷
      node.Expression (expression.Name (codes "x")) ∷
      node.Expression (expression.Constant (plain.Int (pos 2))) ∷
      node.Expression (expression.Binary op.Mul 68 69) ∷
      node.Expression (expression.Name (codes "x")) ∷
      node.Expression (expression.Constant (plain.Int (pos 4))) ∷
      node.Expression (expression.List (72 ∷ [])) ∷
      node.Expression (expression.Binary op.Add 71 73) ∷
      node.Expression (expression.Constant (plain.Int (pos 1))) ∷
      node.Expression (expression.Name (codes "x")) ∷
      node.Expression (expression.Compare 75 (record { comparison = comparison.In; line = 7; right = 76 } ∷ [])) ∷
      node.Expression (expression.Constant (plain.Int (pos 5))) ∷
      node.Expression (expression.Name (codes "x")) ∷
      node.Expression (expression.Compare 78 (record { comparison = comparison.NotIn; line = 7; right = 79 } ∷ [])) ∷
      node.Expression (expression.Call 66 (67 ∷ 70 ∷ 74 ∷ 77 ∷ 80 ∷ [])) ∷
      node.Statement (statement.Alone 81) ∷
      node.Target (target.Name (codes "d")) ∷
      node.Expression (expression.Constant (plain.Int (pos 1))) ∷
      node.Expression (expression.Constant (plain.Int (pos 5))) ∷
      node.Expression (expression.Constant (plain.Bool true)) ∷
      node.Expression (expression.Constant (plain.Int (pos 6))) ∷
      node.Expression (expression.Constant (plain.Int (pos 2))) ∷
      node.Expression (expression.Name (codes "x")) ∷
      node.Expression (expression.List (89 ∷ [])) ∷
      node.Expression (expression.Dict (84 ∷ 85 ∷ 86 ∷ 87 ∷ 88 ∷ 90 ∷ [])) ∷
      node.Statement (statement.Assign 83 91) ∷
      node.Expression (expression.Builtin builtin.Print) ∷
      node.Expression (expression.Name (codes "d")) ∷
      node.Expression (expression.Name (codes "d")) ∷
      node.Expression (expression.Constant (plain.Int (pos 1))) ∷
      node.Expression (expression.Item 95 96) ∷
      node.Expression (expression.Constant (plain.Int (pos 2))) ∷
      node.Expression (expression.Name (codes "d")) ∷
      node.Expression (expression.Compare 98 (record { comparison = comparison.In; line = 9; right = 99 } ∷ [])) ∷
      node.Expression (expression.Constant (plain.Text (codes "k"))) ∷
      node.Expression (expression.Name (codes "d")) ∷
      node.Expression (expression.Compare 101 (record { comparison = comparison.In; line = 9; right = 102 } ∷ [])) ∷
      node.Expression (expression.Call 93 (94 ∷ 97 ∷ 100 ∷ 103 ∷ [])) ∷
      node.Statement (statement.Alone 104) ∷
      node.Expression (expression.Builtin builtin.Print) ∷
      node.Expression (expression.Name (codes "a")) ∷
      node.Expression (expression.Call 106 (107 ∷ [])) ∷
      node.Statement (statement.Alone 108) ∷
      node.Expression (expression.Name (codes "b")) ∷
      node.Statement (statement.Return (Some 110)) ∷
      node.Statement (statement.Suite (109 ∷ 111 ∷ [])) ∷
      node.Statement (statement.Def 0) ∷
      node.Expression (expression.Builtin builtin.Print) ∷
      node.Expression (expression.Name (codes "f")) ∷
      node.Expression (expression.Constant (plain.Int (pos 1))) ∷
      node.Expression (expression.Constant (plain.Int (pos 0))) ∷
      node.Expression (expression.Call 115 (116 ∷ 117 ∷ [])) ∷
      node.Expression (expression.Name (codes "f")) ∷
      node.Expression (expression.Constant (plain.Int (pos 2))) ∷
      node.Expression (expression.Constant (plain.Int (pos 3))) ∷
      node.Expression (expression.Call 119 (120 ∷ 121 ∷ [])) ∷
      node.Expression (expression.Or (118 ∷ 122 ∷ [])) ∷
      node.Expression (expression.Name (codes "f")) ∷
      node.Expression (expression.Constant (plain.Int (pos 3))) ∷
      node.Expression (expression.Constant (plain.Int (pos 0))) ∷
      node.Expression (expression.Call 124 (125 ∷ 126 ∷ [])) ∷
      node.Expression (expression.Name (codes "f")) ∷
      node.Expression (expression.Constant (plain.Int (pos 4))) ∷
      node.Expression (expression.Constant (plain.Int (pos 5))) ∷
      node.Expression (expression.Call 128 (129 ∷ 130 ∷ [])) ∷
      node.Expression (expression.And (127 ∷ 131 ∷ [])) ∷
      node.Expression (expression.Name (codes "f")) ∷
      node.Expression (expression.Constant (plain.Int (pos 5))) ∷
      node.Expression (expression.Constant (plain.Int (pos 1))) ∷
      node.Expression (expression.Call 133 (134 ∷ 135 ∷ [])) ∷
      node.Expression (expression.Not 136) ∷
      node.Expression (expression.Call 114 (123 ∷ 132 ∷ 137 ∷ [])) ∷
      node.Statement (statement.Alone 138) ∷
      node.Expression (expression.Builtin builtin.Print) ∷
      node.Expression (expression.Name (codes "f")) ∷
      node.Expression (expression.Constant (plain.Int (pos 6))) ∷
      node.Expression (expression.Constant (plain.Int (pos 1))) ∷
      node.Expression (expression.Call 141 (142 ∷ 143 ∷ [])) ∷
      node.Expression (expression.Name (codes "f")) ∷
      node.Expression (expression.Constant (plain.Int (pos 7))) ∷
      node.Expression (expression.Constant (plain.Int (pos 3))) ∷
      node.Expression (expression.Call 145 (146 ∷ 147 ∷ [])) ∷
      node.Expression (expression.Name (codes "f")) ∷
      node.Expression (expression.Constant (plain.Int (pos 8))) ∷
      node.Expression (expression.Constant (plain.Int (pos 2))) ∷
      node.Expression (expression.Call 149 (150 ∷ 151 ∷ [])) ∷
      node.Expression (expression.Name (codes "f")) ∷
      node.Expression (expression.Constant (plain.Int (pos 9))) ∷
      node.Expression (expression.Constant (plain.Int (pos 9))) ∷
      node.Expression (expression.Call 153 (154 ∷ 155 ∷ [])) ∷
      node.Expression (expression.Compare 144 (record { comparison = comparison.Order cmp.Lt; line = 14; right = 148 } ∷ record { comparison = comparison.Order cmp.Lt; line = 14; right = 152 } ∷ record { comparison = comparison.Order cmp.Lt; line = 14; right = 156 } ∷ [])) ∷
      node.Expression (expression.Name (codes "f")) ∷
      node.Expression (expression.Constant (plain.Int (pos 10))) ∷
      node.Expression (expression.Constant (plain.Int (pos 1))) ∷
      node.Expression (expression.Call 158 (159 ∷ 160 ∷ [])) ∷
      node.Expression (expression.Name (codes "f")) ∷
      node.Expression (expression.Constant (plain.Int (pos 11))) ∷
      node.Expression (expression.Constant (plain.Int (pos 0))) ∷
      node.Expression (expression.Call 162 (163 ∷ 164 ∷ [])) ∷
      node.Expression (expression.Name (codes "f")) ∷
      node.Expression (expression.Constant (plain.Int (pos 12))) ∷
      node.Expression (expression.Constant (plain.Int (pos 2))) ∷
      node.Expression (expression.Call 166 (167 ∷ 168 ∷ [])) ∷
      node.Expression (expression.Conditional 161 165 169) ∷
      node.Expression (expression.Call 140 (157 ∷ 170 ∷ [])) ∷
      node.Statement (statement.Alone 171) ∷
      node.Target (target.Name (codes "g")) ∷
      node.Expression (expression.Name (codes "n")) ∷
      node.Expression (expression.Constant (plain.Int (pos 1))) ∷
      node.Expression (expression.Binary op.Add 174 175) ∷
      node.Expression (expression.Lambda 1) ∷
      node.Statement (statement.Assign 173 177) ∷
      node.Expression (expression.Builtin builtin.Print) ∷
      node.Expression (expression.Name (codes "g")) ∷
      node.Expression (expression.Constant (plain.Int (pos 2))) ∷
      node.Expression (expression.Call 180 (181 ∷ [])) ∷
      node.Expression (expression.Name (codes "x")) ∷
      node.Expression (expression.Constant (plain.Int (pos 1))) ∷
      node.Expression (expression.Tuple (183 ∷ 184 ∷ [])) ∷
      node.Expression (expression.Lambda 2) ∷
      node.Expression (expression.Call 186 []) ∷
      node.Expression (expression.Call 179 (182 ∷ 187 ∷ [])) ∷
      node.Statement (statement.Alone 188) ∷
      node.Statement (statement.Suite (18 ∷ 39 ∷ 53 ∷ 57 ∷ 60 ∷ 65 ∷ 82 ∷ 92 ∷ 105 ∷ 113 ∷ 139 ∷ 172 ∷ 178 ∷ 189 ∷ [])) ∷
      [];
  lines = (1 ∷ 1 ∷ 1 ∷ 1 ∷ 1 ∷ 1 ∷ 1 ∷ 1 ∷ 1 ∷ 1 ∷ 1 ∷ 1 ∷ 1 ∷ 1 ∷ 1 ∷ 1 ∷ 1 ∷ 1 ∷ 1 ∷ 2 ∷ 2 ∷ 2 ∷ 2 ∷ 2 ∷ 2 ∷ 2 ∷ 2 ∷ 2 ∷ 2 ∷ 2 ∷ 2 ∷ 2 ∷ 2 ∷ 2 ∷ 2 ∷ 2 ∷ 2 ∷ 2 ∷ 2 ∷ 2 ∷ 3 ∷ 3 ∷ 3 ∷ 3 ∷ 3 ∷ 3 ∷ 3 ∷ 3 ∷ 3 ∷ 3 ∷ 3 ∷ 3 ∷ 3 ∷ 3 ∷ 4 ∷ 4 ∷ 4 ∷ 4 ∷ 5 ∷ 5 ∷ 5 ∷ 6 ∷ 6 ∷ 6 ∷ 6 ∷ 6 ∷ 7 ∷ 7 ∷ 7 ∷ 7 ∷ 7 ∷ 7 ∷ 7 ∷ 7 ∷ 7 ∷ 7 ∷ 7 ∷ 7 ∷ 7 ∷ 7 ∷ 7 ∷ 7 ∷ 7 ∷ 8 ∷ 8 ∷ 8 ∷ 8 ∷ 8 ∷ 8 ∷ 8 ∷ 8 ∷ 8 ∷ 8 ∷ 9 ∷ 9 ∷ 9 ∷ 9 ∷ 9 ∷ 9 ∷ 9 ∷ 9 ∷ 9 ∷ 9 ∷ 9 ∷ 9 ∷ 9 ∷ 11 ∷ 11 ∷ 11 ∷ 11 ∷ 12 ∷ 12 ∷ 10 ∷ 10 ∷ 13 ∷ 13 ∷ 13 ∷ 13 ∷ 13 ∷ 13 ∷ 13 ∷ 13 ∷ 13 ∷ 13 ∷ 13 ∷ 13 ∷ 13 ∷ 13 ∷ 13 ∷ 13 ∷ 13 ∷ 13 ∷ 13 ∷ 13 ∷ 13 ∷ 13 ∷ 13 ∷ 13 ∷ 13 ∷ 13 ∷ 14 ∷ 14 ∷ 14 ∷ 14 ∷ 14 ∷ 14 ∷ 14 ∷ 14 ∷ 14 ∷ 14 ∷ 14 ∷ 14 ∷ 14 ∷ 14 ∷ 14 ∷ 14 ∷ 14 ∷ 14 ∷ 14 ∷ 14 ∷ 14 ∷ 14 ∷ 14 ∷ 14 ∷ 14 ∷ 14 ∷ 14 ∷ 14 ∷ 14 ∷ 14 ∷ 14 ∷ 14 ∷ 14 ∷ 15 ∷ 15 ∷ 15 ∷ 15 ∷ 15 ∷ 15 ∷ 16 ∷ 16 ∷ 16 ∷ 16 ∷ 16 ∷ 16 ∷ 16 ∷ 16 ∷ 16 ∷ 16 ∷ 16 ∷ 1 ∷ []);
  root = 190;
  functions =
      record { name = (codes "f"); parameters = ((record { text = (codes "a"); line = 10 }) ∷ (record { text = (codes "b"); line = 10 }) ∷ []); locals = ((codes "a") ∷ (codes "b") ∷ []); free = []; has_inner = false; parent = None; body = 112 } ∷
      record { name = (codes "<lambda>"); parameters = ((record { text = (codes "n"); line = 15 }) ∷ []); locals = ((codes "n") ∷ []); free = []; has_inner = false; parent = None; body = 176 } ∷
      record { name = (codes "<lambda>"); parameters = []; locals = []; free = []; has_inner = false; parent = None; body = 185 } ∷
      [];
  handler_names = [];
  is_expression = false;
}
