-- The tree of a script, printed by `tree_printer methods`.
use Rattle.std.specs.Prelude.{[], ◌∷◌, codes, pos, Some, None, true, false}
use Rattle.py_ast.specs.declared.program.Program.{Program}
use Rattle.py_ast.specs.declared.builtin.Builtin.TheVariants as builtin
use Rattle.py_ast.specs.declared.expression.Comparison.TheVariants as comparison
use Rattle.py_ast.specs.declared.expression.Expression.TheVariants as expression
use Rattle.py_ast.specs.declared.node.Node.TheVariants as node
use Rattle.py_ast.specs.declared.statement.Statement.TheVariants as statement
use Rattle.py_ast.specs.declared.target.Target.TheVariants as target
use Rattle.rp_base.specs.declared.operators.BinaryOp.TheVariants as op
use Rattle.rp_base.specs.declared.operators.CmpOp.TheVariants as cmp
use Rattle.rp_base.specs.declared.operators.UnaryOp.TheVariants as unary
use Rattle.rp_base.specs.declared.plain.Plain.TheVariants as plain

-- x = [1]
-- print("h\u00e9llo".find("l"), "abc".find("z"), " a ".strip(), "ab".startswith("a"), "ab".endswith("a"))
-- print("-".join("abc"), "|".join("aXbXc".split("X")), "aaa".replace("aa", "b"))
-- t = (x, 1)
-- print(t + (2,), t * 2, -3, +True, ~5, x is None, None is not None)
-- class P:
--     def __init__(self, n):
--         self.n = n
--     def __add__(self, o):
--         return self.n + o
--     def __neg__(self):
--         return P(-self.n)
--     def __lt__(self, o):
--         return self.n < o.n
--     def __contains__(self, k):
--         return k == self.n
-- p = P(4)
-- p.n += 1
-- print(p + 2, (-p).n, p < P(6), p < P(2), 5 in p, 6 not in p)
-- def f(a, b):
--     print(a)
--     return b
-- try:
--     print(x[f(20, 9)])
-- except IndexError as e:
--     print(str(e), e.args == ("list index out of range",))
-- p += 3
-- print(p)
abbrev pub methods : Program
methods = record {
  nodes =
      node.Target (target.Name (codes "x")) ∷
      node.Expression (expression.Constant (plain.Int (pos 1))) ∷
      node.Expression (expression.List (1 ∷ [])) ∷
      node.Statement (statement.Assign 0 2) ∷
      node.Expression (expression.Builtin builtin.Print) ∷
      node.Expression (expression.Constant (plain.Text (104 ∷ 195 ∷ 169 ∷ 108 ∷ 108 ∷ 111 ∷ []))) ∷
      node.Expression (expression.Attribute 5 (codes "find")) ∷
      node.Expression (expression.Constant (plain.Text (codes "l"))) ∷
      node.Expression (expression.Call 6 (7 ∷ [])) ∷
      node.Expression (expression.Constant (plain.Text (codes "abc"))) ∷
      node.Expression (expression.Attribute 9 (codes "find")) ∷
      node.Expression (expression.Constant (plain.Text (codes "z"))) ∷
      node.Expression (expression.Call 10 (11 ∷ [])) ∷
      node.Expression (expression.Constant (plain.Text (codes " a "))) ∷
      node.Expression (expression.Attribute 13 (codes "strip")) ∷
      node.Expression (expression.Call 14 []) ∷
      node.Expression (expression.Constant (plain.Text (codes "ab"))) ∷
      node.Expression (expression.Attribute 16 (codes "startswith")) ∷
      node.Expression (expression.Constant (plain.Text (codes "a"))) ∷
      node.Expression (expression.Call 17 (18 ∷ [])) ∷
      node.Expression (expression.Constant (plain.Text (codes "ab"))) ∷
      node.Expression (expression.Attribute 20 (codes "endswith")) ∷
      node.Expression (expression.Constant (plain.Text (codes "a"))) ∷
      node.Expression (expression.Call 21 (22 ∷ [])) ∷
      node.Expression (expression.Call 4 (8 ∷ 12 ∷ 15 ∷ 19 ∷ 23 ∷ [])) ∷
      node.Statement (statement.Alone 24) ∷
      node.Expression (expression.Builtin builtin.Print) ∷
      node.Expression (expression.Constant (plain.Text (codes "-"))) ∷
      node.Expression (expression.Attribute 27 (codes "join")) ∷
      node.Expression (expression.Constant (plain.Text (codes "abc"))) ∷
      node.Expression (expression.Call 28 (29 ∷ [])) ∷
      node.Expression (expression.Constant (plain.Text (codes "|"))) ∷
      node.Expression (expression.Attribute 31 (codes "join")) ∷
      node.Expression (expression.Constant (plain.Text (codes "aXbXc"))) ∷
      node.Expression (expression.Attribute 33 (codes "split")) ∷
      node.Expression (expression.Constant (plain.Text (codes "X"))) ∷
      node.Expression (expression.Call 34 (35 ∷ [])) ∷
      node.Expression (expression.Call 32 (36 ∷ [])) ∷
      node.Expression (expression.Constant (plain.Text (codes "aaa"))) ∷
      node.Expression (expression.Attribute 38 (codes "replace")) ∷
      node.Expression (expression.Constant (plain.Text (codes "aa"))) ∷
      node.Expression (expression.Constant (plain.Text (codes "b"))) ∷
      node.Expression (expression.Call 39 (40 ∷ 41 ∷ [])) ∷
      node.Expression (expression.Call 26 (30 ∷ 37 ∷ 42 ∷ [])) ∷
      node.Statement (statement.Alone 43) ∷
      node.Target (target.Name (codes "t")) ∷
      node.Expression (expression.Name (codes "x")) ∷
      node.Expression (expression.Constant (plain.Int (pos 1))) ∷
      node.Expression (expression.Tuple (46 ∷ 47 ∷ [])) ∷
      node.Statement (statement.Assign 45 48) ∷
      node.Expression (expression.Builtin builtin.Print) ∷
      node.Expression (expression.Name (codes "t")) ∷
      node.Expression (expression.Constant (plain.Int (pos 2))) ∷
      node.Expression (expression.Tuple (52 ∷ [])) ∷
      node.Expression (expression.Binary op.Add 51 53) ∷
      node.Expression (expression.Name (codes "t")) ∷
      node.Expression (expression.Constant (plain.Int (pos 2))) ∷
      node.Expression (expression.Binary op.Mul 55 56) ∷
      node.Expression (expression.Constant (plain.Int (pos 3))) ∷
      node.Expression (expression.Unary unary.Neg 58) ∷
      node.Expression (expression.Constant (plain.Bool true)) ∷
      node.Expression (expression.Unary unary.Pos 60) ∷
      node.Expression (expression.Constant (plain.Int (pos 5))) ∷
      node.Expression (expression.Unary unary.Invert 62) ∷
      node.Expression (expression.Name (codes "x")) ∷
      node.Expression (expression.Constant plain.None) ∷
      node.Expression (expression.Compare 64 (record { comparison = comparison.Is; line = 5; right = 65 } ∷ [])) ∷
      node.Expression (expression.Constant plain.None) ∷
      node.Expression (expression.Constant plain.None) ∷
      node.Expression (expression.Compare 67 (record { comparison = comparison.IsNot; line = 5; right = 68 } ∷ [])) ∷
      node.Expression (expression.Call 50 (54 ∷ 57 ∷ 59 ∷ 61 ∷ 63 ∷ 66 ∷ 69 ∷ [])) ∷
      node.Statement (statement.Alone 70) ∷
      node.Expression (expression.Name (codes "self")) ∷
      node.Target (target.Attribute 72 (codes "n")) ∷
      node.Expression (expression.Name (codes "n")) ∷
      node.Statement (statement.Assign 73 74) ∷
      node.Statement (statement.Suite (75 ∷ [])) ∷
      node.Statement (statement.Def 0) ∷
      node.Expression (expression.Name (codes "self")) ∷
      node.Expression (expression.Attribute 78 (codes "n")) ∷
      node.Expression (expression.Name (codes "o")) ∷
      node.Expression (expression.Binary op.Add 79 80) ∷
      node.Statement (statement.Return (Some 81)) ∷
      node.Statement (statement.Suite (82 ∷ [])) ∷
      node.Statement (statement.Def 1) ∷
      node.Expression (expression.Name (codes "P")) ∷
      node.Expression (expression.Name (codes "self")) ∷
      node.Expression (expression.Attribute 86 (codes "n")) ∷
      node.Expression (expression.Unary unary.Neg 87) ∷
      node.Expression (expression.Call 85 (88 ∷ [])) ∷
      node.Statement (statement.Return (Some 89)) ∷
      node.Statement (statement.Suite (90 ∷ [])) ∷
      node.Statement (statement.Def 2) ∷
      node.Expression (expression.Name (codes "self")) ∷
      node.Expression (expression.Attribute 93 (codes "n")) ∷
      node.Expression (expression.Name (codes "o")) ∷
      node.Expression (expression.Attribute 95 (codes "n")) ∷
      node.Expression (expression.Compare 94 (record { comparison = comparison.Order cmp.Lt; line = 14; right = 96 } ∷ [])) ∷
      node.Statement (statement.Return (Some 97)) ∷
      node.Statement (statement.Suite (98 ∷ [])) ∷
      node.Statement (statement.Def 3) ∷
      node.Expression (expression.Name (codes "k")) ∷
      node.Expression (expression.Name (codes "self")) ∷
      node.Expression (expression.Attribute 102 (codes "n")) ∷
      node.Expression (expression.Compare 101 (record { comparison = comparison.Order cmp.Eq; line = 16; right = 103 } ∷ [])) ∷
      node.Statement (statement.Return (Some 104)) ∷
      node.Statement (statement.Suite (105 ∷ [])) ∷
      node.Statement (statement.Def 4) ∷
      node.Statement (statement.Suite (77 ∷ 84 ∷ 92 ∷ 100 ∷ 107 ∷ [])) ∷
      node.Statement (statement.Class (record { text = (codes "P"); line = 6 }) None 108) ∷
      node.Target (target.Name (codes "p")) ∷
      node.Expression (expression.Name (codes "P")) ∷
      node.Expression (expression.Constant (plain.Int (pos 4))) ∷
      node.Expression (expression.Call 111 (112 ∷ [])) ∷
      node.Statement (statement.Assign 110 113) ∷
      node.Expression (expression.Name (codes "p")) ∷
      node.Target (target.Attribute 115 (codes "n")) ∷
      node.Expression (expression.Constant (plain.Int (pos 1))) ∷
      node.Statement (statement.Augmented 116 op.Add 117) ∷
      node.Expression (expression.Builtin builtin.Print) ∷
      node.Expression (expression.Name (codes "p")) ∷
      node.Expression (expression.Constant (plain.Int (pos 2))) ∷
      node.Expression (expression.Binary op.Add 120 121) ∷
      node.Expression (expression.Name (codes "p")) ∷
      node.Expression (expression.Unary unary.Neg 123) ∷
      node.Expression (expression.Attribute 124 (codes "n")) ∷
      node.Expression (expression.Name (codes "p")) ∷
      node.Expression (expression.Name (codes "P")) ∷
      node.Expression (expression.Constant (plain.Int (pos 6))) ∷
      node.Expression (expression.Call 127 (128 ∷ [])) ∷
      node.Expression (expression.Compare 126 (record { comparison = comparison.Order cmp.Lt; line = 19; right = 129 } ∷ [])) ∷
      node.Expression (expression.Name (codes "p")) ∷
      node.Expression (expression.Name (codes "P")) ∷
      node.Expression (expression.Constant (plain.Int (pos 2))) ∷
      node.Expression (expression.Call 132 (133 ∷ [])) ∷
      node.Expression (expression.Compare 131 (record { comparison = comparison.Order cmp.Lt; line = 19; right = 134 } ∷ [])) ∷
      node.Expression (expression.Constant (plain.Int (pos 5))) ∷
      node.Expression (expression.Name (codes "p")) ∷
      node.Expression (expression.Compare 136 (record { comparison = comparison.In; line = 19; right = 137 } ∷ [])) ∷
      node.Expression (expression.Constant (plain.Int (pos 6))) ∷
      node.Expression (expression.Name (codes "p")) ∷
      node.Expression (expression.Compare 139 (record { comparison = comparison.NotIn; line = 19; right = 140 } ∷ [])) ∷
      node.Expression (expression.Call 119 (122 ∷ 125 ∷ 130 ∷ 135 ∷ 138 ∷ 141 ∷ [])) ∷
      node.Statement (statement.Alone 142) ∷
      node.Expression (expression.Builtin builtin.Print) ∷
      node.Expression (expression.Name (codes "a")) ∷
      node.Expression (expression.Call 144 (145 ∷ [])) ∷
      node.Statement (statement.Alone 146) ∷
      node.Expression (expression.Name (codes "b")) ∷
      node.Statement (statement.Return (Some 148)) ∷
      node.Statement (statement.Suite (147 ∷ 149 ∷ [])) ∷
      node.Statement (statement.Def 5) ∷
      node.Expression (expression.Builtin builtin.Print) ∷
      node.Expression (expression.Name (codes "x")) ∷
      node.Expression (expression.Name (codes "f")) ∷
      node.Expression (expression.Constant (plain.Int (pos 20))) ∷
      node.Expression (expression.Constant (plain.Int (pos 9))) ∷
      node.Expression (expression.Call 154 (155 ∷ 156 ∷ [])) ∷
      node.Expression (expression.Item 153 157) ∷
      node.Expression (expression.Call 152 (158 ∷ [])) ∷
      node.Statement (statement.Alone 159) ∷
      node.Statement (statement.Suite (160 ∷ [])) ∷
      node.Expression (expression.Builtin builtin.Print) ∷
      node.Expression (expression.Builtin builtin.Str) ∷
      node.Expression (expression.Name (codes "e")) ∷
      node.Expression (expression.Call 163 (164 ∷ [])) ∷
      node.Expression (expression.Name (codes "e")) ∷
      node.Expression (expression.Attribute 166 (codes "args")) ∷
      node.Expression (expression.Constant (plain.Text (codes "list index out of range"))) ∷
      node.Expression (expression.Tuple (168 ∷ [])) ∷
      node.Expression (expression.Compare 167 (record { comparison = comparison.Order cmp.Eq; line = 26; right = 169 } ∷ [])) ∷
      node.Expression (expression.Call 162 (165 ∷ 170 ∷ [])) ∷
      node.Statement (statement.Alone 171) ∷
      node.Statement (statement.Suite (172 ∷ [])) ∷
      node.Statement (statement.Except ((record { text = (codes "IndexError"); line = 25 }) ∷ []) (Some (record { text = (codes "e"); line = 25 })) 173) ∷
      node.Statement (statement.Try 161 (174 ∷ []) None) ∷
      node.Target (target.Name (codes "p")) ∷
      node.Expression (expression.Constant (plain.Int (pos 3))) ∷
      node.Statement (statement.Augmented 176 op.Add 177) ∷
      node.Expression (expression.Builtin builtin.Print) ∷
      node.Expression (expression.Name (codes "p")) ∷
      node.Expression (expression.Call 179 (180 ∷ [])) ∷
      node.Statement (statement.Alone 181) ∷
      node.Statement (statement.Suite (3 ∷ 25 ∷ 44 ∷ 49 ∷ 71 ∷ 109 ∷ 114 ∷ 118 ∷ 143 ∷ 151 ∷ 175 ∷ 178 ∷ 182 ∷ [])) ∷
      [];
  lines = (1 ∷ 1 ∷ 1 ∷ 1 ∷ 2 ∷ 2 ∷ 2 ∷ 2 ∷ 2 ∷ 2 ∷ 2 ∷ 2 ∷ 2 ∷ 2 ∷ 2 ∷ 2 ∷ 2 ∷ 2 ∷ 2 ∷ 2 ∷ 2 ∷ 2 ∷ 2 ∷ 2 ∷ 2 ∷ 2 ∷ 3 ∷ 3 ∷ 3 ∷ 3 ∷ 3 ∷ 3 ∷ 3 ∷ 3 ∷ 3 ∷ 3 ∷ 3 ∷ 3 ∷ 3 ∷ 3 ∷ 3 ∷ 3 ∷ 3 ∷ 3 ∷ 3 ∷ 4 ∷ 4 ∷ 4 ∷ 4 ∷ 4 ∷ 5 ∷ 5 ∷ 5 ∷ 5 ∷ 5 ∷ 5 ∷ 5 ∷ 5 ∷ 5 ∷ 5 ∷ 5 ∷ 5 ∷ 5 ∷ 5 ∷ 5 ∷ 5 ∷ 5 ∷ 5 ∷ 5 ∷ 5 ∷ 5 ∷ 5 ∷ 8 ∷ 8 ∷ 8 ∷ 8 ∷ 7 ∷ 7 ∷ 10 ∷ 10 ∷ 10 ∷ 10 ∷ 10 ∷ 9 ∷ 9 ∷ 12 ∷ 12 ∷ 12 ∷ 12 ∷ 12 ∷ 12 ∷ 11 ∷ 11 ∷ 14 ∷ 14 ∷ 14 ∷ 14 ∷ 14 ∷ 14 ∷ 13 ∷ 13 ∷ 16 ∷ 16 ∷ 16 ∷ 16 ∷ 16 ∷ 15 ∷ 15 ∷ 6 ∷ 6 ∷ 17 ∷ 17 ∷ 17 ∷ 17 ∷ 17 ∷ 18 ∷ 18 ∷ 18 ∷ 18 ∷ 19 ∷ 19 ∷ 19 ∷ 19 ∷ 19 ∷ 19 ∷ 19 ∷ 19 ∷ 19 ∷ 19 ∷ 19 ∷ 19 ∷ 19 ∷ 19 ∷ 19 ∷ 19 ∷ 19 ∷ 19 ∷ 19 ∷ 19 ∷ 19 ∷ 19 ∷ 19 ∷ 19 ∷ 19 ∷ 21 ∷ 21 ∷ 21 ∷ 21 ∷ 22 ∷ 22 ∷ 20 ∷ 20 ∷ 24 ∷ 24 ∷ 24 ∷ 24 ∷ 24 ∷ 24 ∷ 24 ∷ 24 ∷ 24 ∷ 23 ∷ 26 ∷ 26 ∷ 26 ∷ 26 ∷ 26 ∷ 26 ∷ 26 ∷ 26 ∷ 26 ∷ 26 ∷ 26 ∷ 25 ∷ 25 ∷ 23 ∷ 27 ∷ 27 ∷ 27 ∷ 28 ∷ 28 ∷ 28 ∷ 28 ∷ 1 ∷ []);
  root = 183;
  functions =
      record { name = (codes "__init__"); parameters = ((record { text = (codes "self"); line = 7 }) ∷ (record { text = (codes "n"); line = 7 }) ∷ []); locals = ((codes "self") ∷ (codes "n") ∷ []); free = []; has_inner = false; parent = None; body = 76 } ∷
      record { name = (codes "__add__"); parameters = ((record { text = (codes "self"); line = 9 }) ∷ (record { text = (codes "o"); line = 9 }) ∷ []); locals = ((codes "self") ∷ (codes "o") ∷ []); free = []; has_inner = false; parent = None; body = 83 } ∷
      record { name = (codes "__neg__"); parameters = ((record { text = (codes "self"); line = 11 }) ∷ []); locals = ((codes "self") ∷ []); free = []; has_inner = false; parent = None; body = 91 } ∷
      record { name = (codes "__lt__"); parameters = ((record { text = (codes "self"); line = 13 }) ∷ (record { text = (codes "o"); line = 13 }) ∷ []); locals = ((codes "self") ∷ (codes "o") ∷ []); free = []; has_inner = false; parent = None; body = 99 } ∷
      record { name = (codes "__contains__"); parameters = ((record { text = (codes "self"); line = 15 }) ∷ (record { text = (codes "k"); line = 15 }) ∷ []); locals = ((codes "self") ∷ (codes "k") ∷ []); free = []; has_inner = false; parent = None; body = 106 } ∷
      record { name = (codes "f"); parameters = ((record { text = (codes "a"); line = 20 }) ∷ (record { text = (codes "b"); line = 20 }) ∷ []); locals = ((codes "a") ∷ (codes "b") ∷ []); free = []; has_inner = false; parent = None; body = 150 } ∷
      [];
  handler_names = ((codes "e") ∷ []);
  is_expression = false;
}
