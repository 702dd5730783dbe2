-- The tree of a script, printed by `tree_printer refused`.
use Rattle.std.specs.Prelude.{[], ◌∷◌, codes, pos, Some, None, false}
use Rattle.py_ast.specs.declared.program.Program.{Program}
use Rattle.py_ast.specs.declared.builtin.Builtin.TheVariants as builtin
use Rattle.py_ast.specs.declared.expression.Comparison.TheVariants as comparison
use Rattle.py_ast.specs.declared.expression.Expression.TheVariants as expression
use Rattle.py_ast.specs.declared.node.Node.TheVariants as node
use Rattle.py_ast.specs.declared.statement.Statement.TheVariants as statement
use Rattle.py_ast.specs.declared.target.Target.TheVariants as target
use Rattle.rp_base.specs.declared.operators.BinaryOp.TheVariants as op
use Rattle.rp_base.specs.declared.operators.CmpOp.TheVariants as cmp
use Rattle.rp_base.specs.declared.operators.UnaryOp.TheVariants as unary
use Rattle.rp_base.specs.declared.plain.Plain.TheVariants as plain

-- def tell(f):
--     try:
--         f()
--     except TypeError as e:
--         print(str(e))
-- x = [1]
-- d = {}
-- tell(lambda: x * "a")
-- tell(lambda: "a" * x)
-- tell(lambda: x ** 2)
-- tell(lambda: d | x)
-- tell(lambda: 1 - d)
-- tell(lambda: -x)
-- tell(lambda: ~x)
-- tell(lambda: x + (1,))
-- tell(lambda: (x,) + x)
-- tell(lambda: (x,) - (x,))
-- tell(lambda: 1 < x)
-- tell(lambda: 1 & d.keys())
-- tell(lambda: "".join(5))
-- tell(lambda: ",".join((1, 2)))
-- try:
--     "a".split("")
-- except ValueError as e:
--     print(str(e))
-- x *= 2
abbrev pub refused : Program
refused = record {
  nodes =
      node.Expression (expression.Name (codes "f")) ∷
      node.Expression (expression.Call 0 []) ∷
      node.Statement (statement.Alone 1) ∷
      node.Statement (statement.Suite (2 ∷ [])) ∷
      node.Expression (expression.Builtin builtin.Print) ∷
      node.Expression (expression.Builtin builtin.Str) ∷
      node.Expression (expression.Name (codes "e")) ∷
      node.Expression (expression.Call 5 (6 ∷ [])) ∷
      node.Expression (expression.Call 4 (7 ∷ [])) ∷
      node.Statement (statement.Alone 8) ∷
      node.Statement (statement.Suite (9 ∷ [])) ∷
      node.Statement (statement.Except ((record { text = (codes "TypeError"); line = 4 }) ∷ []) (Some (record { text = (codes "e"); line = 4 })) 10) ∷
      node.Statement (statement.Try 3 (11 ∷ []) None) ∷
      node.Statement (statement.Suite (12 ∷ [])) ∷
      node.Statement (statement.Def 0) ∷
      node.Target (target.Name (codes "x")) ∷
      node.Expression (expression.Constant (plain.Int (pos 1))) ∷
      node.Expression (expression.List (16 ∷ [])) ∷
      node.Statement (statement.Assign 15 17) ∷
      node.Target (target.Name (codes "d")) ∷
      node.Expression (expression.Dict []) ∷
      node.Statement (statement.Assign 19 20) ∷
      node.Expression (expression.Name (codes "tell")) ∷
      node.Expression (expression.Name (codes "x")) ∷
      node.Expression (expression.Constant (plain.Text (codes "a"))) ∷
      node.Expression (expression.Binary op.Mul 23 24) ∷
      node.Expression (expression.Lambda 1) ∷
      node.Expression (expression.Call 22 (26 ∷ [])) ∷
      node.Statement (statement.Alone 27) ∷
      node.Expression (expression.Name (codes "tell")) ∷
      node.Expression (expression.Constant (plain.Text (codes "a"))) ∷
      node.Expression (expression.Name (codes "x")) ∷
      node.Expression (expression.Binary op.Mul 30 31) ∷
      node.Expression (expression.Lambda 2) ∷
      node.Expression (expression.Call 29 (33 ∷ [])) ∷
      node.Statement (statement.Alone 34) ∷
      node.Expression (expression.Name (codes "tell")) ∷
      node.Expression (expression.Name (codes "x")) ∷
      node.Expression (expression.Constant (plain.Int (pos 2))) ∷
      node.Expression (expression.Binary op.Pow 37 38) ∷
      node.Expression (expression.Lambda 3) ∷
      node.Expression (expression.Call 36 (40 ∷ [])) ∷
      node.Statement (statement.Alone 41) ∷
      node.Expression (expression.Name (codes "tell")) ∷
      node.Expression (expression.Name (codes "d")) ∷
      node.Expression (expression.Name (codes "x")) ∷
      node.Expression (expression.Binary op.Or 44 45) ∷
      node.Expression (expression.Lambda 4) ∷
      node.Expression (expression.Call 43 (47 ∷ [])) ∷
      node.Statement (statement.Alone 48) ∷
      node.Expression (expression.Name (codes "tell")) ∷
      node.Expression (expression.Constant (plain.Int (pos 1))) ∷
      node.Expression (expression.Name (codes "d")) ∷
      node.Expression (expression.Binary op.Sub 51 52) ∷
      node.Expression (expression.Lambda 5) ∷
      node.Expression (expression.Call 50 (54 ∷ [])) ∷
      node.Statement (statement.Alone 55) ∷
      node.Expression (expression.Name (codes "tell")) ∷
      node.Expression (expression.Name (codes "x")) ∷
      node.Expression (expression.Unary unary.Neg 58) ∷
      node.Expression (expression.Lambda 6) ∷
      node.Expression (expression.Call 57 (60 ∷ [])) ∷
      node.Statement (statement.Alone 61) ∷
      node.Expression (expression.Name (codes "tell")) ∷
      node.Expression (expression.Name (codes "x")) ∷
      node.Expression (expression.Unary unary.Invert 64) ∷
      node.Expression (expression.Lambda 7) ∷
      node.Expression (expression.Call 63 (66 ∷ [])) ∷
      node.Statement (statement.Alone 67) ∷
      node.Expression (expression.Name (codes "tell")) ∷
      node.Expression (expression.Name (codes "x")) ∷
      node.Expression (expression.Constant (plain.Int (pos 1))) ∷
      node.Expression (expression.Tuple (71 ∷ [])) ∷
      node.Expression (expression.Binary op.Add 70 72) ∷
      node.Expression (expression.Lambda 8) ∷
      node.Expression (expression.Call 69 (74 ∷ [])) ∷
      node.Statement (statement.Alone 75) ∷
      node.Expression (expression.Name (codes "tell")) ∷
      node.Expression (expression.Name (codes "x")) ∷
      node.Expression (expression.Tuple (78 ∷ [])) ∷
      node.Expression (expression.Name (codes "x")) ∷
      node.Expression (expression.Binary op.Add 79 80) ∷
      node.Expression (expression.Lambda 9) ∷
      node.Expression (expression.Call 77 (82 ∷ [])) ∷
      node.Statement (statement.Alone 83) ∷
      node.Expression (expression.Name (codes "tell")) ∷
      node.Expression (expression.Name (codes "x")) ∷
      node.Expression (expression.Tuple (86 ∷ [])) ∷
      node.Expression (expression.Name (codes "x")) ∷
      node.Expression (expression.Tuple (88 ∷ [])) ∷
      node.Expression (expression.Binary op.Sub 87 89) ∷
      node.Expression (expression.Lambda 10) ∷
      node.Expression (expression.Call 85 (91 ∷ [])) ∷
      node.Statement (statement.Alone 92) ∷
      node.Expression (expression.Name (codes "tell")) ∷
      node.Expression (expression.Constant (plain.Int (pos 1))) ∷
      node.Expression (expression.Name (codes "x")) ∷
      node.Expression (expression.Compare 95 (record { comparison = comparison.Order cmp.Lt; line = 18; right = 96 } ∷ [])) ∷
      node.Expression (expression.Lambda 11) ∷
      node.Expression (expression.Call 94 (98 ∷ [])) ∷
      node.Statement (statement.Alone 99) ∷
      node.Expression (expression.Name (codes "tell")) ∷
      node.Expression (expression.Constant (plain.Int (pos 1))) ∷
      node.Expression (expression.Name (codes "d")) ∷
      node.Expression (expression.Attribute 103 (codes "keys")) ∷
      node.Expression (expression.Call 104 []) ∷
      node.Expression (expression.Binary op.And 102 105) ∷
      node.Expression (expression.Lambda 12) ∷
      node.Expression (expression.Call 101 (107 ∷ [])) ∷
      node.Statement (statement.Alone 108) ∷
      node.Expression (expression.Name (codes "tell")) ∷
      node.Expression (expression.Constant (plain.Text [])) ∷
      node.Expression (expression.Attribute 111 (codes "join")) ∷
      node.Expression (expression.Constant (plain.Int (pos 5))) ∷
      node.Expression (expression.Call 112 (113 ∷ [])) ∷
      node.Expression (expression.Lambda 13) ∷
      node.Expression (expression.Call 110 (115 ∷ [])) ∷
      node.Statement (statement.Alone 116) ∷
      node.Expression (expression.Name (codes "tell")) ∷
      node.Expression (expression.Constant (plain.Text (codes ","))) ∷
      node.Expression (expression.Attribute 119 (codes "join")) ∷
      node.Expression (expression.Constant (plain.Int (pos 1))) ∷
      node.Expression (expression.Constant (plain.Int (pos 2))) ∷
      node.Expression (expression.Tuple (121 ∷ 122 ∷ [])) ∷
      node.Expression (expression.Call 120 (123 ∷ [])) ∷
      node.Expression (expression.Lambda 14) ∷
      node.Expression (expression.Call 118 (125 ∷ [])) ∷
      node.Statement (statement.Alone 126) ∷
      node.Expression (expression.Constant (plain.Text (codes "a"))) ∷
      node.Expression (expression.Attribute 128 (codes "split")) ∷
      node.Expression (expression.Constant (plain.Text [])) ∷
      node.Expression (expression.Call 129 (130 ∷ [])) ∷
      node.Statement (statement.Alone 131) ∷
      node.Statement (statement.Suite (132 ∷ [])) ∷
      node.Expression (expression.Builtin builtin.Print) ∷
      node.Expression (expression.Builtin builtin.Str) ∷
      node.Expression (expression.Name (codes "e")) ∷
      node.Expression (expression.Call 135 (136 ∷ [])) ∷
      node.Expression (expression.Call 134 (137 ∷ [])) ∷
      node.Statement (statement.Alone 138) ∷
      node.Statement (statement.Suite (139 ∷ [])) ∷
      node.Statement (statement.Except ((record { text = (codes "ValueError"); line = 24 }) ∷ []) (Some (record { text = (codes "e"); line = 24 })) 140) ∷
      node.Statement (statement.Try 133 (141 ∷ []) None) ∷
      node.Target (target.Name (codes "x")) ∷
      node.Expression (expression.Constant (plain.Int (pos 2))) ∷
      node.Statement (statement.Augmented 143 op.Mul 144) ∷
      node.Statement (statement.Suite (14 ∷ 18 ∷ 21 ∷ 28 ∷ 35 ∷ 42 ∷ 49 ∷ 56 ∷ 62 ∷ 68 ∷ 76 ∷ 84 ∷ 93 ∷ 100 ∷ 109 ∷ 117 ∷ 127 ∷ 142 ∷ 145 ∷ [])) ∷
      [];
  lines = (3 ∷ 3 ∷ 3 ∷ 2 ∷ 5 ∷ 5 ∷ 5 ∷ 5 ∷ 5 ∷ 5 ∷ 4 ∷ 4 ∷ 2 ∷ 1 ∷ 1 ∷ 6 ∷ 6 ∷ 6 ∷ 6 ∷ 7 ∷ 7 ∷ 7 ∷ 8 ∷ 8 ∷ 8 ∷ 8 ∷ 8 ∷ 8 ∷ 8 ∷ 9 ∷ 9 ∷ 9 ∷ 9 ∷ 9 ∷ 9 ∷ 9 ∷ 10 ∷ 10 ∷ 10 ∷ 10 ∷ 10 ∷ 10 ∷ 10 ∷ 11 ∷ 11 ∷ 11 ∷ 11 ∷ 11 ∷ 11 ∷ 11 ∷ 12 ∷ 12 ∷ 12 ∷ 12 ∷ 12 ∷ 12 ∷ 12 ∷ 13 ∷ 13 ∷ 13 ∷ 13 ∷ 13 ∷ 13 ∷ 14 ∷ 14 ∷ 14 ∷ 14 ∷ 14 ∷ 14 ∷ 15 ∷ 15 ∷ 15 ∷ 15 ∷ 15 ∷ 15 ∷ 15 ∷ 15 ∷ 16 ∷ 16 ∷ 16 ∷ 16 ∷ 16 ∷ 16 ∷ 16 ∷ 16 ∷ 17 ∷ 17 ∷ 17 ∷ 17 ∷ 17 ∷ 17 ∷ 17 ∷ 17 ∷ 17 ∷ 18 ∷ 18 ∷ 18 ∷ 18 ∷ 18 ∷ 18 ∷ 18 ∷ 19 ∷ 19 ∷ 19 ∷ 19 ∷ 19 ∷ 19 ∷ 19 ∷ 19 ∷ 19 ∷ 20 ∷ 20 ∷ 20 ∷ 20 ∷ 20 ∷ 20 ∷ 20 ∷ 20 ∷ 21 ∷ 21 ∷ 21 ∷ 21 ∷ 21 ∷ 21 ∷ 21 ∷ 21 ∷ 21 ∷ 21 ∷ 23 ∷ 23 ∷ 23 ∷ 23 ∷ 23 ∷ 22 ∷ 25 ∷ 25 ∷ 25 ∷ 25 ∷ 25 ∷ 25 ∷ 24 ∷ 24 ∷ 22 ∷ 26 ∷ 26 ∷ 26 ∷ 1 ∷ []);
  root = 146;
  functions =
      record { name = (codes "tell"); parameters = ((record { text = (codes "f"); line = 1 }) ∷ []); locals = ((codes "f") ∷ []); free = []; has_inner = false; parent = None; body = 13 } ∷
      record { name = (codes "<lambda>"); parameters = []; locals = []; free = []; has_inner = false; parent = None; body = 25 } ∷
      record { name = (codes "<lambda>"); parameters = []; locals = []; free = []; has_inner = false; parent = None; body = 32 } ∷
      record { name = (codes "<lambda>"); parameters = []; locals = []; free = []; has_inner = false; parent = None; body = 39 } ∷
      record { name = (codes "<lambda>"); parameters = []; locals = []; free = []; has_inner = false; parent = None; body = 46 } ∷
      record { name = (codes "<lambda>"); parameters = []; locals = []; free = []; has_inner = false; parent = None; body = 53 } ∷
      record { name = (codes "<lambda>"); parameters = []; locals = []; free = []; has_inner = false; parent = None; body = 59 } ∷
      record { name = (codes "<lambda>"); parameters = []; locals = []; free = []; has_inner = false; parent = None; body = 65 } ∷
      record { name = (codes "<lambda>"); parameters = []; locals = []; free = []; has_inner = false; parent = None; body = 73 } ∷
      record { name = (codes "<lambda>"); parameters = []; locals = []; free = []; has_inner = false; parent = None; body = 81 } ∷
      record { name = (codes "<lambda>"); parameters = []; locals = []; free = []; has_inner = false; parent = None; body = 90 } ∷
      record { name = (codes "<lambda>"); parameters = []; locals = []; free = []; has_inner = false; parent = None; body = 97 } ∷
      record { name = (codes "<lambda>"); parameters = []; locals = []; free = []; has_inner = false; parent = None; body = 106 } ∷
      record { name = (codes "<lambda>"); parameters = []; locals = []; free = []; has_inner = false; parent = None; body = 114 } ∷
      record { name = (codes "<lambda>"); parameters = []; locals = []; free = []; has_inner = false; parent = None; body = 124 } ∷
      [];
  handler_names = ((codes "e") ∷ []);
  is_expression = false;
}
