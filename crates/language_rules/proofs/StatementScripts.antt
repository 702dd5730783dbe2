-- Scripts of the examples of statements, as trees.
use Rattle.std.specs.Prelude.{None, Some, [], codes, false, pos, true, ◌∷◌}
use Rattle.py_ast.specs.declared.builtin.Builtin.TheVariants as builtin
use Rattle.py_ast.specs.declared.expression.Comparison.TheVariants as comparison
use Rattle.py_ast.specs.declared.expression.Expression.TheVariants as expression
use Rattle.py_ast.specs.declared.node.Node.TheVariants as node
use Rattle.py_ast.specs.declared.program.Program.{Program}
use Rattle.py_ast.specs.declared.statement.Statement.TheVariants as statement
use Rattle.py_ast.specs.declared.target.Target.TheVariants as target
use Rattle.rp_base.specs.declared.operators.BinaryOp.TheVariants as op
use Rattle.rp_base.specs.declared.operators.CmpOp.TheVariants as cmp
use Rattle.rp_base.specs.declared.plain.Plain.TheVariants as plain

-- def outer():
--     def middle():
--         def inner():
--             return v
--         return inner
--     def early():
--         return v2
--     try:
--         early()
--     except NameError as e:
--         k = e.args
--     v = "deep"
--     v2 = k
--     return middle()()
-- r = outer()
-- l = (lambda a, b: b)("x", "y")
-- try:
--     outer("z")
-- except TypeError as e:
--     t = str(e)
-- def fin():
--     try:
--         raise IndexError
--     except IndexError:
--         try:
--             try:
--                 raise KeyError
--             finally:
--                 try:
--                     raise
--                 except KeyError:
--                     global seen
--                     seen = "pending"
--                 raise ValueError("new")
--         except ValueError as e:
--             return e.args
--     return "no"
-- f = fin()
-- def loopfin():
--     out = ""
--     while "x":
--         try:
--             out += "a"
--             last = out == "afa"
--             if last:
--                 break
--             continue
--         finally:
--             out += "f"
--     return out
-- o = loopfin()
-- def late():
--     now = unbound
--     unbound = 1
-- try:
--     late()
-- except UnboundLocalError as e:
--     w = str(e)
abbrev pub places : Program
places = record {
  nodes =
      node.Expression (expression.Name (codes "v")) ∷
      node.Statement (statement.Return (Some 0)) ∷
      node.Statement (statement.Suite (1 ∷ [])) ∷
      node.Statement (statement.Def 2) ∷
      node.Expression (expression.Name (codes "inner")) ∷
      node.Statement (statement.Return (Some 4)) ∷
      node.Statement (statement.Suite (3 ∷ 5 ∷ [])) ∷
      node.Statement (statement.Def 1) ∷
      node.Expression (expression.Name (codes "v2")) ∷
      node.Statement (statement.Return (Some 8)) ∷
      node.Statement (statement.Suite (9 ∷ [])) ∷
      node.Statement (statement.Def 3) ∷
      node.Expression (expression.Name (codes "early")) ∷
      node.Expression (expression.Call 12 []) ∷
      node.Statement (statement.Alone 13) ∷
      node.Statement (statement.Suite (14 ∷ [])) ∷
      node.Target (target.Name (codes "k")) ∷
      node.Expression (expression.Name (codes "e")) ∷
      node.Expression (expression.Attribute 17 (codes "args")) ∷
      node.Statement (statement.Assign 16 18) ∷
      node.Statement (statement.Suite (19 ∷ [])) ∷
      node.Statement (statement.Except ((record { text = (codes "NameError"); line = 10 }) ∷ []) (Some (record { text = (codes "e"); line = 10 })) 20) ∷
      node.Statement (statement.Try 15 (21 ∷ []) None) ∷
      node.Target (target.Name (codes "v")) ∷
      node.Expression (expression.Constant (plain.Text (codes "deep"))) ∷
      node.Statement (statement.Assign 23 24) ∷
      node.Target (target.Name (codes "v2")) ∷
      node.Expression (expression.Name (codes "k")) ∷
      node.Statement (statement.Assign 26 27) ∷
      node.Expression (expression.Name (codes "middle")) ∷
      node.Expression (expression.Call 29 []) ∷
      node.Expression (expression.Call 30 []) ∷
      node.Statement (statement.Return (Some 31)) ∷
      node.Statement (statement.Suite (7 ∷ 11 ∷ 22 ∷ 25 ∷ 28 ∷ 32 ∷ [])) ∷
      node.Statement (statement.Def 0) ∷
      node.Target (target.Name (codes "r")) ∷
      node.Expression (expression.Name (codes "outer")) ∷
      node.Expression (expression.Call 36 []) ∷
      node.Statement (statement.Assign 35 37) ∷
      node.Target (target.Name (codes "l")) ∷
      node.Expression (expression.Name (codes "b")) ∷
      node.Expression (expression.Lambda 4) ∷
      node.Expression (expression.Constant (plain.Text (codes "x"))) ∷
      node.Expression (expression.Constant (plain.Text (codes "y"))) ∷
      node.Expression (expression.Call 41 (42 ∷ 43 ∷ [])) ∷
      node.Statement (statement.Assign 39 44) ∷
      node.Expression (expression.Name (codes "outer")) ∷
      node.Expression (expression.Constant (plain.Text (codes "z"))) ∷
      node.Expression (expression.Call 46 (47 ∷ [])) ∷
      node.Statement (statement.Alone 48) ∷
      node.Statement (statement.Suite (49 ∷ [])) ∷
      node.Target (target.Name (codes "t")) ∷
      node.Expression (expression.Builtin builtin.Str) ∷
      node.Expression (expression.Name (codes "e")) ∷
      node.Expression (expression.Call 52 (53 ∷ [])) ∷
      node.Statement (statement.Assign 51 54) ∷
      node.Statement (statement.Suite (55 ∷ [])) ∷
      node.Statement (statement.Except ((record { text = (codes "TypeError"); line = 19 }) ∷ []) (Some (record { text = (codes "e"); line = 19 })) 56) ∷
      node.Statement (statement.Try 50 (57 ∷ []) None) ∷
      node.Statement (statement.RaiseName (record { text = (codes "IndexError"); line = 23 })) ∷
      node.Statement (statement.Suite (59 ∷ [])) ∷
      node.Statement (statement.RaiseName (record { text = (codes "KeyError"); line = 27 })) ∷
      node.Statement (statement.Suite (61 ∷ [])) ∷
      node.Statement (statement.RaiseAgain) ∷
      node.Statement (statement.Suite (63 ∷ [])) ∷
      node.Statement (statement.Global ((record { text = (codes "seen"); line = 32 }) ∷ [])) ∷
      node.Target (target.Name (codes "seen")) ∷
      node.Expression (expression.Constant (plain.Text (codes "pending"))) ∷
      node.Statement (statement.Assign 66 67) ∷
      node.Statement (statement.Suite (65 ∷ 68 ∷ [])) ∷
      node.Statement (statement.Except ((record { text = (codes "KeyError"); line = 31 }) ∷ []) None 69) ∷
      node.Statement (statement.Try 64 (70 ∷ []) None) ∷
      node.Expression (expression.Constant (plain.Text (codes "new"))) ∷
      node.Statement (statement.RaiseCall (record { text = (codes "ValueError"); line = 34 }) (72 ∷ [])) ∷
      node.Statement (statement.Suite (71 ∷ 73 ∷ [])) ∷
      node.Statement (statement.Try 62 [] (Some 74)) ∷
      node.Statement (statement.Suite (75 ∷ [])) ∷
      node.Expression (expression.Name (codes "e")) ∷
      node.Expression (expression.Attribute 77 (codes "args")) ∷
      node.Statement (statement.Return (Some 78)) ∷
      node.Statement (statement.Suite (79 ∷ [])) ∷
      node.Statement (statement.Except ((record { text = (codes "ValueError"); line = 35 }) ∷ []) (Some (record { text = (codes "e"); line = 35 })) 80) ∷
      node.Statement (statement.Try 76 (81 ∷ []) None) ∷
      node.Statement (statement.Suite (82 ∷ [])) ∷
      node.Statement (statement.Except ((record { text = (codes "IndexError"); line = 24 }) ∷ []) None 83) ∷
      node.Statement (statement.Try 60 (84 ∷ []) None) ∷
      node.Expression (expression.Constant (plain.Text (codes "no"))) ∷
      node.Statement (statement.Return (Some 86)) ∷
      node.Statement (statement.Suite (85 ∷ 87 ∷ [])) ∷
      node.Statement (statement.Def 5) ∷
      node.Target (target.Name (codes "f")) ∷
      node.Expression (expression.Name (codes "fin")) ∷
      node.Expression (expression.Call 91 []) ∷
      node.Statement (statement.Assign 90 92) ∷
      node.Target (target.Name (codes "out")) ∷
      node.Expression (expression.Constant (plain.Text [])) ∷
      node.Statement (statement.Assign 94 95) ∷
      node.Expression (expression.Constant (plain.Text (codes "x"))) ∷
      node.Target (target.Name (codes "out")) ∷
      node.Expression (expression.Constant (plain.Text (codes "a"))) ∷
      node.Statement (statement.Augmented 98 op.Add 99) ∷
      node.Target (target.Name (codes "last")) ∷
      node.Expression (expression.Name (codes "out")) ∷
      node.Expression (expression.Constant (plain.Text (codes "afa"))) ∷
      node.Expression (expression.Compare 102 (record { comparison = comparison.Order cmp.Eq; line = 44; right = 103 } ∷ [])) ∷
      node.Statement (statement.Assign 101 104) ∷
      node.Expression (expression.Name (codes "last")) ∷
      node.Statement (statement.Break) ∷
      node.Statement (statement.Suite (107 ∷ [])) ∷
      node.Statement (statement.If 106 108 None) ∷
      node.Statement (statement.Continue) ∷
      node.Statement (statement.Suite (100 ∷ 105 ∷ 109 ∷ 110 ∷ [])) ∷
      node.Target (target.Name (codes "out")) ∷
      node.Expression (expression.Constant (plain.Text (codes "f"))) ∷
      node.Statement (statement.Augmented 112 op.Add 113) ∷
      node.Statement (statement.Suite (114 ∷ [])) ∷
      node.Statement (statement.Try 111 [] (Some 115)) ∷
      node.Statement (statement.Suite (116 ∷ [])) ∷
      node.Statement (statement.While 97 117) ∷
      node.Expression (expression.Name (codes "out")) ∷
      node.Statement (statement.Return (Some 119)) ∷
      node.Statement (statement.Suite (96 ∷ 118 ∷ 120 ∷ [])) ∷
      node.Statement (statement.Def 6) ∷
      node.Target (target.Name (codes "o")) ∷
      node.Expression (expression.Name (codes "loopfin")) ∷
      node.Expression (expression.Call 124 []) ∷
      node.Statement (statement.Assign 123 125) ∷
      node.Target (target.Name (codes "now")) ∷
      node.Expression (expression.Name (codes "unbound")) ∷
      node.Statement (statement.Assign 127 128) ∷
      node.Target (target.Name (codes "unbound")) ∷
      node.Expression (expression.Constant (plain.Int (pos 1))) ∷
      node.Statement (statement.Assign 130 131) ∷
      node.Statement (statement.Suite (129 ∷ 132 ∷ [])) ∷
      node.Statement (statement.Def 7) ∷
      node.Expression (expression.Name (codes "late")) ∷
      node.Expression (expression.Call 135 []) ∷
      node.Statement (statement.Alone 136) ∷
      node.Statement (statement.Suite (137 ∷ [])) ∷
      node.Target (target.Name (codes "w")) ∷
      node.Expression (expression.Builtin builtin.Str) ∷
      node.Expression (expression.Name (codes "e")) ∷
      node.Expression (expression.Call 140 (141 ∷ [])) ∷
      node.Statement (statement.Assign 139 142) ∷
      node.Statement (statement.Suite (143 ∷ [])) ∷
      node.Statement (statement.Except ((record { text = (codes "UnboundLocalError"); line = 57 }) ∷ []) (Some (record { text = (codes "e"); line = 57 })) 144) ∷
      node.Statement (statement.Try 138 (145 ∷ []) None) ∷
      node.Statement (statement.Suite (34 ∷ 38 ∷ 45 ∷ 58 ∷ 89 ∷ 93 ∷ 122 ∷ 126 ∷ 134 ∷ 146 ∷ [])) ∷
      [];
  lines = (4 ∷ 4 ∷ 3 ∷ 3 ∷ 5 ∷ 5 ∷ 2 ∷ 2 ∷ 7 ∷ 7 ∷ 6 ∷ 6 ∷ 9 ∷ 9 ∷ 9 ∷ 8 ∷ 11 ∷ 11 ∷ 11 ∷ 11 ∷ 10 ∷ 10 ∷ 8 ∷ 12 ∷ 12 ∷ 12 ∷ 13 ∷ 13 ∷ 13 ∷ 14 ∷ 14 ∷ 14 ∷ 14 ∷ 1 ∷ 1 ∷ 15 ∷ 15 ∷ 15 ∷ 15 ∷ 16 ∷ 16 ∷ 16 ∷ 16 ∷ 16 ∷ 16 ∷ 16 ∷ 18 ∷ 18 ∷ 18 ∷ 18 ∷ 17 ∷ 20 ∷ 20 ∷ 20 ∷ 20 ∷ 20 ∷ 19 ∷ 19 ∷ 17 ∷ 23 ∷ 22 ∷ 27 ∷ 26 ∷ 30 ∷ 29 ∷ 32 ∷ 33 ∷ 33 ∷ 33 ∷ 31 ∷ 31 ∷ 29 ∷ 34 ∷ 34 ∷ 28 ∷ 26 ∷ 25 ∷ 36 ∷ 36 ∷ 36 ∷ 35 ∷ 35 ∷ 25 ∷ 24 ∷ 24 ∷ 22 ∷ 37 ∷ 37 ∷ 21 ∷ 21 ∷ 38 ∷ 38 ∷ 38 ∷ 38 ∷ 40 ∷ 40 ∷ 40 ∷ 41 ∷ 43 ∷ 43 ∷ 43 ∷ 44 ∷ 44 ∷ 44 ∷ 44 ∷ 44 ∷ 45 ∷ 46 ∷ 45 ∷ 45 ∷ 47 ∷ 42 ∷ 49 ∷ 49 ∷ 49 ∷ 48 ∷ 42 ∷ 41 ∷ 41 ∷ 50 ∷ 50 ∷ 39 ∷ 39 ∷ 51 ∷ 51 ∷ 51 ∷ 51 ∷ 53 ∷ 53 ∷ 53 ∷ 54 ∷ 54 ∷ 54 ∷ 52 ∷ 52 ∷ 56 ∷ 56 ∷ 56 ∷ 55 ∷ 58 ∷ 58 ∷ 58 ∷ 58 ∷ 58 ∷ 57 ∷ 57 ∷ 55 ∷ 1 ∷ []);
  root = 147;
  functions =
      record { name = (codes "outer"); parameters = []; locals = ((codes "middle") ∷ (codes "early") ∷ (codes "k") ∷ (codes "v") ∷ (codes "v2") ∷ []); free = []; has_inner = true; parent = None; body = 33 } ∷
      record { name = (codes "middle"); parameters = []; locals = ((codes "inner") ∷ []); free = ((codes "v") ∷ []); has_inner = true; parent = (Some 0); body = 6 } ∷
      record { name = (codes "inner"); parameters = []; locals = []; free = ((codes "v") ∷ []); has_inner = false; parent = (Some 1); body = 2 } ∷
      record { name = (codes "early"); parameters = []; locals = []; free = ((codes "v2") ∷ []); has_inner = false; parent = (Some 0); body = 10 } ∷
      record { name = (codes "<lambda>"); parameters = ((record { text = (codes "a"); line = 16 }) ∷ (record { text = (codes "b"); line = 16 }) ∷ []); locals = ((codes "a") ∷ (codes "b") ∷ []); free = []; has_inner = false; parent = None; body = 40 } ∷
      record { name = (codes "fin"); parameters = []; locals = []; free = []; has_inner = false; parent = None; body = 88 } ∷
      record { name = (codes "loopfin"); parameters = []; locals = ((codes "out") ∷ (codes "last") ∷ []); free = []; has_inner = false; parent = None; body = 121 } ∷
      record { name = (codes "late"); parameters = []; locals = ((codes "now") ∷ (codes "unbound") ∷ []); free = []; has_inner = false; parent = None; body = 133 } ∷
      [];
  handler_names = ((codes "e") ∷ []);
  is_expression = false;
}

-- class C:
--     def __init__(self, k):
--         self.k = k
-- items = ["a", "b", "c"]
-- s = ""
-- for x in items:
--     if x == "b":
--         continue
--     s += x
-- for i, y in [("k", "v"), ("l", "w")]:
--     items[0] = y
--     if i == "l":
--         break
-- else_ = C("z")
-- else_.k += "!"
-- items[1] += "?"
-- d = {}
-- d["q"], else_.j, t = "123"
-- del d["q"]
-- del else_.j
-- def gen(n):
--     for c in "xyz":
--         try:
--             if c == "y":
--                 return c
--         finally:
--             n.append(c)
-- r = gen(items)
-- try:
--     for a, q in ["ab", "c"]:
--         pass
-- except ValueError as e:
--     m = e.args
--     u = repr(e)
-- try:
--     for z in 3:
--         pass
-- except TypeError as e:
--     w = str(e)
abbrev pub targets : Program
targets = record {
  nodes =
      node.Expression (expression.Name (codes "self")) ∷
      node.Target (target.Attribute 0 (codes "k")) ∷
      node.Expression (expression.Name (codes "k")) ∷
      node.Statement (statement.Assign 1 2) ∷
      node.Statement (statement.Suite (3 ∷ [])) ∷
      node.Statement (statement.Def 0) ∷
      node.Statement (statement.Suite (5 ∷ [])) ∷
      node.Statement (statement.Class (record { text = (codes "C"); line = 1 }) None 6) ∷
      node.Target (target.Name (codes "items")) ∷
      node.Expression (expression.Constant (plain.Text (codes "a"))) ∷
      node.Expression (expression.Constant (plain.Text (codes "b"))) ∷
      node.Expression (expression.Constant (plain.Text (codes "c"))) ∷
      node.Expression (expression.List (9 ∷ 10 ∷ 11 ∷ [])) ∷
      node.Statement (statement.Assign 8 12) ∷
      node.Target (target.Name (codes "s")) ∷
      node.Expression (expression.Constant (plain.Text [])) ∷
      node.Statement (statement.Assign 14 15) ∷
      node.Target (target.Name (codes "x")) ∷
      node.Expression (expression.Name (codes "items")) ∷
      node.Expression (expression.Name (codes "x")) ∷
      node.Expression (expression.Constant (plain.Text (codes "b"))) ∷
      node.Expression (expression.Compare 19 (record { comparison = comparison.Order cmp.Eq; line = 7; right = 20 } ∷ [])) ∷
      node.Statement (statement.Continue) ∷
      node.Statement (statement.Suite (22 ∷ [])) ∷
      node.Statement (statement.If 21 23 None) ∷
      node.Target (target.Name (codes "s")) ∷
      node.Expression (expression.Name (codes "x")) ∷
      node.Statement (statement.Augmented 25 op.Add 26) ∷
      node.Statement (statement.Suite (24 ∷ 27 ∷ [])) ∷
      node.Statement (statement.For 17 18 28) ∷
      node.Target (target.Name (codes "i")) ∷
      node.Target (target.Name (codes "y")) ∷
      node.Target (target.Tuple (30 ∷ 31 ∷ [])) ∷
      node.Expression (expression.Constant (plain.Text (codes "k"))) ∷
      node.Expression (expression.Constant (plain.Text (codes "v"))) ∷
      node.Expression (expression.Tuple (33 ∷ 34 ∷ [])) ∷
      node.Expression (expression.Constant (plain.Text (codes "l"))) ∷
      node.Expression (expression.Constant (plain.Text (codes "w"))) ∷
      node.Expression (expression.Tuple (36 ∷ 37 ∷ [])) ∷
      node.Expression (expression.List (35 ∷ 38 ∷ [])) ∷
      node.Expression (expression.Name (codes "items")) ∷
      node.Expression (expression.Constant (plain.Int (pos 0))) ∷
      node.Target (target.Item 40 41) ∷
      node.Expression (expression.Name (codes "y")) ∷
      node.Statement (statement.Assign 42 43) ∷
      node.Expression (expression.Name (codes "i")) ∷
      node.Expression (expression.Constant (plain.Text (codes "l"))) ∷
      node.Expression (expression.Compare 45 (record { comparison = comparison.Order cmp.Eq; line = 12; right = 46 } ∷ [])) ∷
      node.Statement (statement.Break) ∷
      node.Statement (statement.Suite (48 ∷ [])) ∷
      node.Statement (statement.If 47 49 None) ∷
      node.Statement (statement.Suite (44 ∷ 50 ∷ [])) ∷
      node.Statement (statement.For 32 39 51) ∷
      node.Target (target.Name (codes "else_")) ∷
      node.Expression (expression.Name (codes "C")) ∷
      node.Expression (expression.Constant (plain.Text (codes "z"))) ∷
      node.Expression (expression.Call 54 (55 ∷ [])) ∷
      node.Statement (statement.Assign 53 56) ∷
      node.Expression (expression.Name (codes "else_")) ∷
      node.Target (target.Attribute 58 (codes "k")) ∷
      node.Expression (expression.Constant (plain.Text (codes "!"))) ∷
      node.Statement (statement.Augmented 59 op.Add 60) ∷
      node.Expression (expression.Name (codes "items")) ∷
      node.Expression (expression.Constant (plain.Int (pos 1))) ∷
      node.Target (target.Item 62 63) ∷
      node.Expression (expression.Constant (plain.Text (codes "?"))) ∷
      node.Statement (statement.Augmented 64 op.Add 65) ∷
      node.Target (target.Name (codes "d")) ∷
      node.Expression (expression.Dict []) ∷
      node.Statement (statement.Assign 67 68) ∷
      node.Expression (expression.Name (codes "d")) ∷
      node.Expression (expression.Constant (plain.Text (codes "q"))) ∷
      node.Target (target.Item 70 71) ∷
      node.Expression (expression.Name (codes "else_")) ∷
      node.Target (target.Attribute 73 (codes "j")) ∷
      node.Target (target.Name (codes "t")) ∷
      node.Target (target.Tuple (72 ∷ 74 ∷ 75 ∷ [])) ∷
      node.Expression (expression.Constant (plain.Text (codes "123"))) ∷
      node.Statement (statement.Assign 76 77) ∷
      node.Expression (expression.Name (codes "d")) ∷
      node.Expression (expression.Constant (plain.Text (codes "q"))) ∷
      node.Target (target.Item 79 80) ∷
      node.Statement (statement.Delete 81) ∷
      node.Expression (expression.Name (codes "else_")) ∷
      node.Target (target.Attribute 83 (codes "j")) ∷
      node.Statement (statement.Delete 84) ∷
      node.Target (target.Name (codes "c")) ∷
      node.Expression (expression.Constant (plain.Text (codes "xyz"))) ∷
      node.Expression (expression.Name (codes "c")) ∷
      node.Expression (expression.Constant (plain.Text (codes "y"))) ∷
      node.Expression (expression.Compare 88 (record { comparison = comparison.Order cmp.Eq; line = 24; right = 89 } ∷ [])) ∷
      node.Expression (expression.Name (codes "c")) ∷
      node.Statement (statement.Return (Some 91)) ∷
      node.Statement (statement.Suite (92 ∷ [])) ∷
      node.Statement (statement.If 90 93 None) ∷
      node.Statement (statement.Suite (94 ∷ [])) ∷
      node.Expression (expression.Name (codes "n")) ∷
      node.Expression (expression.Attribute 96 (codes "append")) ∷
      node.Expression (expression.Name (codes "c")) ∷
      node.Expression (expression.Call 97 (98 ∷ [])) ∷
      node.Statement (statement.Alone 99) ∷
      node.Statement (statement.Suite (100 ∷ [])) ∷
      node.Statement (statement.Try 95 [] (Some 101)) ∷
      node.Statement (statement.Suite (102 ∷ [])) ∷
      node.Statement (statement.For 86 87 103) ∷
      node.Statement (statement.Suite (104 ∷ [])) ∷
      node.Statement (statement.Def 1) ∷
      node.Target (target.Name (codes "r")) ∷
      node.Expression (expression.Name (codes "gen")) ∷
      node.Expression (expression.Name (codes "items")) ∷
      node.Expression (expression.Call 108 (109 ∷ [])) ∷
      node.Statement (statement.Assign 107 110) ∷
      node.Target (target.Name (codes "a")) ∷
      node.Target (target.Name (codes "q")) ∷
      node.Target (target.Tuple (112 ∷ 113 ∷ [])) ∷
      node.Expression (expression.Constant (plain.Text (codes "ab"))) ∷
      node.Expression (expression.Constant (plain.Text (codes "c"))) ∷
      node.Expression (expression.List (115 ∷ 116 ∷ [])) ∷
      node.Statement (statement.Pass) ∷
      node.Statement (statement.Suite (118 ∷ [])) ∷
      node.Statement (statement.For 114 117 119) ∷
      node.Statement (statement.Suite (120 ∷ [])) ∷
      node.Target (target.Name (codes "m")) ∷
      node.Expression (expression.Name (codes "e")) ∷
      node.Expression (expression.Attribute 123 (codes "args")) ∷
      node.Statement (statement.Assign 122 124) ∷
      node.Target (target.Name (codes "u")) ∷
      node.Expression (expression.Builtin builtin.Repr) ∷
      node.Expression (expression.Name (codes "e")) ∷
      node.Expression (expression.Call 127 (128 ∷ [])) ∷
      node.Statement (statement.Assign 126 129) ∷
      node.Statement (statement.Suite (125 ∷ 130 ∷ [])) ∷
      node.Statement (statement.Except ((record { text = (codes "ValueError"); line = 32 }) ∷ []) (Some (record { text = (codes "e"); line = 32 })) 131) ∷
      node.Statement (statement.Try 121 (132 ∷ []) None) ∷
      node.Target (target.Name (codes "z")) ∷
      node.Expression (expression.Constant (plain.Int (pos 3))) ∷
      node.Statement (statement.Pass) ∷
      node.Statement (statement.Suite (136 ∷ [])) ∷
      node.Statement (statement.For 134 135 137) ∷
      node.Statement (statement.Suite (138 ∷ [])) ∷
      node.Target (target.Name (codes "w")) ∷
      node.Expression (expression.Builtin builtin.Str) ∷
      node.Expression (expression.Name (codes "e")) ∷
      node.Expression (expression.Call 141 (142 ∷ [])) ∷
      node.Statement (statement.Assign 140 143) ∷
      node.Statement (statement.Suite (144 ∷ [])) ∷
      node.Statement (statement.Except ((record { text = (codes "TypeError"); line = 38 }) ∷ []) (Some (record { text = (codes "e"); line = 38 })) 145) ∷
      node.Statement (statement.Try 139 (146 ∷ []) None) ∷
      node.Statement (statement.Suite (7 ∷ 13 ∷ 16 ∷ 29 ∷ 52 ∷ 57 ∷ 61 ∷ 66 ∷ 69 ∷ 78 ∷ 82 ∷ 85 ∷ 106 ∷ 111 ∷ 133 ∷ 147 ∷ [])) ∷
      [];
  lines = (3 ∷ 3 ∷ 3 ∷ 3 ∷ 2 ∷ 2 ∷ 1 ∷ 1 ∷ 4 ∷ 4 ∷ 4 ∷ 4 ∷ 4 ∷ 4 ∷ 5 ∷ 5 ∷ 5 ∷ 6 ∷ 6 ∷ 7 ∷ 7 ∷ 7 ∷ 8 ∷ 7 ∷ 7 ∷ 9 ∷ 9 ∷ 9 ∷ 6 ∷ 6 ∷ 10 ∷ 10 ∷ 10 ∷ 10 ∷ 10 ∷ 10 ∷ 10 ∷ 10 ∷ 10 ∷ 10 ∷ 11 ∷ 11 ∷ 11 ∷ 11 ∷ 11 ∷ 12 ∷ 12 ∷ 12 ∷ 13 ∷ 12 ∷ 12 ∷ 10 ∷ 10 ∷ 14 ∷ 14 ∷ 14 ∷ 14 ∷ 14 ∷ 15 ∷ 15 ∷ 15 ∷ 15 ∷ 16 ∷ 16 ∷ 16 ∷ 16 ∷ 16 ∷ 17 ∷ 17 ∷ 17 ∷ 18 ∷ 18 ∷ 18 ∷ 18 ∷ 18 ∷ 18 ∷ 18 ∷ 18 ∷ 18 ∷ 19 ∷ 19 ∷ 19 ∷ 19 ∷ 20 ∷ 20 ∷ 20 ∷ 22 ∷ 22 ∷ 24 ∷ 24 ∷ 24 ∷ 25 ∷ 25 ∷ 24 ∷ 24 ∷ 23 ∷ 27 ∷ 27 ∷ 27 ∷ 27 ∷ 27 ∷ 26 ∷ 23 ∷ 22 ∷ 22 ∷ 21 ∷ 21 ∷ 28 ∷ 28 ∷ 28 ∷ 28 ∷ 28 ∷ 30 ∷ 30 ∷ 30 ∷ 30 ∷ 30 ∷ 30 ∷ 31 ∷ 30 ∷ 30 ∷ 29 ∷ 33 ∷ 33 ∷ 33 ∷ 33 ∷ 34 ∷ 34 ∷ 34 ∷ 34 ∷ 34 ∷ 32 ∷ 32 ∷ 29 ∷ 36 ∷ 36 ∷ 37 ∷ 36 ∷ 36 ∷ 35 ∷ 39 ∷ 39 ∷ 39 ∷ 39 ∷ 39 ∷ 38 ∷ 38 ∷ 35 ∷ 1 ∷ []);
  root = 148;
  functions =
      record { name = (codes "__init__"); parameters = ((record { text = (codes "self"); line = 2 }) ∷ (record { text = (codes "k"); line = 2 }) ∷ []); locals = ((codes "self") ∷ (codes "k") ∷ []); free = []; has_inner = false; parent = None; body = 4 } ∷
      record { name = (codes "gen"); parameters = ((record { text = (codes "n"); line = 21 }) ∷ []); locals = ((codes "n") ∷ (codes "c") ∷ []); free = []; has_inner = false; parent = None; body = 105 } ∷
      [];
  handler_names = ((codes "e") ∷ []);
  is_expression = false;
}

-- def k():
--     try:
--         raise KeyError("a", "b")
--     except (ValueError, LookupError) as oops:
--         try:
--             raise TypeError
--         except TypeError as oops:
--             pass
--         raise oops
-- try:
--     k()
-- except NameError as n:
--     x = n.args
-- raise ValueError("end", 1)
abbrev pub unbound_handler : Program
unbound_handler = record {
  nodes =
      node.Expression (expression.Constant (plain.Text (codes "a"))) ∷
      node.Expression (expression.Constant (plain.Text (codes "b"))) ∷
      node.Statement (statement.RaiseCall (record { text = (codes "KeyError"); line = 3 }) (0 ∷ 1 ∷ [])) ∷
      node.Statement (statement.Suite (2 ∷ [])) ∷
      node.Statement (statement.RaiseName (record { text = (codes "TypeError"); line = 6 })) ∷
      node.Statement (statement.Suite (4 ∷ [])) ∷
      node.Statement (statement.Pass) ∷
      node.Statement (statement.Suite (6 ∷ [])) ∷
      node.Statement (statement.Except ((record { text = (codes "TypeError"); line = 7 }) ∷ []) (Some (record { text = (codes "oops"); line = 7 })) 7) ∷
      node.Statement (statement.Try 5 (8 ∷ []) None) ∷
      node.Statement (statement.RaiseName (record { text = (codes "oops"); line = 9 })) ∷
      node.Statement (statement.Suite (9 ∷ 10 ∷ [])) ∷
      node.Statement (statement.Except ((record { text = (codes "ValueError"); line = 4 }) ∷ (record { text = (codes "LookupError"); line = 4 }) ∷ []) (Some (record { text = (codes "oops"); line = 4 })) 11) ∷
      node.Statement (statement.Try 3 (12 ∷ []) None) ∷
      node.Statement (statement.Suite (13 ∷ [])) ∷
      node.Statement (statement.Def 0) ∷
      node.Expression (expression.Name (codes "k")) ∷
      node.Expression (expression.Call 16 []) ∷
      node.Statement (statement.Alone 17) ∷
      node.Statement (statement.Suite (18 ∷ [])) ∷
      node.Target (target.Name (codes "x")) ∷
      node.Expression (expression.Name (codes "n")) ∷
      node.Expression (expression.Attribute 21 (codes "args")) ∷
      node.Statement (statement.Assign 20 22) ∷
      node.Statement (statement.Suite (23 ∷ [])) ∷
      node.Statement (statement.Except ((record { text = (codes "NameError"); line = 12 }) ∷ []) (Some (record { text = (codes "n"); line = 12 })) 24) ∷
      node.Statement (statement.Try 19 (25 ∷ []) None) ∷
      node.Expression (expression.Constant (plain.Text (codes "end"))) ∷
      node.Expression (expression.Constant (plain.Int (pos 1))) ∷
      node.Statement (statement.RaiseCall (record { text = (codes "ValueError"); line = 14 }) (27 ∷ 28 ∷ [])) ∷
      node.Statement (statement.Suite (15 ∷ 26 ∷ 29 ∷ [])) ∷
      [];
  lines = (3 ∷ 3 ∷ 3 ∷ 2 ∷ 6 ∷ 5 ∷ 8 ∷ 7 ∷ 7 ∷ 5 ∷ 9 ∷ 4 ∷ 4 ∷ 2 ∷ 1 ∷ 1 ∷ 11 ∷ 11 ∷ 11 ∷ 10 ∷ 13 ∷ 13 ∷ 13 ∷ 13 ∷ 12 ∷ 12 ∷ 10 ∷ 14 ∷ 14 ∷ 14 ∷ 1 ∷ []);
  root = 30;
  functions =
      record { name = (codes "k"); parameters = []; locals = []; free = []; has_inner = false; parent = None; body = 14 } ∷
      [];
  handler_names = ((codes "oops") ∷ (codes "n") ∷ []);
  is_expression = false;
}

-- class A:
--     "doc"
--     size = "big"
--     def m(self):
--         return "m"
--     size = "small"
-- class B(A):
--     def m(self):
--         return "n"
--     pass
abbrev pub classes : Program
classes = record {
  nodes =
      node.Expression (expression.Constant (plain.Text (codes "doc"))) ∷
      node.Statement (statement.Alone 0) ∷
      node.Target (target.Name (codes "size")) ∷
      node.Expression (expression.Constant (plain.Text (codes "big"))) ∷
      node.Statement (statement.Assign 2 3) ∷
      node.Expression (expression.Constant (plain.Text (codes "m"))) ∷
      node.Statement (statement.Return (Some 5)) ∷
      node.Statement (statement.Suite (6 ∷ [])) ∷
      node.Statement (statement.Def 0) ∷
      node.Target (target.Name (codes "size")) ∷
      node.Expression (expression.Constant (plain.Text (codes "small"))) ∷
      node.Statement (statement.Assign 9 10) ∷
      node.Statement (statement.Suite (1 ∷ 4 ∷ 8 ∷ 11 ∷ [])) ∷
      node.Statement (statement.Class (record { text = (codes "A"); line = 1 }) None 12) ∷
      node.Expression (expression.Constant (plain.Text (codes "n"))) ∷
      node.Statement (statement.Return (Some 14)) ∷
      node.Statement (statement.Suite (15 ∷ [])) ∷
      node.Statement (statement.Def 1) ∷
      node.Statement (statement.Pass) ∷
      node.Statement (statement.Suite (17 ∷ 18 ∷ [])) ∷
      node.Statement (statement.Class (record { text = (codes "B"); line = 7 }) (Some (record { text = (codes "A"); line = 7 })) 19) ∷
      node.Statement (statement.Suite (13 ∷ 20 ∷ [])) ∷
      [];
  lines = (2 ∷ 2 ∷ 3 ∷ 3 ∷ 3 ∷ 5 ∷ 5 ∷ 4 ∷ 4 ∷ 6 ∷ 6 ∷ 6 ∷ 1 ∷ 1 ∷ 9 ∷ 9 ∷ 8 ∷ 8 ∷ 10 ∷ 7 ∷ 7 ∷ 1 ∷ []);
  root = 21;
  functions =
      record { name = (codes "m"); parameters = ((record { text = (codes "self"); line = 4 }) ∷ []); locals = ((codes "self") ∷ []); free = []; has_inner = false; parent = None; body = 7 } ∷
      record { name = (codes "m"); parameters = ((record { text = (codes "self"); line = 8 }) ∷ []); locals = ((codes "self") ∷ []); free = []; has_inner = false; parent = None; body = 16 } ∷
      [];
  handler_names = [];
  is_expression = false;
}

-- def g():
--     return oops
abbrev pub reads_oops : Program
reads_oops = record {
  nodes =
      node.Expression (expression.Name (codes "oops")) ∷
      node.Statement (statement.Return (Some 0)) ∷
      node.Statement (statement.Suite (1 ∷ [])) ∷
      node.Statement (statement.Def 0) ∷
      node.Statement (statement.Suite (3 ∷ [])) ∷
      [];
  lines = (2 ∷ 2 ∷ 1 ∷ 1 ∷ 1 ∷ []);
  root = 4;
  functions =
      record { name = (codes "g"); parameters = []; locals = []; free = []; has_inner = false; parent = None; body = 2 } ∷
      [];
  handler_names = [];
  is_expression = false;
}

-- try:
--     raise KeyError
-- except KeyError as oops:
--     pass
abbrev pub handles_oops : Program
handles_oops = record {
  nodes =
      node.Statement (statement.RaiseName (record { text = (codes "KeyError"); line = 2 })) ∷
      node.Statement (statement.Suite (0 ∷ [])) ∷
      node.Statement (statement.Pass) ∷
      node.Statement (statement.Suite (2 ∷ [])) ∷
      node.Statement (statement.Except ((record { text = (codes "KeyError"); line = 3 }) ∷ []) (Some (record { text = (codes "oops"); line = 3 })) 3) ∷
      node.Statement (statement.Try 1 (4 ∷ []) None) ∷
      node.Statement (statement.Suite (5 ∷ [])) ∷
      [];
  lines = (2 ∷ 1 ∷ 4 ∷ 3 ∷ 3 ∷ 1 ∷ 1 ∷ []);
  root = 6;
  functions = [];
  handler_names = ((codes "oops") ∷ []);
  is_expression = false;
}

-- g()
abbrev pub calls_g : Program
calls_g = record {
  nodes =
      node.Expression (expression.Name (codes "g")) ∷
      node.Expression (expression.Call 0 []) ∷
      node.Statement (statement.Alone 1) ∷
      node.Statement (statement.Suite (2 ∷ [])) ∷
      [];
  lines = (1 ∷ 1 ∷ 1 ∷ 1 ∷ []);
  root = 3;
  functions = [];
  handler_names = [];
  is_expression = false;
}

-- oops = 1
abbrev pub binds_oops : Program
binds_oops = record {
  nodes =
      node.Target (target.Name (codes "oops")) ∷
      node.Expression (expression.Constant (plain.Int (pos 1))) ∷
      node.Statement (statement.Assign 0 1) ∷
      node.Statement (statement.Suite (2 ∷ [])) ∷
      [];
  lines = (1 ∷ 1 ∷ 1 ∷ 1 ∷ []);
  root = 3;
  functions = [];
  handler_names = [];
  is_expression = false;
}

-- class A:
--     pass
-- g()
-- class B(A):
--     pass
abbrev pub derives : Program
derives = record {
  nodes =
      node.Statement (statement.Pass) ∷
      node.Statement (statement.Suite (0 ∷ [])) ∷
      node.Statement (statement.Class (record { text = (codes "A"); line = 1 }) None 1) ∷
      node.Expression (expression.Name (codes "g")) ∷
      node.Expression (expression.Call 3 []) ∷
      node.Statement (statement.Alone 4) ∷
      node.Statement (statement.Pass) ∷
      node.Statement (statement.Suite (6 ∷ [])) ∷
      node.Statement (statement.Class (record { text = (codes "B"); line = 4 }) (Some (record { text = (codes "A"); line = 4 })) 7) ∷
      node.Statement (statement.Suite (2 ∷ 5 ∷ 8 ∷ [])) ∷
      [];
  lines = (2 ∷ 1 ∷ 1 ∷ 3 ∷ 3 ∷ 3 ∷ 5 ∷ 4 ∷ 4 ∷ 1 ∷ []);
  root = 9;
  functions = [];
  handler_names = [];
  is_expression = false;
}

-- def g():
--     global A
--     A = "other"
abbrev pub rebinds : Program
rebinds = record {
  nodes =
      node.Statement (statement.Global ((record { text = (codes "A"); line = 2 }) ∷ [])) ∷
      node.Target (target.Name (codes "A")) ∷
      node.Expression (expression.Constant (plain.Text (codes "other"))) ∷
      node.Statement (statement.Assign 1 2) ∷
      node.Statement (statement.Suite (0 ∷ 3 ∷ [])) ∷
      node.Statement (statement.Def 0) ∷
      node.Statement (statement.Suite (5 ∷ [])) ∷
      [];
  lines = (2 ∷ 3 ∷ 3 ∷ 3 ∷ 1 ∷ 1 ∷ 1 ∷ []);
  root = 6;
  functions =
      record { name = (codes "g"); parameters = []; locals = []; free = []; has_inner = false; parent = None; body = 4 } ∷
      [];
  handler_names = [];
  is_expression = false;
}

-- s = ""
-- n = "abc"
-- while n:
--     if s == "x":
--         n = ""
--         continue
--     elif s == "xx":
--         break
--     else:
--         s = s + "x"
-- def h(t):
--     while t:
--         return "out"
-- o = h("1")
abbrev pub while_turns : Program
while_turns = record {
  nodes =
      node.Target (target.Name (codes "s")) ∷
      node.Expression (expression.Constant (plain.Text [])) ∷
      node.Statement (statement.Assign 0 1) ∷
      node.Target (target.Name (codes "n")) ∷
      node.Expression (expression.Constant (plain.Text (codes "abc"))) ∷
      node.Statement (statement.Assign 3 4) ∷
      node.Expression (expression.Name (codes "n")) ∷
      node.Expression (expression.Name (codes "s")) ∷
      node.Expression (expression.Constant (plain.Text (codes "x"))) ∷
      node.Expression (expression.Compare 7 (record { comparison = comparison.Order cmp.Eq; line = 4; right = 8 } ∷ [])) ∷
      node.Target (target.Name (codes "n")) ∷
      node.Expression (expression.Constant (plain.Text [])) ∷
      node.Statement (statement.Assign 10 11) ∷
      node.Statement (statement.Continue) ∷
      node.Statement (statement.Suite (12 ∷ 13 ∷ [])) ∷
      node.Expression (expression.Name (codes "s")) ∷
      node.Expression (expression.Constant (plain.Text (codes "xx"))) ∷
      node.Expression (expression.Compare 15 (record { comparison = comparison.Order cmp.Eq; line = 7; right = 16 } ∷ [])) ∷
      node.Statement (statement.Break) ∷
      node.Statement (statement.Suite (18 ∷ [])) ∷
      node.Target (target.Name (codes "s")) ∷
      node.Expression (expression.Name (codes "s")) ∷
      node.Expression (expression.Constant (plain.Text (codes "x"))) ∷
      node.Expression (expression.Binary op.Add 21 22) ∷
      node.Statement (statement.Assign 20 23) ∷
      node.Statement (statement.Suite (24 ∷ [])) ∷
      node.Statement (statement.If 17 19 (Some 25)) ∷
      node.Statement (statement.If 9 14 (Some 26)) ∷
      node.Statement (statement.Suite (27 ∷ [])) ∷
      node.Statement (statement.While 6 28) ∷
      node.Expression (expression.Name (codes "t")) ∷
      node.Expression (expression.Constant (plain.Text (codes "out"))) ∷
      node.Statement (statement.Return (Some 31)) ∷
      node.Statement (statement.Suite (32 ∷ [])) ∷
      node.Statement (statement.While 30 33) ∷
      node.Statement (statement.Suite (34 ∷ [])) ∷
      node.Statement (statement.Def 0) ∷
      node.Target (target.Name (codes "o")) ∷
      node.Expression (expression.Name (codes "h")) ∷
      node.Expression (expression.Constant (plain.Text (codes "1"))) ∷
      node.Expression (expression.Call 38 (39 ∷ [])) ∷
      node.Statement (statement.Assign 37 40) ∷
      node.Statement (statement.Suite (2 ∷ 5 ∷ 29 ∷ 36 ∷ 41 ∷ [])) ∷
      [];
  lines = (1 ∷ 1 ∷ 1 ∷ 2 ∷ 2 ∷ 2 ∷ 3 ∷ 4 ∷ 4 ∷ 4 ∷ 5 ∷ 5 ∷ 5 ∷ 6 ∷ 4 ∷ 7 ∷ 7 ∷ 7 ∷ 8 ∷ 7 ∷ 10 ∷ 10 ∷ 10 ∷ 10 ∷ 10 ∷ 9 ∷ 7 ∷ 4 ∷ 3 ∷ 3 ∷ 12 ∷ 13 ∷ 13 ∷ 12 ∷ 12 ∷ 11 ∷ 11 ∷ 14 ∷ 14 ∷ 14 ∷ 14 ∷ 14 ∷ 1 ∷ []);
  root = 42;
  functions =
      record { name = (codes "h"); parameters = ((record { text = (codes "t"); line = 11 }) ∷ []); locals = ((codes "t") ∷ []); free = []; has_inner = false; parent = None; body = 35 } ∷
      [];
  handler_names = [];
  is_expression = false;
}

-- raise ValueError([])
abbrev pub raises_a_list : Program
raises_a_list = record {
  nodes =
      node.Expression (expression.List []) ∷
      node.Statement (statement.RaiseCall (record { text = (codes "ValueError"); line = 1 }) (0 ∷ [])) ∷
      node.Statement (statement.Suite (1 ∷ [])) ∷
      [];
  lines = (1 ∷ 1 ∷ 1 ∷ []);
  root = 2;
  functions = [];
  handler_names = [];
  is_expression = false;
}
