-- The scripts of a pair in which each side handles an exception while the other calls it, as trees.
use Rattle.std.specs.Prelude.{None, Some, [], codes, false, ◌∷◌}
use Rattle.py_ast.specs.declared.builtin.Builtin.TheVariants as builtin
use Rattle.py_ast.specs.declared.expression.Expression.TheVariants as expression
use Rattle.py_ast.specs.declared.node.Node.TheVariants as node
use Rattle.py_ast.specs.declared.program.Program.{Program}
use Rattle.py_ast.specs.declared.statement.Statement.TheVariants as statement
use Rattle.py_ast.specs.declared.target.Target.TheVariants as target
use Rattle.rp_base.specs.declared.plain.Plain.TheVariants as plain

-- def f(g):
--     try:
--         return g("x")
--     except KeyError as e:
--         return str(e)
abbrev pub calls_back : Program
calls_back = record {
  nodes =
      node.Expression (expression.Name (codes "g")) ∷
      node.Expression (expression.Constant (plain.Text (codes "x"))) ∷
      node.Expression (expression.Call 0 (1 ∷ [])) ∷
      node.Statement (statement.Return (Some 2)) ∷
      node.Statement (statement.Suite (3 ∷ [])) ∷
      node.Expression (expression.Builtin builtin.Str) ∷
      node.Expression (expression.Name (codes "e")) ∷
      node.Expression (expression.Call 5 (6 ∷ [])) ∷
      node.Statement (statement.Return (Some 7)) ∷
      node.Statement (statement.Suite (8 ∷ [])) ∷
      node.Statement (statement.Except ((record { text = (codes "KeyError"); line = 4 }) ∷ []) (Some (record { text = (codes "e"); line = 4 })) 9) ∷
      node.Statement (statement.Try 4 (10 ∷ []) None) ∷
      node.Statement (statement.Suite (11 ∷ [])) ∷
      node.Statement (statement.Def 0) ∷
      node.Statement (statement.Suite (13 ∷ [])) ∷
      [];
  lines = (3 ∷ 3 ∷ 3 ∷ 3 ∷ 2 ∷ 5 ∷ 5 ∷ 5 ∷ 5 ∷ 4 ∷ 4 ∷ 2 ∷ 1 ∷ 1 ∷ 1 ∷ []);
  root = 14;
  functions =
      record { name = (codes "f"); parameters = ((record { text = (codes "g"); line = 1 }) ∷ []); locals = ((codes "g") ∷ []); free = []; has_inner = false; parent = None; body = 12 } ∷
      [];
  handler_names = ((codes "e") ∷ []);
  is_expression = false;
}

-- def g(x):
--     try:
--         raise ValueError(x)
--     except ValueError as e:
--         t = str(e)
--     raise KeyError(t)
-- try:
--     raise IndexError("outer")
-- except IndexError as e:
--     r = conn.namespace["f"](g)
--     print(r, str(e))
abbrev pub is_called_back : Program
is_called_back = record {
  nodes =
      node.Expression (expression.Name (codes "x")) ∷
      node.Statement (statement.RaiseCall (record { text = (codes "ValueError"); line = 3 }) (0 ∷ [])) ∷
      node.Statement (statement.Suite (1 ∷ [])) ∷
      node.Target (target.Name (codes "t")) ∷
      node.Expression (expression.Builtin builtin.Str) ∷
      node.Expression (expression.Name (codes "e")) ∷
      node.Expression (expression.Call 4 (5 ∷ [])) ∷
      node.Statement (statement.Assign 3 6) ∷
      node.Statement (statement.Suite (7 ∷ [])) ∷
      node.Statement (statement.Except ((record { text = (codes "ValueError"); line = 4 }) ∷ []) (Some (record { text = (codes "e"); line = 4 })) 8) ∷
      node.Statement (statement.Try 2 (9 ∷ []) None) ∷
      node.Expression (expression.Name (codes "t")) ∷
      node.Statement (statement.RaiseCall (record { text = (codes "KeyError"); line = 6 }) (11 ∷ [])) ∷
      node.Statement (statement.Suite (10 ∷ 12 ∷ [])) ∷
      node.Statement (statement.Def 0) ∷
      node.Expression (expression.Constant (plain.Text (codes "outer"))) ∷
      node.Statement (statement.RaiseCall (record { text = (codes "IndexError"); line = 8 }) (15 ∷ [])) ∷
      node.Statement (statement.Suite (16 ∷ [])) ∷
      node.Target (target.Name (codes "r")) ∷
      node.Expression (expression.Name (codes "conn")) ∷
      node.Expression (expression.Attribute 19 (codes "namespace")) ∷
      node.Expression (expression.Constant (plain.Text (codes "f"))) ∷
      node.Expression (expression.Item 20 21) ∷
      node.Expression (expression.Name (codes "g")) ∷
      node.Expression (expression.Call 22 (23 ∷ [])) ∷
      node.Statement (statement.Assign 18 24) ∷
      node.Expression (expression.Builtin builtin.Print) ∷
      node.Expression (expression.Name (codes "r")) ∷
      node.Expression (expression.Builtin builtin.Str) ∷
      node.Expression (expression.Name (codes "e")) ∷
      node.Expression (expression.Call 28 (29 ∷ [])) ∷
      node.Expression (expression.Call 26 (27 ∷ 30 ∷ [])) ∷
      node.Statement (statement.Alone 31) ∷
      node.Statement (statement.Suite (25 ∷ 32 ∷ [])) ∷
      node.Statement (statement.Except ((record { text = (codes "IndexError"); line = 9 }) ∷ []) (Some (record { text = (codes "e"); line = 9 })) 33) ∷
      node.Statement (statement.Try 17 (34 ∷ []) None) ∷
      node.Statement (statement.Suite (14 ∷ 35 ∷ [])) ∷
      [];
  lines = (3 ∷ 3 ∷ 2 ∷ 5 ∷ 5 ∷ 5 ∷ 5 ∷ 5 ∷ 4 ∷ 4 ∷ 2 ∷ 6 ∷ 6 ∷ 1 ∷ 1 ∷ 8 ∷ 8 ∷ 7 ∷ 10 ∷ 10 ∷ 10 ∷ 10 ∷ 10 ∷ 10 ∷ 10 ∷ 10 ∷ 11 ∷ 11 ∷ 11 ∷ 11 ∷ 11 ∷ 11 ∷ 11 ∷ 9 ∷ 9 ∷ 7 ∷ 1 ∷ []);
  root = 36;
  functions =
      record { name = (codes "g"); parameters = ((record { text = (codes "x"); line = 1 }) ∷ []); locals = ((codes "x") ∷ (codes "t") ∷ []); free = []; has_inner = false; parent = None; body = 13 } ∷
      [];
  handler_names = ((codes "e") ∷ []);
  is_expression = false;
}
