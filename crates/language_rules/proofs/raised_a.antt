-- The tree of a script, printed by `tree_printer raised_a`.
use Rattle.std.specs.Prelude.{[], ◌∷◌, codes, Some, None, false}
use Rattle.py_ast.specs.declared.program.Program.{Program}
use Rattle.py_ast.specs.declared.builtin.Builtin.TheVariants as builtin
use Rattle.py_ast.specs.declared.expression.Expression.TheVariants as expression
use Rattle.py_ast.specs.declared.node.Node.TheVariants as node
use Rattle.py_ast.specs.declared.statement.Statement.TheVariants as statement
use Rattle.py_ast.specs.declared.target.Target.TheVariants as target
use Rattle.rp_base.specs.declared.plain.Plain.TheVariants as plain

-- for name in ["miss", "far", "stop"]:
--     try:
--         conn.namespace[name]()
--     except KeyError as e:
--         print("key", e.args, str(e))
--     except IndexError as e:
--         print("index", str(e))
--     except StopIteration as e:
--         print("stop", e.args)
abbrev pub raised_a : Program
raised_a = record {
  nodes =
      node.Target (target.Name (codes "name")) ∷
      node.Expression (expression.Constant (plain.Text (codes "miss"))) ∷
      node.Expression (expression.Constant (plain.Text (codes "far"))) ∷
      node.Expression (expression.Constant (plain.Text (codes "stop"))) ∷
      node.Expression (expression.List (1 ∷ 2 ∷ 3 ∷ [])) ∷
      node.Expression (expression.Name (codes "conn")) ∷
      node.Expression (expression.Attribute 5 (codes "namespace")) ∷
      node.Expression (expression.Name (codes "name")) ∷
      node.Expression (expression.Item 6 7) ∷
      node.Expression (expression.Call 8 []) ∷
      node.Statement (statement.Alone 9) ∷
      node.Statement (statement.Suite (10 ∷ [])) ∷
      node.Expression (expression.Builtin builtin.Print) ∷
      node.Expression (expression.Constant (plain.Text (codes "key"))) ∷
      node.Expression (expression.Name (codes "e")) ∷
      node.Expression (expression.Attribute 14 (codes "args")) ∷
      node.Expression (expression.Builtin builtin.Str) ∷
      node.Expression (expression.Name (codes "e")) ∷
      node.Expression (expression.Call 16 (17 ∷ [])) ∷
      node.Expression (expression.Call 12 (13 ∷ 15 ∷ 18 ∷ [])) ∷
      node.Statement (statement.Alone 19) ∷
      node.Statement (statement.Suite (20 ∷ [])) ∷
      node.Statement (statement.Except ((record { text = (codes "KeyError"); line = 4 }) ∷ []) (Some (record { text = (codes "e"); line = 4 })) 21) ∷
      node.Expression (expression.Builtin builtin.Print) ∷
      node.Expression (expression.Constant (plain.Text (codes "index"))) ∷
      node.Expression (expression.Builtin builtin.Str) ∷
      node.Expression (expression.Name (codes "e")) ∷
      node.Expression (expression.Call 25 (26 ∷ [])) ∷
      node.Expression (expression.Call 23 (24 ∷ 27 ∷ [])) ∷
      node.Statement (statement.Alone 28) ∷
      node.Statement (statement.Suite (29 ∷ [])) ∷
      node.Statement (statement.Except ((record { text = (codes "IndexError"); line = 6 }) ∷ []) (Some (record { text = (codes "e"); line = 6 })) 30) ∷
      node.Expression (expression.Builtin builtin.Print) ∷
      node.Expression (expression.Constant (plain.Text (codes "stop"))) ∷
      node.Expression (expression.Name (codes "e")) ∷
      node.Expression (expression.Attribute 34 (codes "args")) ∷
      node.Expression (expression.Call 32 (33 ∷ 35 ∷ [])) ∷
      node.Statement (statement.Alone 36) ∷
      node.Statement (statement.Suite (37 ∷ [])) ∷
      node.Statement (statement.Except ((record { text = (codes "StopIteration"); line = 8 }) ∷ []) (Some (record { text = (codes "e"); line = 8 })) 38) ∷
      node.Statement (statement.Try 11 (22 ∷ 31 ∷ 39 ∷ []) None) ∷
      node.Statement (statement.Suite (40 ∷ [])) ∷
      node.Statement (statement.For 0 4 41) ∷
      node.Statement (statement.Suite (42 ∷ [])) ∷
      [];
  lines = (1 ∷ 1 ∷ 1 ∷ 1 ∷ 1 ∷ 3 ∷ 3 ∷ 3 ∷ 3 ∷ 3 ∷ 3 ∷ 2 ∷ 5 ∷ 5 ∷ 5 ∷ 5 ∷ 5 ∷ 5 ∷ 5 ∷ 5 ∷ 5 ∷ 4 ∷ 4 ∷ 7 ∷ 7 ∷ 7 ∷ 7 ∷ 7 ∷ 7 ∷ 7 ∷ 6 ∷ 6 ∷ 9 ∷ 9 ∷ 9 ∷ 9 ∷ 9 ∷ 9 ∷ 8 ∷ 8 ∷ 2 ∷ 1 ∷ 1 ∷ 1 ∷ []);
  root = 43;
  functions = [];
  handler_names = ((codes "e") ∷ []);
  is_expression = false;
}
