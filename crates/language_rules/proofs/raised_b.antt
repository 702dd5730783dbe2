-- The tree of a script, printed by `tree_printer raised_b`.
use Rattle.std.specs.Prelude.{[], ◌∷◌, codes, pos, Some, None, false}
use Rattle.py_ast.specs.declared.program.Program.{Program}
use Rattle.py_ast.specs.declared.expression.Expression.TheVariants as expression
use Rattle.py_ast.specs.declared.node.Node.TheVariants as node
use Rattle.py_ast.specs.declared.statement.Statement.TheVariants as statement
use Rattle.rp_base.specs.declared.plain.Plain.TheVariants as plain

-- def miss():
--     return {}["k"]
-- def far():
--     return [1][5]
-- def stop():
--     raise StopIteration
abbrev pub raised_b : Program
raised_b = record {
  nodes =
      node.Expression (expression.Dict []) ∷
      node.Expression (expression.Constant (plain.Text (codes "k"))) ∷
      node.Expression (expression.Item 0 1) ∷
      node.Statement (statement.Return (Some 2)) ∷
      node.Statement (statement.Suite (3 ∷ [])) ∷
      node.Statement (statement.Def 0) ∷
      node.Expression (expression.Constant (plain.Int (pos 1))) ∷
      node.Expression (expression.List (6 ∷ [])) ∷
      node.Expression (expression.Constant (plain.Int (pos 5))) ∷
      node.Expression (expression.Item 7 8) ∷
      node.Statement (statement.Return (Some 9)) ∷
      node.Statement (statement.Suite (10 ∷ [])) ∷
      node.Statement (statement.Def 1) ∷
      node.Statement (statement.RaiseName (record { text = (codes "StopIteration"); line = 6 })) ∷
      node.Statement (statement.Suite (13 ∷ [])) ∷
      node.Statement (statement.Def 2) ∷
      node.Statement (statement.Suite (5 ∷ 12 ∷ 15 ∷ [])) ∷
      [];
  lines = (2 ∷ 2 ∷ 2 ∷ 2 ∷ 1 ∷ 1 ∷ 4 ∷ 4 ∷ 4 ∷ 4 ∷ 4 ∷ 3 ∷ 3 ∷ 6 ∷ 5 ∷ 5 ∷ 1 ∷ []);
  root = 16;
  functions =
      record { name = (codes "miss"); parameters = []; locals = []; free = []; has_inner = false; parent = None; body = 4 } ∷
      record { name = (codes "far"); parameters = []; locals = []; free = []; has_inner = false; parent = None; body = 11 } ∷
      record { name = (codes "stop"); parameters = []; locals = []; free = []; has_inner = false; parent = None; body = 14 } ∷
      [];
  handler_names = [];
  is_expression = false;
}
