-- The tree of a script, printed by `tree_printer searched_while_it_grows`.
use Rattle.std.specs.Prelude.{[], ◌∷◌, codes, pos, Some, None, false}
use Rattle.py_ast.specs.declared.program.Program.{Program}
use Rattle.py_ast.specs.declared.builtin.Builtin.TheVariants as builtin
use Rattle.py_ast.specs.declared.expression.Comparison.TheVariants as comparison
use Rattle.py_ast.specs.declared.expression.Expression.TheVariants as expression
use Rattle.py_ast.specs.declared.node.Node.TheVariants as node
use Rattle.py_ast.specs.declared.statement.Statement.TheVariants as statement
use Rattle.py_ast.specs.declared.target.Target.TheVariants as target
use Rattle.rp_base.specs.declared.plain.Plain.TheVariants as plain

-- class K:
--     def __eq__(self, other):
--         d[3] = 7
--         return False
-- d = {1: K(), 2: 7}
-- print(5 in d.values())
abbrev pub searched_while_it_grows : Program
searched_while_it_grows = record {
  nodes =
      node.Expression (expression.Name (codes "d")) ∷
      node.Expression (expression.Constant (plain.Int (pos 3))) ∷
      node.Target (target.Item 0 1) ∷
      node.Expression (expression.Constant (plain.Int (pos 7))) ∷
      node.Statement (statement.Assign 2 3) ∷
      node.Expression (expression.Constant (plain.Bool false)) ∷
      node.Statement (statement.Return (Some 5)) ∷
      node.Statement (statement.Suite (4 ∷ 6 ∷ [])) ∷
      node.Statement (statement.Def 0) ∷
      node.Statement (statement.Suite (8 ∷ [])) ∷
      node.Statement (statement.Class (record { text = (codes "K"); line = 1 }) None 9) ∷
      node.Target (target.Name (codes "d")) ∷
      node.Expression (expression.Constant (plain.Int (pos 1))) ∷
      node.Expression (expression.Name (codes "K")) ∷
      node.Expression (expression.Call 13 []) ∷
      node.Expression (expression.Constant (plain.Int (pos 2))) ∷
      node.Expression (expression.Constant (plain.Int (pos 7))) ∷
      node.Expression (expression.Dict (12 ∷ 14 ∷ 15 ∷ 16 ∷ [])) ∷
      node.Statement (statement.Assign 11 17) ∷
      node.Expression (expression.Builtin builtin.Print) ∷
      node.Expression (expression.Constant (plain.Int (pos 5))) ∷
      node.Expression (expression.Name (codes "d")) ∷
      node.Expression (expression.Attribute 21 (codes "values")) ∷
      node.Expression (expression.Call 22 []) ∷
      node.Expression (expression.Compare 20 (record { comparison = comparison.In; line = 6; right = 23 } ∷ [])) ∷
      node.Expression (expression.Call 19 (24 ∷ [])) ∷
      node.Statement (statement.Alone 25) ∷
      node.Statement (statement.Suite (10 ∷ 18 ∷ 26 ∷ [])) ∷
      [];
  lines = (3 ∷ 3 ∷ 3 ∷ 3 ∷ 3 ∷ 4 ∷ 4 ∷ 2 ∷ 2 ∷ 1 ∷ 1 ∷ 5 ∷ 5 ∷ 5 ∷ 5 ∷ 5 ∷ 5 ∷ 5 ∷ 5 ∷ 6 ∷ 6 ∷ 6 ∷ 6 ∷ 6 ∷ 6 ∷ 6 ∷ 6 ∷ 1 ∷ []);
  root = 27;
  functions =
      record { name = (codes "__eq__"); parameters = ((record { text = (codes "self"); line = 2 }) ∷ (record { text = (codes "other"); line = 2 }) ∷ []); locals = ((codes "self") ∷ (codes "other") ∷ []); free = []; has_inner = false; parent = None; body = 7 } ∷
      [];
  handler_names = [];
  is_expression = false;
}
