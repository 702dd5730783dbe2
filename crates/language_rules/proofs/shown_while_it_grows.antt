-- The tree of a script, printed by `tree_printer shown_while_it_grows`.
use Rattle.std.specs.Prelude.{[], ◌∷◌, codes, pos, Some, None, false}
use Rattle.py_ast.specs.declared.program.Program.{Program}
use Rattle.py_ast.specs.declared.builtin.Builtin.TheVariants as builtin
use Rattle.py_ast.specs.declared.expression.Expression.TheVariants as expression
use Rattle.py_ast.specs.declared.node.Node.TheVariants as node
use Rattle.py_ast.specs.declared.statement.Statement.TheVariants as statement
use Rattle.py_ast.specs.declared.target.Target.TheVariants as target
use Rattle.rp_base.specs.declared.plain.Plain.TheVariants as plain

-- class K:
--     def __repr__(self):
--         d[9] = 1
--         return "k"
-- d = {1: K()}
-- print(d)
abbrev pub shown_while_it_grows : Program
shown_while_it_grows = record {
  nodes =
      node.Expression (expression.Name (codes "d")) ∷
      node.Expression (expression.Constant (plain.Int (pos 9))) ∷
      node.Target (target.Item 0 1) ∷
      node.Expression (expression.Constant (plain.Int (pos 1))) ∷
      node.Statement (statement.Assign 2 3) ∷
      node.Expression (expression.Constant (plain.Text (codes "k"))) ∷
      node.Statement (statement.Return (Some 5)) ∷
      node.Statement (statement.Suite (4 ∷ 6 ∷ [])) ∷
      node.Statement (statement.Def 0) ∷
      node.Statement (statement.Suite (8 ∷ [])) ∷
      node.Statement (statement.Class (record { text = (codes "K"); line = 1 }) None 9) ∷
      node.Target (target.Name (codes "d")) ∷
      node.Expression (expression.Constant (plain.Int (pos 1))) ∷
      node.Expression (expression.Name (codes "K")) ∷
      node.Expression (expression.Call 13 []) ∷
      node.Expression (expression.Dict (12 ∷ 14 ∷ [])) ∷
      node.Statement (statement.Assign 11 15) ∷
      node.Expression (expression.Builtin builtin.Print) ∷
      node.Expression (expression.Name (codes "d")) ∷
      node.Expression (expression.Call 17 (18 ∷ [])) ∷
      node.Statement (statement.Alone 19) ∷
      node.Statement (statement.Suite (10 ∷ 16 ∷ 20 ∷ [])) ∷
      [];
  lines = (3 ∷ 3 ∷ 3 ∷ 3 ∷ 3 ∷ 4 ∷ 4 ∷ 2 ∷ 2 ∷ 1 ∷ 1 ∷ 5 ∷ 5 ∷ 5 ∷ 5 ∷ 5 ∷ 5 ∷ 6 ∷ 6 ∷ 6 ∷ 6 ∷ 1 ∷ []);
  root = 21;
  functions =
      record { name = (codes "__repr__"); parameters = ((record { text = (codes "self"); line = 2 }) ∷ []); locals = ((codes "self") ∷ []); free = []; has_inner = false; parent = None; body = 7 } ∷
      [];
  handler_names = [];
  is_expression = false;
}
