-- The tree of a script, printed by `tree_printer kept_b`.
use Rattle.std.specs.Prelude.{[], ◌∷◌, codes, None, false}
use Rattle.py_ast.specs.declared.program.Program.{Program}
use Rattle.py_ast.specs.declared.builtin.Builtin.TheVariants as builtin
use Rattle.py_ast.specs.declared.expression.Expression.TheVariants as expression
use Rattle.py_ast.specs.declared.node.Node.TheVariants as node
use Rattle.py_ast.specs.declared.statement.Statement.TheVariants as statement
use Rattle.py_ast.specs.declared.target.Target.TheVariants as target
use Rattle.rp_base.specs.declared.plain.Plain.TheVariants as plain

-- kept = None
-- def keep(l):
--     global kept
--     kept = l
-- def show():
--     print(kept)
abbrev pub kept_b : Program
kept_b = record {
  nodes =
      node.Target (target.Name (codes "kept")) ∷
      node.Expression (expression.Constant plain.None) ∷
      node.Statement (statement.Assign 0 1) ∷
      node.Statement (statement.Global ((record { text = (codes "kept"); line = 3 }) ∷ [])) ∷
      node.Target (target.Name (codes "kept")) ∷
      node.Expression (expression.Name (codes "l")) ∷
      node.Statement (statement.Assign 4 5) ∷
      node.Statement (statement.Suite (3 ∷ 6 ∷ [])) ∷
      node.Statement (statement.Def 0) ∷
      node.Expression (expression.Builtin builtin.Print) ∷
      node.Expression (expression.Name (codes "kept")) ∷
      node.Expression (expression.Call 9 (10 ∷ [])) ∷
      node.Statement (statement.Alone 11) ∷
      node.Statement (statement.Suite (12 ∷ [])) ∷
      node.Statement (statement.Def 1) ∷
      node.Statement (statement.Suite (2 ∷ 8 ∷ 14 ∷ [])) ∷
      [];
  lines = (1 ∷ 1 ∷ 1 ∷ 3 ∷ 4 ∷ 4 ∷ 4 ∷ 2 ∷ 2 ∷ 6 ∷ 6 ∷ 6 ∷ 6 ∷ 5 ∷ 5 ∷ 1 ∷ []);
  root = 15;
  functions =
      record { name = (codes "keep"); parameters = ((record { text = (codes "l"); line = 2 }) ∷ []); locals = ((codes "l") ∷ []); free = []; has_inner = false; parent = None; body = 7 } ∷
      record { name = (codes "show"); parameters = []; locals = []; free = []; has_inner = false; parent = None; body = 13 } ∷
      [];
  handler_names = [];
  is_expression = false;
}
