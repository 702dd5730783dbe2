-- The tree of a script, printed by `tree_printer back_b`.
use Rattle.std.specs.Prelude.{[], ◌∷◌, codes, Some, None, false}
use Rattle.py_ast.specs.declared.program.Program.{Program}
use Rattle.py_ast.specs.declared.expression.Expression.TheVariants as expression
use Rattle.py_ast.specs.declared.node.Node.TheVariants as node
use Rattle.py_ast.specs.declared.statement.Statement.TheVariants as statement

-- def back(t): return t
abbrev pub back_b : Program
back_b = record {
  nodes =
      node.Expression (expression.Name (codes "t")) ∷
      node.Statement (statement.Return (Some 0)) ∷
      node.Statement (statement.Suite (1 ∷ [])) ∷
      node.Statement (statement.Def 0) ∷
      node.Statement (statement.Suite (3 ∷ [])) ∷
      [];
  lines = (1 ∷ 1 ∷ 1 ∷ 1 ∷ 1 ∷ []);
  root = 4;
  functions =
      record { name = (codes "back"); parameters = ((record { text = (codes "t"); line = 1 }) ∷ []); locals = ((codes "t") ∷ []); free = []; has_inner = false; parent = None; body = 2 } ∷
      [];
  handler_names = [];
  is_expression = false;
}
