-- The tree of a script, printed by `tree_printer cyclic`.
use Rattle.std.specs.Prelude.{[], ◌∷◌, codes, false}
use Rattle.py_ast.specs.declared.program.Program.{Program}
use Rattle.py_ast.specs.declared.builtin.Builtin.TheVariants as builtin
use Rattle.py_ast.specs.declared.expression.Expression.TheVariants as expression
use Rattle.py_ast.specs.declared.node.Node.TheVariants as node
use Rattle.py_ast.specs.declared.statement.Statement.TheVariants as statement
use Rattle.py_ast.specs.declared.target.Target.TheVariants as target

-- a = []
-- a.append(a)
-- print(a)
abbrev pub cyclic : Program
cyclic = record {
  nodes =
      node.Target (target.Name (codes "a")) ∷
      node.Expression (expression.List []) ∷
      node.Statement (statement.Assign 0 1) ∷
      node.Expression (expression.Name (codes "a")) ∷
      node.Expression (expression.Attribute 3 (codes "append")) ∷
      node.Expression (expression.Name (codes "a")) ∷
      node.Expression (expression.Call 4 (5 ∷ [])) ∷
      node.Statement (statement.Alone 6) ∷
      node.Expression (expression.Builtin builtin.Print) ∷
      node.Expression (expression.Name (codes "a")) ∷
      node.Expression (expression.Call 8 (9 ∷ [])) ∷
      node.Statement (statement.Alone 10) ∷
      node.Statement (statement.Suite (2 ∷ 7 ∷ 11 ∷ [])) ∷
      [];
  lines = (1 ∷ 1 ∷ 1 ∷ 2 ∷ 2 ∷ 2 ∷ 2 ∷ 2 ∷ 3 ∷ 3 ∷ 3 ∷ 3 ∷ 1 ∷ []);
  root = 12;
  functions = [];
  handler_names = [];
  is_expression = false;
}
