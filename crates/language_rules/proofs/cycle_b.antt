-- The tree of a script, printed by `tree_printer cycle_b`.
use Rattle.std.specs.Prelude.{[], ◌∷◌, codes, false}
use Rattle.py_ast.specs.declared.program.Program.{Program}
use Rattle.py_ast.specs.declared.expression.Expression.TheVariants as expression
use Rattle.py_ast.specs.declared.node.Node.TheVariants as node
use Rattle.py_ast.specs.declared.statement.Statement.TheVariants as statement
use Rattle.py_ast.specs.declared.target.Target.TheVariants as target

-- b = []
abbrev pub cycle_b : Program
cycle_b = record {
  nodes =
      node.Target (target.Name (codes "b")) ∷
      node.Expression (expression.List []) ∷
      node.Statement (statement.Assign 0 1) ∷
      node.Statement (statement.Suite (2 ∷ [])) ∷
      [];
  lines = (1 ∷ 1 ∷ 1 ∷ 1 ∷ []);
  root = 3;
  functions = [];
  handler_names = [];
  is_expression = false;
}
