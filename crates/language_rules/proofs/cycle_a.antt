-- The tree of a script, printed by `tree_printer cycle_a`.
use Rattle.std.specs.Prelude.{[], ◌∷◌, codes, false}
use Rattle.py_ast.specs.declared.program.Program.{Program}
use Rattle.py_ast.specs.declared.builtin.Builtin.TheVariants as builtin
use Rattle.py_ast.specs.declared.expression.Expression.TheVariants as expression
use Rattle.py_ast.specs.declared.node.Node.TheVariants as node
use Rattle.py_ast.specs.declared.statement.Statement.TheVariants as statement
use Rattle.py_ast.specs.declared.target.Target.TheVariants as target
use Rattle.rp_base.specs.declared.plain.Plain.TheVariants as plain

-- a = [conn.namespace["b"]]
-- conn.namespace["b"].append(a)
-- print(a)
abbrev pub cycle_a : Program
cycle_a = record {
  nodes =
      node.Target (target.Name (codes "a")) ∷
      node.Expression (expression.Name (codes "conn")) ∷
      node.Expression (expression.Attribute 1 (codes "namespace")) ∷
      node.Expression (expression.Constant (plain.Text (codes "b"))) ∷
      node.Expression (expression.Item 2 3) ∷
      node.Expression (expression.List (4 ∷ [])) ∷
      node.Statement (statement.Assign 0 5) ∷
      node.Expression (expression.Name (codes "conn")) ∷
      node.Expression (expression.Attribute 7 (codes "namespace")) ∷
      node.Expression (expression.Constant (plain.Text (codes "b"))) ∷
      node.Expression (expression.Item 8 9) ∷
      node.Expression (expression.Attribute 10 (codes "append")) ∷
      node.Expression (expression.Name (codes "a")) ∷
      node.Expression (expression.Call 11 (12 ∷ [])) ∷
      node.Statement (statement.Alone 13) ∷
      node.Expression (expression.Builtin builtin.Print) ∷
      node.Expression (expression.Name (codes "a")) ∷
      node.Expression (expression.Call 15 (16 ∷ [])) ∷
      node.Statement (statement.Alone 17) ∷
      node.Statement (statement.Suite (6 ∷ 14 ∷ 18 ∷ [])) ∷
      [];
  lines = (1 ∷ 1 ∷ 1 ∷ 1 ∷ 1 ∷ 1 ∷ 1 ∷ 2 ∷ 2 ∷ 2 ∷ 2 ∷ 2 ∷ 2 ∷ 2 ∷ 2 ∷ 3 ∷ 3 ∷ 3 ∷ 3 ∷ 1 ∷ []);
  root = 19;
  functions = [];
  handler_names = [];
  is_expression = false;
}
