-- The tree of a script, printed by `tree_printer runs_inside`.
use Rattle.std.specs.Prelude.{[], ◌∷◌, codes, None, false}
use Rattle.py_ast.specs.declared.program.Program.{Program}
use Rattle.py_ast.specs.declared.expression.Expression.TheVariants as expression
use Rattle.py_ast.specs.declared.node.Node.TheVariants as node
use Rattle.py_ast.specs.declared.statement.Statement.TheVariants as statement
use Rattle.py_ast.specs.declared.target.Target.TheVariants as target
use Rattle.rp_base.specs.declared.plain.Plain.TheVariants as plain

-- def f():
--     conn.execute("inner")
-- conn.namespace["f"] = f
-- conn.execute("outer")
abbrev pub runs_inside : Program
runs_inside = record {
  nodes =
      node.Expression (expression.Name (codes "conn")) ∷
      node.Expression (expression.Attribute 0 (codes "execute")) ∷
      node.Expression (expression.Constant (plain.Text (codes "inner"))) ∷
      node.Expression (expression.Call 1 (2 ∷ [])) ∷
      node.Statement (statement.Alone 3) ∷
      node.Statement (statement.Suite (4 ∷ [])) ∷
      node.Statement (statement.Def 0) ∷
      node.Expression (expression.Name (codes "conn")) ∷
      node.Expression (expression.Attribute 7 (codes "namespace")) ∷
      node.Expression (expression.Constant (plain.Text (codes "f"))) ∷
      node.Target (target.Item 8 9) ∷
      node.Expression (expression.Name (codes "f")) ∷
      node.Statement (statement.Assign 10 11) ∷
      node.Expression (expression.Name (codes "conn")) ∷
      node.Expression (expression.Attribute 13 (codes "execute")) ∷
      node.Expression (expression.Constant (plain.Text (codes "outer"))) ∷
      node.Expression (expression.Call 14 (15 ∷ [])) ∷
      node.Statement (statement.Alone 16) ∷
      node.Statement (statement.Suite (6 ∷ 12 ∷ 17 ∷ [])) ∷
      [];
  lines = (2 ∷ 2 ∷ 2 ∷ 2 ∷ 2 ∷ 1 ∷ 1 ∷ 3 ∷ 3 ∷ 3 ∷ 3 ∷ 3 ∷ 3 ∷ 4 ∷ 4 ∷ 4 ∷ 4 ∷ 4 ∷ 1 ∷ []);
  root = 18;
  functions =
      record { name = (codes "f"); parameters = []; locals = []; free = []; has_inner = false; parent = None; body = 5 } ∷
      [];
  handler_names = [];
  is_expression = false;
}
