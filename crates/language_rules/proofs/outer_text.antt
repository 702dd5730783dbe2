-- The tree of a script, printed by `tree_printer outer_text`.
use Rattle.std.specs.Prelude.{[], ◌∷◌, codes, pos, Some, None, false}
use Rattle.py_ast.specs.declared.program.Program.{Program}
use Rattle.py_ast.specs.declared.builtin.Builtin.TheVariants as builtin
use Rattle.py_ast.specs.declared.expression.Expression.TheVariants as expression
use Rattle.py_ast.specs.declared.node.Node.TheVariants as node
use Rattle.py_ast.specs.declared.statement.Statement.TheVariants as statement
use Rattle.rp_base.specs.declared.plain.Plain.TheVariants as plain

-- try:
--     [][0]
-- except IndexError as e:
--     f()
--     print(str(e))
abbrev pub outer_text : Program
outer_text = record {
  nodes =
      node.Expression (expression.List []) ∷
      node.Expression (expression.Constant (plain.Int (pos 0))) ∷
      node.Expression (expression.Item 0 1) ∷
      node.Statement (statement.Alone 2) ∷
      node.Statement (statement.Suite (3 ∷ [])) ∷
      node.Expression (expression.Name (codes "f")) ∷
      node.Expression (expression.Call 5 []) ∷
      node.Statement (statement.Alone 6) ∷
      node.Expression (expression.Builtin builtin.Print) ∷
      node.Expression (expression.Builtin builtin.Str) ∷
      node.Expression (expression.Name (codes "e")) ∷
      node.Expression (expression.Call 9 (10 ∷ [])) ∷
      node.Expression (expression.Call 8 (11 ∷ [])) ∷
      node.Statement (statement.Alone 12) ∷
      node.Statement (statement.Suite (7 ∷ 13 ∷ [])) ∷
      node.Statement (statement.Except ((record { text = (codes "IndexError"); line = 3 }) ∷ []) (Some (record { text = (codes "e"); line = 3 })) 14) ∷
      node.Statement (statement.Try 4 (15 ∷ []) None) ∷
      node.Statement (statement.Suite (16 ∷ [])) ∷
      [];
  lines = (2 ∷ 2 ∷ 2 ∷ 2 ∷ 1 ∷ 4 ∷ 4 ∷ 4 ∷ 5 ∷ 5 ∷ 5 ∷ 5 ∷ 5 ∷ 5 ∷ 3 ∷ 3 ∷ 1 ∷ 1 ∷ []);
  root = 17;
  functions = [];
  handler_names = ((codes "e") ∷ []);
  is_expression = false;
}
