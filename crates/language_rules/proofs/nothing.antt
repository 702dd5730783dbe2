-- The tree of a script, printed by `tree_printer nothing`.
use Rattle.std.specs.Prelude.{[], ◌∷◌, false}
use Rattle.py_ast.specs.declared.program.Program.{Program}
use Rattle.py_ast.specs.declared.node.Node.TheVariants as node
use Rattle.py_ast.specs.declared.statement.Statement.TheVariants as statement

abbrev pub nothing : Program
nothing = record {
  nodes =
      node.Statement (statement.Suite []) ∷
      [];
  lines = (1 ∷ []);
  root = 0;
  functions = [];
  handler_names = [];
  is_expression = false;
}
