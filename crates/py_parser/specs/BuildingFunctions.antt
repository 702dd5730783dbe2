-- Functions begin behind their parameters and end behind their body.
use Rattle.std.specs.Prelude.{ℕ, List, [], ◌∷◌, ◌++◌, length, codes, slice_get, Option, Some, None, false}
use Rattle.py_ast.specs.declared.expression.Expression.TheVariants as expression
use Rattle.py_ast.specs.declared.name.Name.{Name}
use Rattle.py_ast.specs.declared.program.FunctionInfo.{FunctionInfo}
use Rattle.py_ast.specs.declared.statement.Statement.TheVariants as statement
use Rattle.py_parser.specs.declared.builder.Building.{Building}
use Rattle.py_parser.specs.declared.parts.Tree.{Tree}
use Rattle.py_parser.specs.Building.{stuck, statement_tree, value_tree}
use Rattle.py_parser.specs.BuildingParts.{with_body}

-- A function begins: it has the next number, and is now the innermost.
abbrev pub with_function : List ℕ → List Name → Building → Building
with_function word parameters b = record b {
  functions = b.functions ++ record {
    name = word;
    parameters = parameters;
    locals = [];
    free = [];
    has_inner = false;
    parent = b.function;
    body = 0;
  } ∷ [];
  function = Some (length b.functions);
}

-- The function that ends gets its body, and the one around it is the innermost again.
abbrev pub without_function : ℕ → ℕ → Option FunctionInfo → Building → Building
without_function number body (Some info) b = record b { functions = with_body number body b.functions; function = info.parent }
without_function number body None b = stuck b

abbrev pub begin_lambda : List (List Name) → Building → Building
begin_lambda (parameters ∷ others) b = with_function (codes "<lambda>") parameters (record b { name_lists = others })
begin_lambda [] b = stuck b

abbrev pub end_lambda : Option ℕ → List Tree → List ℕ → Building → Building
end_lambda (Some number) (body ∷ trees) (at ∷ marks) b =
    value_tree (expression.Lambda number) at (without_function number body.number (slice_get b.functions number) (record b { trees = trees; marks = marks }))
end_lambda _ _ _ b = stuck b

abbrev pub begin_def : List (List Name) → List (Option Name) → Building → Building
begin_def (parameters ∷ others) (Some n ∷ names) b = with_function n.text parameters (record b { name_lists = others; names = names })
begin_def _ _ b = stuck b

abbrev pub end_def : Option ℕ → List (Option ℕ) → List ℕ → Building → Building
end_def (Some number) (Some body ∷ suites) (at ∷ marks) b =
    statement_tree (statement.Def number) at (without_function number body (slice_get b.functions number) (record b { suites = suites; marks = marks }))
end_def _ _ _ b = stuck b
