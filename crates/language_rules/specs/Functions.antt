-- Calls of a script's functions (Python Language Reference, "Calls", "Function definitions").
use Rattle.std.specs.Prelude.{ℕ, ◌==◌, List, [], ◌∷◌, codes, length, Option, Some, if◌then◌else◌}
use Rattle.rp_base.specs.declared.value.Value.{Value}
use Rattle.py_ast.specs.declared.name.Name.{Name}
use Rattle.py_ast.specs.declared.node.Node.{Node}
use Rattle.py_ast.specs.declared.node.Node.TheVariants as node
use Rattle.py_ast.specs.declared.program.FunctionInfo.{FunctionInfo}
use Rattle.py_ast.specs.declared.statement.Statement.TheVariants as statement
use Rattle.py_store.specs.declared.cell.Binding.{Binding}
use Rattle.py_store.specs.declared.cell.Cell.TheVariants as cell
use Rattle.side_trees.specs.Trees.{Return, bind}
use Rattle.language_rules.specs.Codes.{Env, Completion, Gives, Returns}
use Rattle.language_rules.specs.Going.{RuleTree, nowhere, type_error, looks, sets_cell, makes, evaluates, executes_all}
use Rattle.language_rules.specs.Texts.{node_at, on_function}

-- what runs at a number: the statements of a suite, or an expression
abbrev pub runs_node : Env → ℕ → Option Node → RuleTree
runs_node env number (Some (node.Statement (statement.Suite statements))) = executes_all env statements
runs_node env number (Some (node.Expression e)) = evaluates env number (λ v. Return (Gives v))
runs_node env number _ = nowhere

-- the body of a function, or the root of a text
abbrev pub runs_body : Env → ℕ → RuleTree
runs_body env number = looks (λ s. runs_node env number (node_at s env number))

-- the parameters with their arguments
abbrev pub parameters_bound : List Name → List Value → List Binding
parameters_bound (p ∷ ps) (v ∷ vs) = record { name = p.text; value = v } ∷ parameters_bound ps vs
parameters_bound _ _ = []

-- the value of a call is that of a `return`; of a lambda that of its expression; else None
abbrev pub returned : Completion → Completion
returned (Returns v) = Gives v
returned a = a

-- Where no function stands inside, nothing can read the variables after the call, and the scope is emptied, by whatever end.
abbrev pub ends_call : FunctionInfo → ℕ → ℕ → Completion → RuleTree
ends_call info scope parent a = if info.has_inner then Return (returned a) else sets_cell scope (cell.Scope [] parent) (Return (returned a))

-- the number of arguments is judged before the scope is made
abbrev pub runs_function : ℕ → ℕ → ℕ → List Value → FunctionInfo → RuleTree
runs_function text function parent arguments info =
    if length info.parameters == length arguments
    then makes (cell.Scope (parameters_bound info.parameters arguments) parent) (λ scope.
    bind (runs_body (record { text = text; function = Some function; scope = scope }) info.body) (ends_call info scope parent))
    else type_error (codes "wrong number of arguments")

-- The function of this number in this text, made in the scope `parent`: there must be as many arguments as parameters, and the call has a scope of its own.
abbrev pub calls_function : ℕ → ℕ → ℕ → List Value → RuleTree
calls_function text function parent arguments = on_function text function (runs_function text function parent arguments)
