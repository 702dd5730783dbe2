-- Methods of the root: texts that are run in the namespace, and the modules that the program around the side offers (RPyC's `SlaveService`).
use Rattle.std.specs.Prelude.{ℕ, ◌+◌, List, [], ◌∷◌, position, codes, Option, Some, None}
use Rattle.std.specs.Str.{bytes_eq}
use Rattle.rp_base.specs.declared.exceptions.Beyond.TheVariants as beyond
use Rattle.rp_base.specs.declared.exceptions.ExcKind.TheVariants as exception
use Rattle.rp_base.specs.declared.plain.Plain.TheVariants as plain
use Rattle.rp_base.specs.declared.value.Value.{Value}
use Rattle.rp_base.specs.declared.value.Value.TheVariants as value
use Rattle.py_ast.specs.declared.program.Program.{Program}
use Rattle.object_operations.specs.declared.method.BuiltinMethod.{BuiltinMethod}
use Rattle.object_operations.specs.declared.method.BuiltinMethod.TheVariants as method
use Rattle.py_store.specs.declared.cell.Cell.{Cell}
use Rattle.py_store.specs.declared.cell.Cell.TheVariants as cell
use Rattle.host_api.specs.Modules.{Module}
use Rattle.side_trees.specs.Trees.{Stop}
use Rattle.language_rules.specs.Answers.{gives}
use Rattle.language_rules.specs.Going.{RuleTree, nowhere, fails, type_error, looks, reads_cell}
use Rattle.language_rules.specs.Programs.{begins_text}
use Rattle.language_rules.specs.States.{first_module_number}

-- a text runs where it is accepted
abbrev pub begins : Option Program → RuleTree
begins (Some p) = begins_text p
begins None = Stop beyond.Text

-- the first module of a name, by its place
abbrev pub module_place : List ℕ → List Module → Option ℕ
module_place name modules = position (λ m. bytes_eq name m.name) modules

-- the cell of a module
abbrev pub gives_host : ℕ → Cell → RuleTree
gives_host n (cell.Host host) = gives (value.Own n)
gives_host n _ = nowhere

-- the module at a place, or the exception of a name that no module has
abbrev pub gives_module : List ℕ → Option ℕ → RuleTree
gives_module name (Some place) = reads_cell (first_module_number + place) (gives_host (first_module_number + place))
gives_module name None = fails exception.ModuleNotFoundError name

-- each takes one text
abbrev pub root_method : BuiltinMethod → List Value → RuleTree
root_method method.Eval (value.Plain (plain.Text t) ∷ []) = looks (λ s. begins (s.reads_expression t))
root_method method.Execute (value.Plain (plain.Text t) ∷ []) = looks (λ s. begins (s.reads_script t))
root_method method.GetModule (value.Plain (plain.Text name) ∷ []) = looks (λ s. gives_module name (module_place name s.modules))
root_method _ arguments = type_error (codes "text expected")
