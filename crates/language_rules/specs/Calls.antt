-- Calls (Python Language Reference, "Calls").
use Rattle.std.specs.Prelude.{ℕ, List, [], ◌∷◌, codes, slice_get, slice_set, Option, Some, None}
use Rattle.rp_base.specs.declared.exceptions.Beyond.TheVariants as beyond
use Rattle.rp_base.specs.declared.plain.Plain.{Plain}
use Rattle.rp_base.specs.declared.plain.Plain.TheVariants as plain
use Rattle.rp_base.specs.declared.value.Value.{Value}
use Rattle.rp_base.specs.declared.value.Value.TheVariants as value
use Rattle.rp_base.specs.Values.{plains_of}
use Rattle.object_operations.specs.declared.method.BuiltinMethod.{BuiltinMethod}
use Rattle.object_operations.specs.declared.operation.Operation.TheVariants as operation
use Rattle.py_store.specs.declared.cell.Cell.{Cell}
use Rattle.py_store.specs.declared.cell.Cell.TheVariants as cell
use Rattle.py_store.specs.declared.cell.Method.{Method}
use Rattle.py_store.specs.declared.cell.Method.TheVariants as bound
use Rattle.host_api.specs.declared.host.HostAnswer.{HostAnswer}
use Rattle.host_api.specs.declared.host.HostAnswer.TheVariants as host_answer
use Rattle.host_api.specs.Modules.{Module}
use Rattle.side_trees.specs.Trees.{Return, Stop}
use Rattle.language_rules.specs.Answers.{gives, asked}
use Rattle.language_rules.specs.Attributes.{class_method}
use Rattle.language_rules.specs.Codes.{Raises}
use Rattle.language_rules.specs.DictMethods.{dict_method}
use Rattle.language_rules.specs.Functions.{calls_function}
use Rattle.language_rules.specs.Going.{RuleTree, nowhere, type_error, looks, changes, reads_cell, makes, asks}
use Rattle.language_rules.specs.Lengths.{wrong_result}
use Rattle.language_rules.specs.ListMethods.{list_method}
use Rattle.language_rules.specs.NamespaceMethods.{namespace_method}
use Rattle.language_rules.specs.RootMethods.{root_method}
use Rattle.language_rules.specs.States.{State}
use Rattle.language_rules.specs.TextMethods.{text_method}

-- what is no function, method or class
abbrev pub not_callable : RuleTree
not_callable = type_error (codes "not callable")

-- ---- methods of builtin kinds ("Built-in methods")

-- by the kind of the object
abbrev pub method_of_cell : ℕ → BuiltinMethod → List Value → Cell → RuleTree
method_of_cell n m arguments (cell.List items) = list_method n items m arguments
method_of_cell n m arguments (cell.Dict entries shape) = dict_method n entries shape m arguments
method_of_cell n m arguments (cell.Namespace names reserved) = namespace_method names reserved m arguments
method_of_cell n m arguments cell.Root = root_method m arguments
method_of_cell n m arguments _ = nowhere

-- a method of an object or of a text
abbrev pub method_rule : Value → BuiltinMethod → List Value → RuleTree
method_rule (value.Own n) m arguments = reads_cell n (method_of_cell n m arguments)
method_rule (value.Plain (plain.Text t)) m arguments = text_method t m arguments
method_rule _ m arguments = nowhere

-- a bound function is called with the receiver first, by an operation of its own ("Instance methods")
abbrev pub calls_bound : Value → List Value → Method → RuleTree
calls_bound receiver arguments (bound.Function callee) = asked (operation.Call callee (receiver ∷ arguments))
calls_bound receiver arguments (bound.Builtin m) = method_rule receiver m arguments

-- ---- classes ("Classes")

-- `__init__` gives None
abbrev pub initialised : ℕ → Value → RuleTree
initialised i (value.Plain plain.None) = gives (value.Own i)
initialised i _ = wrong_result

-- the new instance, after its `__init__` where it has one; without one it takes no arguments
abbrev pub initialises : ℕ → List Value → Option Value → RuleTree
initialises i arguments (Some callee) = asks (operation.Call callee (value.Own i ∷ arguments)) (initialised i)
initialises i [] None = gives (value.Own i)
initialises i arguments None = type_error (codes "wrong number of arguments")

-- `C(arguments)`: the instance is made first
abbrev pub makes_instance : ℕ → List Value → RuleTree
makes_instance class_no arguments = makes (cell.Instance class_no []) (λ i. looks (λ s. initialises i arguments (class_method s i (codes "__init__"))))

-- ---- functions of modules that the program around the side offers

-- what the module answers; where it had no memory there is nothing to say
abbrev pub gives_answer : HostAnswer → RuleTree
gives_answer (host_answer.Value p) = gives (value.Plain p)
gives_answer (host_answer.Raise r) = Return (Raises r)
gives_answer host_answer.NoMemory = nowhere

-- a module with its next state
abbrev pub with_module : ℕ → Module → State → State
with_module host m s = record s { modules = slice_set s.modules host m }

-- the answer and the next state, by the module's rule
abbrev pub answers_host : ℕ → Module → HostAnswer × Plain → RuleTree
answers_host host m answered = changes (with_module host (record m { state = answered.1 })) (gives_answer answered.0)

-- by the module's state as it is
abbrev pub runs_host : ℕ → List ℕ → List Plain → Option Module → RuleTree
runs_host host name arguments (Some m) = answers_host host m (m.rule m.state name arguments)
runs_host host name arguments None = nowhere

-- the arguments are plain values
abbrev pub calls_host : ℕ → List ℕ → Option (List Plain) → RuleTree
calls_host host name (Some arguments) = looks (λ s. runs_host host name arguments (slice_get s.modules host))
calls_host host name None = Stop beyond.Payload

-- ---- calls

-- by the kind of the callee
abbrev pub calls_cell : ℕ → List Value → Cell → RuleTree
calls_cell n arguments (cell.Function text function scope) = calls_function text function scope arguments
calls_cell n arguments (cell.Bound receiver target) = calls_bound receiver arguments target
calls_cell n arguments (cell.Class name base attributes) = makes_instance n arguments
calls_cell n arguments (cell.HostFunc host name) = calls_host host name (plains_of arguments)
calls_cell n arguments _ = not_callable

-- `callee(arguments)`
abbrev pub call_value : Value → List Value → RuleTree
call_value (value.Own n) arguments = reads_cell n (calls_cell n arguments)
call_value _ arguments = not_callable
