-- Methods that the class of an instance has, and what is done with the value that one gives.
use Rattle.std.specs.Prelude.{ℕ, Bool, true, List, [], Option, Some, None, codes, if◌then◌else◌}
use Rattle.rp_base.specs.declared.value.Value.{Value}
use Rattle.py_ast.specs.declared.program.Program.{Program}
use Rattle.py_store.specs.declared.cell.Cell.{Cell}
use Rattle.py_store.specs.declared.cell.Cell.TheVariants as cell
use Rattle.py_store.specs.declared.cell.Method.TheVariants as method
use Rattle.rp_base.specs.declared.value.Value.TheVariants as value
use Rattle.rp_base.specs.declared.exceptions.Beyond.TheVariants as beyond
use Rattle.object_operations.specs.Names.{special_name}
use Rattle.object_operations.specs.declared.special.Special.TheVariants as special
use Rattle.side_trees.specs.Trees.{Return, Stop}
use Rattle.language_rules.specs.Answers.{gives}
use Rattle.language_rules.specs.AtOnce.{stated}
use Rattle.language_rules.specs.Attributes.{by_method, calls_method}
use Rattle.language_rules.specs.CellComparing.{not_implemented}
use Rattle.language_rules.specs.Going.{RuleTree, boolean, done, gives_new, type_error}
use Rattle.language_rules.specs.Lengths.{gives_filled, on_length, wrong_result}
use Rattle.language_rules.specs.Operators.{unsupported}
use Rattle.language_rules.specs.PlainItems.{number}
use Rattle.language_rules.specs.States.{State}
use Rattle.language_rules.specs.Truth.{on_truth}
use Rattle.eval_frames.specs.declared.frame.Decision.TheVariants as decision
use Rattle.eval_frames.specs.declared.frame.Frame.{Frame}
use Rattle.eval_frames.specs.declared.next.Next.{Next}
use Rattle.eval_frames.specs.Meaning.{MeansIn, decides}
use Rattle.eval_frames.specs.MethodFrames.{through_method}
use Rattle.eval_instances.specs.declared.calling.After.{After}
use Rattle.eval_instances.specs.declared.calling.After.TheVariants as after

-- what is done with the value that a method gives
abbrev pub goes_on : After → Value → RuleTree
goes_on after.Answer v = gives v
goes_on after.Done v = Return done
goes_on after.Truth v = on_truth v (decides decision.Bool v)
goes_on (after.Method f) v = through_method f v

-- over these cells, from one stack to another
abbrev pub Within : List Cell → List Frame → RuleTree → List Frame → Next → Type 0
Within cells now t before next = (fixed : State) (texts : List Program) → MeansIn (stated fixed cells texts) now next t before

-- the same where the stack stays
abbrev pub AtOnce : List Cell → RuleTree → Next → Type 0
AtOnce cells t next = (fixed : State) (texts : List Program) (stack : List Frame) → MeansIn (stated fixed cells texts) stack next t stack

-- what is found in a class, by whether it is a function
abbrev pub bound_if : ℕ → Value → Bool → RuleTree
bound_if n v is_function = if is_function then gives_new (cell.Bound (value.Own n) (method.Function v)) else gives v

-- what `__eq__` gave, by whether it is NotImplemented
abbrev pub turned_if : Value → Bool → RuleTree
turned_if v is_unknown = if is_unknown then not_implemented else on_truth v (decides decision.Not v)

-- what an arithmetic method gave, by whether it is NotImplemented
abbrev pub result_if : Value → Bool → RuleTree
result_if v is_unknown = if is_unknown then unsupported else gives v

-- what `__init__` gave, by whether it is None
abbrev pub initialised_if : ℕ → Bool → RuleTree
initialised_if i is_none = if is_none then gives (value.Own i) else wrong_result

-- what `__bool__` gave, where it is a bool
abbrev pub truth_told : Option Bool → RuleTree
truth_told (Some b) = gives (boolean b)
truth_told None = wrong_result

-- what `__str__` or `__repr__` gave, by whether it is a text
abbrev pub text_if : Value → Bool → RuleTree
text_if v is_text = if is_text then gives v else wrong_result

-- what `__iter__` gave, by whether it is an instance or an iterator
abbrev pub iterator_if : Value → Bool → RuleTree
iterator_if v may_iterate = if may_iterate then gives v else wrong_result

-- what a length tells: itself, or whether it is above 0
abbrev pub counting : Bool → ℕ → RuleTree
counting is_truth n = if is_truth then gives_filled n else gives (number n)

-- what is less a view, where an instance has no `__iter__`
abbrev pub less_items : ℕ → RuleTree
less_items n = by_method n (special_name special.GetItem) (Stop beyond.Operator) unsupported

-- what is less another value, by whether that is a view
abbrev pub less_if : ℕ → Bool → RuleTree
less_if n is_view = if is_view then by_method n (special_name special.Iter) (Stop beyond.Operator) (less_items n) else unsupported

-- an instance without `__bool__`
abbrev pub true_by_length : ℕ → RuleTree
true_by_length n = calls_method n (special_name special.Len) [] (on_length gives_filled) (gives (boolean true))

-- an instance of a class without `__init__`, by whether there are no arguments
abbrev pub made_if : ℕ → Bool → RuleTree
made_if i is_empty = if is_empty then gives (value.Own i) else type_error (codes "wrong number of arguments")
