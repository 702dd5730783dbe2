-- The truth of values (Python Language Reference, "Boolean operations"; Python Library Reference, "Truth Value Testing").
use Rattle.std.specs.Prelude.{Bool, true, [], Result, Ok, Err}
use Rattle.rp_base.specs.declared.exceptions.Beyond.TheVariants as beyond
use Rattle.rp_base.specs.declared.plain.Plain.TheVariants as plain
use Rattle.rp_base.specs.declared.value.Value.{Value}
use Rattle.rp_base.specs.declared.value.Value.TheVariants as value
use Rattle.py_plain.specs.Comparing.{truth}
use Rattle.py_plain.specs.declared.ends.PlainEnd.{PlainEnd}
use Rattle.py_plain.specs.declared.ends.PlainEnd.TheVariants as plain_end
use Rattle.object_operations.specs.declared.operation.Operation.TheVariants as operation
use Rattle.object_operations.specs.declared.special.Special.TheVariants as special
use Rattle.side_trees.specs.Trees.{Return, bind}
use Rattle.language_rules.specs.Codes.{Completion, Gives, Raises, Step, Ends, Leaves}
use Rattle.language_rules.specs.Going.{RuleTree, boolean, nowhere, carry, and_value, asked_step}

-- ---- bools as ends

-- what no step comes to in which each answer is what it should be
abbrev pub nowhere_step : Step
nowhere_step = Leaves beyond.NotYet

-- a bool at once
abbrev pub tells : Bool → Step
tells b = Ends (Gives (boolean b))

-- what an operation on plain values tells
abbrev pub tells_answer : Result Bool PlainEnd → Step
tells_answer (Ok b) = tells b
tells_answer (Err (plain_end.Raise r)) = Ends (Raises r)
tells_answer (Err (plain_end.Beyond b)) = Leaves b
tells_answer (Err plain_end.NoMemory) = nowhere_step

-- on with a bool
abbrev pub on_bool_value : (Bool → RuleTree) → Value → RuleTree
on_bool_value f (value.Plain (plain.Bool b)) = f b
on_bool_value f _ = nowhere

abbrev pub on_bool : (Bool → RuleTree) → Completion → RuleTree
on_bool f (Gives v) = on_bool_value f v
on_bool f a = Return a

abbrev pub bool_value_step : (Bool → Step) → Value → Step
bool_value_step f (value.Plain (plain.Bool b)) = f b
bool_value_step f _ = nowhere_step

abbrev pub and_bool : Step → (Bool → Step) → Step
and_bool t f = and_value t (bool_value_step f)

-- ---- truth

-- Whether a value is true. Plain values tell at once. A reference is asked `__bool__`, whose answer is a bool. A tuple with a reference is not empty, and so it is true.
abbrev pub truth_step : Value → Step
truth_step (value.Plain p) = tells_answer (truth p)
truth_step (value.Own n) = asked_step (operation.Special (value.Own n) special.Bool [])
truth_step (value.Proxy id) = asked_step (operation.Special (value.Proxy id) special.Bool [])
truth_step _ = tells true

-- on with the truth of a value
abbrev pub on_truth : Value → (Bool → RuleTree) → RuleTree
on_truth v f = bind (carry (truth_step v)) (on_bool f)
