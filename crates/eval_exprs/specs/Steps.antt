-- What the steps of expressions tell.
use Rattle.std.specs.Prelude.{◌≡◌, ◌+◌, ◌*◌, ◌≤◌, ◌||◌, ◌∷◌, [], Bool, true, false, List, length, Option, Some, None, Result, Ok, Err}
use Rattle.std.specs.Bool.{⊤}
use Rattle.rp_base.specs.Identity.{kind_named}
use Rattle.rp_base.specs.declared.identity.Kind.{Kind}
use Rattle.rp_base.specs.declared.identity.Kind.TheVariants as kind
use Rattle.rp_base.specs.declared.plain.Plain.TheVariants as plain
use Rattle.rp_base.specs.declared.value.Value.{Value}
use Rattle.rp_base.specs.declared.value.Value.TheVariants as value
use Rattle.py_ast.specs.declared.builtin.Builtin.{Builtin}
use Rattle.py_ast.specs.declared.builtin.Builtin.TheVariants as builtin
use Rattle.py_ast.specs.declared.expression.Comparison.{Comparison}
use Rattle.py_ast.specs.declared.expression.Comparison.TheVariants as comparison
use Rattle.py_ast.specs.declared.program.Program.{Program}
use Rattle.py_store.specs.Cells.{cell_of}
use Rattle.py_store.specs.declared.cell.Cell.{Cell}
use Rattle.language_rules.specs.AtOnce.{stated}
use Rattle.language_rules.specs.Codes.{Completion, Gives}
use Rattle.language_rules.specs.Going.{RuleTree, boolean}
use Rattle.language_rules.specs.Kinds.{is_reference, kind_there}
use Rattle.language_rules.specs.Printing.{repr_step, str_step}
use Rattle.language_rules.specs.States.{State}
use Rattle.language_rules.specs.Truth.{on_bool}
use Rattle.eval_frames.specs.declared.frame.Frame.{Frame}
use Rattle.eval_frames.specs.declared.loop_frames.Collection.{Collection}
use Rattle.eval_frames.specs.declared.loop_frames.Collection.TheVariants as collection
use Rattle.eval_frames.specs.declared.next.Next.{Next}
use Rattle.eval_frames.specs.Meaning.{IsLight, Means}
pub use Rattle.eval_comparing.specs.Compared.{asks_link}
pub use Rattle.eval_comparing.specs.Steps.{IsSlight, MeansAnywhere, MeansAt}

-- The answer to a question for a truth is this bool; else what comes next, whatever was to be done by the bool.
abbrev pub IsTold : Completion → Result Bool Next → Type 0
IsTold e (Ok b) = e ≡ Gives (boolean b)
IsTold e (Err n) = (f : Bool → RuleTree) (stack : List Frame) → Means stack n (on_bool f e) stack

abbrev pub IsLightUnlessTold : Result Bool Next → Type 0
IsLightUnlessTold (Ok b) = ⊤
IsLightUnlessTold (Err n) = (stack : List Frame) → IsLight stack n stack

-- the kind of the object that a value refers to, among these cells
abbrev pub value_kind : List Cell → Value → Option Kind
value_kind cells (value.Own n) = kind_there (cell_of cells n)
value_kind cells (value.Proxy id) = Some (kind_named id.name id.inst_no)
value_kind cells _ = None

-- what was found is the only one of these values, and refers to an object
abbrev pub IsOnlyReference : List Value → Option Value → Type 0
IsOnlyReference vs (Some v) = (vs ≡ v ∷ []) × (is_reference v ≡ true)
IsOnlyReference vs None = ⊤

-- the only one of these values, whose `str` is its `repr`, as that of a tuple is
abbrev pub IsOnlyTuple : List Value → Value → Type 0
IsOnlyTuple vs v = (vs ≡ v ∷ []) × (str_step v ≡ repr_step v)

-- the builtin functions that go over what they are given
abbrev pub drains_object : Builtin → Bool
drains_object builtin.Tuple = true
drains_object builtin.Min = true
drains_object builtin.Max = true
drains_object builtin.Sum = true
drains_object builtin.List = true
drains_object builtin.Sorted = true
drains_object _ = false

-- the kinds of objects that such a function goes over
abbrev pub is_gone_over : Option Kind → Bool
is_gone_over (Some kind.List) = true
is_gone_over (Some kind.Dict) = true
is_gone_over (Some kind.Range) = true
is_gone_over (Some kind.View) = true
is_gone_over _ = false

-- what the items go into
abbrev pub collection_for : Builtin → Collection
collection_for builtin.Tuple = collection.Tuple
collection_for _ = collection.List

-- the builtin functions that take no object
abbrev pub takes_no_object : Builtin → Bool
takes_no_object builtin.Int = true
takes_no_object builtin.Abs = true
takes_no_object builtin.Ord = true
takes_no_object builtin.Chr = true
takes_no_object builtin.Dict = true
takes_no_object builtin.Range = true
takes_no_object _ = false
