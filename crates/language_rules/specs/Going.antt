-- How clauses are put together: trees of the language, and what goes on after a value.
use Rattle.std.specs.Prelude.{ℕ, ◌+◌, Bool, true, false, nat_lt, List, [], ◌∷◌, ◌++◌, map, sum, Option, Some, None, if◌then◌else◌}
use Rattle.rp_base.specs.declared.exceptions.Beyond.{Beyond}
use Rattle.rp_base.specs.declared.exceptions.Beyond.TheVariants as beyond
use Rattle.rp_base.specs.declared.exceptions.ExcKind.{ExcKind}
use Rattle.rp_base.specs.declared.exceptions.ExcKind.TheVariants as kind
use Rattle.rp_base.specs.declared.exceptions.Raised.{Raised}
use Rattle.rp_base.specs.declared.plain.Plain.{Plain}
use Rattle.rp_base.specs.declared.plain.Plain.TheVariants as plain
use Rattle.rp_base.specs.declared.value.Value.{Value}
use Rattle.rp_base.specs.declared.value.Value.TheVariants as value
use Rattle.rp_base.specs.Values.{weight_of, heaviest_value}
use Rattle.py_store.specs.declared.cell.Cell.{Cell}
use Rattle.object_operations.specs.declared.operation.Operation.{Operation}
use Rattle.object_operations.specs.declared.operation.Operation.TheVariants as operation
use Rattle.side_trees.specs.Trees.{Tree, Return, Act, Stop, Spend, Do, Ask}
use Rattle.language_rules.specs.Codes.{Env, Completion, Gives, Raises, Drained, Code, Node, Perform, Give, Then, Go, Step, Ends, Leaves, Asks}
use Rattle.language_rules.specs.States.{State, cell_at, next_cell, with_cell, set_cell}

abbrev pub RuleTree : Type 0
RuleTree = Tree Code State Operation Completion Beyond (List ℕ)

-- ---- values

abbrev pub none : Value
none = value.Plain plain.None

abbrev pub boolean : Bool → Value
boolean b = value.Plain (plain.Bool b)

abbrev pub text : List ℕ → Value
text t = value.Plain (plain.Text t)

-- a statement that ends and goes on to the next
abbrev pub done : Completion
done = Gives none

-- ---- ends

-- an exception of this kind with these arguments; with one text
abbrev pub raised : ExcKind → List Plain → Raised
raised k args = record { kind = k; args = args }

abbrev pub raises : ExcKind → List Plain → RuleTree
raises k args = Return (Raises (raised k args))

abbrev pub fails : ExcKind → List ℕ → RuleTree
fails k t = raises k (plain.Text t ∷ [])

abbrev pub type_error : List ℕ → RuleTree
type_error t = fails kind.TypeError t

-- What no state comes to in which each number names what it should, and what no accepted text has. No rule gives this end otherwise.
abbrev pub nowhere : RuleTree
nowhere = Stop beyond.NotYet

-- ---- the state

abbrev pub looks : (State → RuleTree) → RuleTree
looks f = Act (λ s. s) f

abbrev pub changes : (State → State) → RuleTree → RuleTree
changes g t = Act g (λ s. t)

-- the cell of this number, as it is now
abbrev pub on_cell : (Cell → RuleTree) → Option Cell → RuleTree
on_cell f (Some c) = f c
on_cell f None = nowhere

abbrev pub reads_cell : ℕ → (Cell → RuleTree) → RuleTree
reads_cell n f = looks (λ s. on_cell f (cell_at s n))

abbrev pub sets_cell : ℕ → Cell → RuleTree → RuleTree
sets_cell n c t = changes (set_cell n c) t

-- a new cell, and its number
abbrev pub makes : Cell → (ℕ → RuleTree) → RuleTree
makes c f = Act (with_cell c) (λ s. f (next_cell s))

-- a new cell is the answer
abbrev pub gives_new : Cell → RuleTree
gives_new c = makes c (λ n. Return (Gives (value.Own n)))

-- ---- on with a value: an exception, and any other end, is handed on

abbrev pub on_value : (Value → RuleTree) → Completion → RuleTree
on_value f (Gives v) = f v
on_value f a = Return a

abbrev pub on_items : (List Value → RuleTree) → Completion → RuleTree
on_items f (Drained vs) = f vs
on_items f a = Return a

-- the value of an expression: its unit, and then what it gives
abbrev pub evaluates : Env → ℕ → (Value → RuleTree) → RuleTree
evaluates env n f = Spend (Node env n) (on_value f)

-- the values of expressions, from the left, behind those that are there
abbrev pub evaluates_behind : Env → List Value → List ℕ → (List Value → RuleTree) → RuleTree
evaluates_behind env vs [] f = f vs
evaluates_behind env vs (n ∷ ns) f = evaluates env n (λ v. evaluates_behind env (vs ++ v ∷ []) ns f)

-- the values of expressions, from the left
abbrev pub evaluates_all : Env → List ℕ → (List Value → RuleTree) → RuleTree
evaluates_all env ns f = evaluates_behind env [] ns f

-- statements in turn
abbrev pub executes_all : Env → List ℕ → RuleTree
executes_all env [] = Return done
executes_all env (n ∷ ns) = Spend (Node env n) (on_value (λ v. executes_all env ns))

-- ---- operations

-- the arguments of a call or of a special operation, which are judged together
abbrev pub judged_arguments : Operation → List Value
judged_arguments (operation.Call callee arguments) = arguments
judged_arguments (operation.Special receiver special arguments) = arguments
judged_arguments _ = []

abbrev pub too_heavy : List Value → Bool
too_heavy vs = nat_lt heaviest_value (1 + sum (map weight_of vs))

-- whether a value is a cell of the other side
abbrev pub is_far : Value → Bool
is_far (value.Proxy id) = true
is_far _ = false

-- whether an operation is the other side's to carry out: that of its receiver's home
abbrev pub is_asked : Operation → Bool
is_asked operation.GetRoot = true
is_asked (operation.GetAttr receiver name) = is_far receiver
is_asked (operation.SetAttr receiver name v) = is_far receiver
is_asked (operation.DelAttr receiver name) = is_far receiver
is_asked (operation.Call callee arguments) = is_far callee
is_asked (operation.Special receiver special arguments) = is_far receiver
is_asked (operation.Cmp receiver op other) = is_far receiver
is_asked (operation.Str receiver) = is_far receiver
is_asked (operation.Repr receiver) = is_far receiver

-- An operation on an object: its arguments are judged, and it is carried out at the receiver's home, where its unit is due. With the answer a the code c a goes on at no cost.
abbrev pub operates : Operation → (Completion → Code) → (Completion → RuleTree) → RuleTree
operates o c k =
    if too_heavy (judged_arguments o) then Stop beyond.Size
    else (if is_asked o then Ask o c k else Do (Perform o) c k)

-- the value that an operation gives
abbrev pub asks : Operation → (Value → RuleTree) → RuleTree
asks o f = operates o (λ a. Give a) (on_value f)

-- ---- steps

abbrev pub carry : Step → RuleTree
carry (Ends a) = Return a
carry (Leaves b) = Stop b
carry (Asks o c) = operates o c (λ a. Return a)

-- a step, and then what goes on after its end
abbrev pub and_then : Step → (Completion → Step) → Step
and_then (Ends a) f = f a
and_then (Leaves b) f = Leaves b
and_then (Asks o c) f = Asks o (λ a. Then (c a) (λ e. Go (f e)))

abbrev pub value_step : (Value → Step) → Completion → Step
value_step f (Gives v) = f v
value_step f a = Ends a

abbrev pub and_value : Step → (Value → Step) → Step
and_value t f = and_then t (value_step f)

-- the step whose end is that of an operation
abbrev pub asked_step : Operation → Step
asked_step o = Asks o (λ a. Give a)

abbrev pub raised_step : ExcKind → List Plain → Step
raised_step k args = Ends (Raises (raised k args))
