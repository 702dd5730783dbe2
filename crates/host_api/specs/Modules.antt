-- Modules: what each is called, which functions it has, and its rule, by which its state changes.
use Rattle.std.specs.Prelude.{◌≡◌, ◌≤◌, ℕ, Bool, List, All, slice_get, slice_set, Some}
use Rattle.rp_base.specs.PlainValues.{plain_weight, plain_depth}
use Rattle.rp_base.specs.Values.{heaviest_value, deepest_tuple}
use Rattle.rp_base.specs.declared.plain.Plain.{Plain}
use Rattle.rp_base.specs.declared.plain.Plain.TheVariants as plain
use Rattle.host_api.specs.declared.host.HostAnswer.{HostAnswer}
use Rattle.host_api.specs.declared.host.HostAnswer.TheVariants as answer

-- by the state, the function's name and the arguments: the answer and the next state
abbrev pub Rule : Type 0
Rule = Plain → List ℕ → List Plain → HostAnswer × Plain

-- The name, the functions and the rule never change. A state is a plain value.
pub record Module : Type 0 where
  pub name : List ℕ
  pub has : List ℕ → Bool
  pub rule : Rule
  pub state : Plain

-- within the limits on a value
abbrev pub IsWithinLimits : Plain → Type 0
IsWithinLimits p = (plain_weight p ≤ heaviest_value) × (plain_depth p ≤ deepest_tuple)

-- the caller's condition: each argument is within the limits, and so is the weight of all of them as one tuple
abbrev pub AreArguments : List Plain → Type 0
AreArguments args = All IsWithinLimits args × (plain_weight (plain.Tuple args) ≤ heaviest_value)

-- a value is within the limits, and so is the tuple of the arguments of a raised exception
abbrev pub KeepsLimits : HostAnswer → Type 0
KeepsLimits (answer.Value p) = IsWithinLimits p
KeepsLimits (answer.Raise raised) = IsWithinLimits (plain.Tuple raised.args)
KeepsLimits answer.NoMemory = Unit {0}

-- The answer is the rule's, with the rule's next state, or want of memory with the state as it was.
abbrev pub HasTaken : Rule → Plain → List ℕ → List Plain → HostAnswer → Plain → Type 0
HasTaken rule old func args answer.NoMemory new = new ≡ old
HasTaken rule old func args given new = rule old func args ≡ (given, new)

-- a module by its four parts
abbrev pub module_of : List ℕ → (List ℕ → Bool) → Rule → Plain → Module
module_of name has rule state = record { name = name; has = has; rule = rule; state = state }

-- A module behind a call: all but its state stays, and the answer and the state are the rule's; or want of memory, with
-- the module as it was.
abbrev pub HasAnswered : Module → List ℕ → List Plain → HostAnswer → Module → Type 0
HasAnswered m func args answer.NoMemory next = next ≡ m
HasAnswered m func args given next =
    ((m.rule m.state func args).0 ≡ given) × (next ≡ record m { state = (m.rule m.state func args).1 })

-- the same of one module of a list; all others stay
pub record HasTakenAt (old : List Module) (at : ℕ) (func : List ℕ) (args : List Plain) (given : HostAnswer) (new : List Module) : Type 0 where
  pub taken : (m : Module) → slice_get old at ≡ Some m → (next : Module) × (new ≡ slice_set old at next) × HasAnswered m func args given next

-- the name of a module of a list
pub record IsNameAt (modules : List Module) (at : ℕ) (name : List ℕ) : Type 0 where
  pub named : (m : Module) → slice_get modules at ≡ Some m → name ≡ m.name

-- what the functions of a module of a list say of a name
pub record SaysAt (modules : List Module) (at : ℕ) (func : List ℕ) (said : Bool) : Type 0 where
  pub says : (m : Module) → slice_get modules at ≡ Some m → said ≡ m.has func
