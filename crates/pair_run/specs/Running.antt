-- What a run of a pair comes to, and what its wires show.
use Rattle.std.specs.Prelude.{◌≡◌, ℕ, List, [], Option, Some, None, ◌⊎◌, codes}
use Rattle.wire_io.specs.Devices.{Rose}
use Rattle.wire_io.specs.declared.wire.Over.{Over}
use Rattle.wire_io.specs.declared.wire.Over.TheVariants as over
use Rattle.pair_run.specs.declared.ends.RunEnd.{RunEnd}
use Rattle.pair_run.specs.declared.ends.RunEnd.TheVariants as run_end
use Rattle.pair_run.specs.declared.scripts.Binding.{Binding}
use Rattle.pair_run.specs.Scripts.{Agrees}
use Rattle.pair_run.specs.Talk.{AreAnswered, PrintsFirst, printed, units_of, talk, stream, Carries, CarriesFront}

-- Two scripts that can be run: each letter that A asks for is answered, and the namespace holds the last bindings.
pub record AreJoined (letters : List ℕ) (bindings namespace : List Binding) : Type 0 where
  pub answered : AreAnswered bindings letters
  pub agrees : Agrees namespace bindings

-- what a wire shows from outside: the bytes put so far, how it was last begun, and its faults
pub record Seen : Type 0 where
  pub carried : List ℕ
  pub begun : Option Over
  pub faults : ℕ

-- what the wire from A to B and the wire from B to A show
pub record Wires : Type 0 where
  pub ab : Seen
  pub ba : Seen

-- the same, from what a form of the wire means
abbrev pub wires : {X : Type 0} → (X → List ℕ) → (X → Option Over) → (X → ℕ) → X → X → Wires
wires carried begun faults ab ba = record {
  ab = record { carried = carried ab; begun = begun ab; faults = faults ab };
  ba = record { carried = carried ba; begun = begun ba; faults = faults ba };
}

-- both wires were begun over memory
abbrev pub AreBegun : Wires → Type 0
AreBegun new = (new.ab.begun ≡ Some over.Memory) × (new.ba.begun ≡ Some over.Memory)

-- a wire failed
abbrev pub HasFailed : Wires → Wires → Type 0
HasFailed old new = Rose old.ab.faults new.ab.faults ⊎ Rose old.ba.faults new.ba.faults

-- A wire did not begin, so nothing was carried. B's wire is begun after A's.
abbrev pub IsUnrun : Wires → Wires → Type 0
IsUnrun old new =
    ((new.ab.begun ≡ old.ab.begun) ⊎ (new.ab.begun ≡ Some over.Memory)) × (new.ba.begun ≡ old.ba.begun)
    × (new.ab.carried ≡ old.ab.carried) × (new.ba.carried ≡ old.ba.carried)

-- the whole conversation of two scripts was carried, over wires that were begun
abbrev pub IsWholeRun : List Binding → List ℕ → Wires → Wires → Type 0
IsWholeRun bindings letters old new = AreBegun new × Carries (stream (talk bindings letters)) old.ab.carried new.ab.carried old.ba.carried new.ba.carried

-- a front of it was carried
abbrev pub IsPartRun : List Binding → List ℕ → Wires → Wires → Type 0
IsPartRun bindings letters old new = AreBegun new × CarriesFront (stream (talk bindings letters)) old.ab.carried new.ab.carried old.ba.carried new.ba.carried

-- A run that was cut short: by a wire that did not begin, or in the conversation.
abbrev pub IsCutRun : List Binding → List ℕ → Wires → Wires → Type 0
IsCutRun bindings letters old new = IsUnrun old new ⊎ IsPartRun bindings letters old new

-- A run was cut short after A had printed what it had printed before, and some first lines more.
abbrev pub CutAfter : List Binding → List ℕ → List ℕ → List ℕ → Wires → Wires → Type 0
CutAfter bindings letters out out_new old new =
    (IsUnrun old new × (out_new ≡ out)) ⊎ (IsPartRun bindings letters old new × PrintsFirst bindings letters out out_new)

-- what a run of a pair came to: the end, what A printed, the units and the tables, and what the wires show
abbrev pub Came : RunEnd → List Binding → List ℕ → List ℕ → Option ℕ → Option (ℕ × ℕ) → Wires → Wires → Type 0
Came run_end.Done bindings letters out_a units tables old new =
    IsWholeRun bindings letters old new × (out_a ≡ printed bindings letters) × (units ≡ Some (units_of bindings letters)) × (tables ≡ Some (0, 2))
Came run_end.Wire bindings letters out_a units tables old new =
    CutAfter bindings letters [] out_a old new × (units ≡ None) × (tables ≡ None) × HasFailed old new

-- the printed name of an end
abbrev pub end_name : RunEnd → List ℕ
end_name run_end.Done = codes "done"
end_name run_end.Wire = codes "wire"
