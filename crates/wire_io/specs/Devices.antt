-- What a device took, and whether its count of faults rose.
use Rattle.std.specs.Prelude.{◌≡◌, ℕ, ◌+◌, ◌-◌, ◌^◌, ◌≤◌, min, List, ◌++◌, take, length, Option, Some, None}

-- the count rose, or stands at its type's end
abbrev pub Rose : ℕ → ℕ → Type 0
Rose before now = min (before + 1) (2 ^ 64 - 1) ≤ now

-- Where the device tells, it went from the one to the other by these bytes. Whether it tells never changes.
abbrev pub Wrote : Option (List ℕ) → List ℕ → Option (List ℕ) → Type 0
Wrote (Some old) piece (Some new) = new ≡ old ++ piece
Wrote None piece None = Unit {0}
Wrote (Some old) piece None = ⊥
Wrote None piece (Some new) = ⊥

-- a front of the text
abbrev pub IsPart : Option (List ℕ) → List ℕ → Option (List ℕ) → Type 0
IsPart old text new = (n : ℕ) × (n ≤ length text) × Wrote old (take n text) new
