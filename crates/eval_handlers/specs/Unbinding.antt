-- Where the exception stands whose name is unbound.
use Rattle.std.specs.Prelude.{◌≡◌, ◌<◌, ℕ, false, List, length, reverse, slice_get, slice_set, Option, Some, None}
use Rattle.language_rules.specs.Codes.{Env}
use Rattle.language_rules.specs.Handlers.{unbinds}
use Rattle.language_rules.specs.States.{Handling}

-- The exceptions with the innermost last, and the place of the innermost that has this name in this run of code: where that one is unbound, the name is. Where there is none, nothing is.
abbrev pub IsLastNamed : Env → List ℕ → List Handling → Option ℕ → Type 0
IsLastNamed env name handled (Some at) = (at < length handled) × ((h : Handling) → slice_get handled at ≡ Some h → reverse (slice_set handled at (record h { bound = false })) ≡ unbinds env name (reverse handled))
IsLastNamed env name handled None = reverse handled ≡ unbinds env name (reverse handled)
