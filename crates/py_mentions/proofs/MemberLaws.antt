-- One name more in the table of the names that suites bind.
use Rattle.std.proofs.Common.{◌≡◌, refl, Bool, true, false, cond, ◌||◌}

pub or_here : (here old : Bool) → cond here true old ≡ old || here
or_here true true = refl
or_here true false = refl
or_here false true = refl
or_here false false = refl
