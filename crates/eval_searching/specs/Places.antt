-- The position that a search came to.
use Rattle.std.specs.Prelude.{◌≡◌, ℕ, List, Option, Some, None, Result, Ok, Err}
use Rattle.std.specs.Bool.{⊤}
use Rattle.language_rules.specs.Codes.{Completion}
use Rattle.language_rules.specs.Going.{RuleTree, on_value}
use Rattle.language_rules.specs.ListMethods.{not_in_list, on_place}
use Rattle.eval_frames.specs.declared.frame.Frame.{Frame}
use Rattle.eval_frames.specs.declared.next.Next.{Next}
use Rattle.eval_frames.specs.Meaning.{IsLight, Means}

-- on with a position, where there is one
abbrev pub placed : (ℕ → RuleTree) → Option ℕ → RuleTree
placed f (Some k) = f k
placed f None = not_in_list

-- The search ended with this position, or with none; else what comes next, whatever was to be done with the position.
abbrev pub IsPlaceTold : Completion → Result (Option ℕ) Next → Type 0
IsPlaceTold e (Ok place) = (f : ℕ → RuleTree) → on_value (on_place f) e ≡ placed f place
IsPlaceTold e (Err n) = (f : ℕ → RuleTree) (stack : List Frame) → Means stack n (on_value (on_place f) e) stack

abbrev pub IsLightUnlessPlaced : Result (Option ℕ) Next → Type 0
IsLightUnlessPlaced (Ok place) = ⊤
IsLightUnlessPlaced (Err n) = (stack : List Frame) → IsLight stack n stack
