-- The names that a first text reserves.
use Rattle.std.proofs.Common.{◌≡◌, ℕ, List, [], Option, Some, ◌∙◌, ap}
use Rattle.py_store.specs.declared.cell.Cell.{Cell}
use Rattle.py_store.specs.declared.cell.Cell.TheVariants as cell
use Rattle.language_rules.specs.Going.{RuleTree, on_cell, sets_cell}
use Rattle.language_rules.specs.Programs.{reserves, reserves_in, with_names}
use Rattle.language_rules.specs.Running.{runs}
use Rattle.language_rules.specs.States.{Handling, State, cell_at, namespace_number}
use Rattle.eval_frames.specs.Meaning.{RunsAs}

pub first_reserved : (s : State) (names : List (List ℕ)) (t : RuleTree) → s.handled ≡ [] → cell_at s namespace_number ≡ Some (cell.Namespace [] [])
    → RunsAs s (reserves names t) (sets_cell namespace_number (cell.Namespace [] (with_names names [])) t)
first_reserved s names t none-handled is units printed =
    ap (λ (o : Option Cell). runs units (on_cell (reserves_in s.handled names t) o) s printed) is
    ∙ ap (λ (hs : List Handling). runs units (reserves_in hs names t (cell.Namespace [] [])) s printed) none-handled
