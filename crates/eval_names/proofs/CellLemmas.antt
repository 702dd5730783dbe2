-- Where the cells of names are.
use Rattle.std.proofs.Common.{ℕ, ◌<◌, ◌≤◌, List, length}
use Rattle.py_store.specs.declared.cell.Cell.{Cell}
use Rattle.language_rules.proofs.CellLaws.{is_there}
use Rattle.language_rules.specs.States.{namespace_number}
use Rattle.eval_names.specs.Bound.{IsNamespaceCell, IsNamespace, IsScopeCell, IsScope}

pub scope_is_there : (cells : List Cell) (n : ℕ) → IsScope cells n → (0 < n) × (n ≤ length cells)
scope_is_there cells n h = is_there IsScopeCell (λ none. none) cells n h

pub namespace_is_there : (cells : List Cell) → IsNamespace cells → 0 < length cells
namespace_is_there cells h = (is_there IsNamespaceCell (λ none. none) cells namespace_number h).1
