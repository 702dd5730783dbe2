-- A list that is taken out and put back.
use Rattle.std.proofs.Common.{◌≡◌, ℕ, ◌<◌, ◌≤◌, List, length, Some, Result, OnErr, ap}
use Rattle.std.proofs.lemmas.Result.{on_err_weaker}
use Rattle.rp_base.specs.declared.ends.OpEnd.{OpEnd}
use Rattle.rp_base.specs.declared.value.Value.{Value}
use Rattle.py_store.specs.declared.cell.Cell.{Cell}
use Rattle.py_store.specs.declared.cell.Cell.TheVariants as cell
use Rattle.py_store.specs.Cells.{Cells, cell_of, with_cell}
use Rattle.language_rules.proofs.CellLaws.{is_there, unchanged}
use Rattle.py_lists.specs.Lists.{IsListCell, IsList}

pub list_is_there : (cells : List Cell) (n : ℕ) → IsList cells n → (0 < n) × (n ≤ length cells)
list_is_there cells n h = is_there IsListCell (λ none. none) cells n h

-- an end that is no value keeps the store
pub kept_store : (answer : Result Value OpEnd) (old taken now : Cells) (n : ℕ) (items after : List Value)
    → cell_of old.cells n ≡ Some (cell.List items) → taken ≡ record old { cells = with_cell old.cells n cell.Root } → now ≡ record taken { cells = with_cell taken.cells n (cell.List after) }
    → OnErr answer (after ≡ items) → OnErr answer (now ≡ old)
kept_store answer old taken now n items after h p q k =
    on_err_weaker answer (λ e. unchanged n old taken now (cell.List items) cell.Root (cell.List after) h p q (ap (λ (vs : List Value). cell.List vs) e)) k
