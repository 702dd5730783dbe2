-- One step of the search for an attribute: the cell at hand does not have it.
use Rattle.std.proofs.Common.{◌≡◌, ℕ, zero, suc, ◌+◌, ◌-◌, ◌<◌, List, [], ◌∷◌, Option, Some, None, refl, ◌∙◌, ap, sym, arith}
use Rattle.py_store.specs.declared.cell.Binding.{Binding}
use Rattle.py_store.specs.declared.cell.Cell.{Cell}
use Rattle.py_store.specs.Attributes.{own_attributes, parent_of, lineage_within, holder_among}
use Rattle.py_store.specs.Bindings.{binding_place}
use Rattle.py_store.specs.Cells.{cell_of}

nothing_above : (cells : List Cell) (most : ℕ) → lineage_within cells most None ≡ []
nothing_above cells zero = refl
nothing_above cells (suc most) = refl

-- what is left begins with the cell at hand
left : (cells : List Cell) (last at number : ℕ) → at < last → lineage_within cells (last - at) (Some number) ≡ number ∷ lineage_within cells (last - (at + 1)) (parent_of (cell_of cells number))
left cells last at number within =
    let e : last - at ≡ suc (last - (at + 1)) = omega arith in
    ap (λ most. lineage_within cells most (Some number)) e

passed : (cells : List Cell) (name : List ℕ) (last at number : ℕ) (attributes : List Binding) → at < last
    → attributes ≡ own_attributes (cell_of cells number) → None ≡ binding_place name attributes
    → holder_among cells name (lineage_within cells (last - at) (Some number)) ≡ holder_among cells name (lineage_within cells (last - (at + 1)) (parent_of (cell_of cells number)))
passed cells name last at number attributes within same missing =
    let rest : Option (ℕ × ℕ) = holder_among cells name (lineage_within cells (last - (at + 1)) (parent_of (cell_of cells number))) in
    ap (holder_among cells name) (left cells last at number within) ∙ sym (ap (λ p. elim p as (λ _. Option (ℕ × ℕ)) [ Some place ↦ Some (number, place) | None ↦ rest ]) (missing ∙ ap (binding_place name) same))

pub search_goes_on : (cells : List Cell) (name : List ℕ) (last at number parent : ℕ) (attributes : List Binding) → at < last
    → attributes ≡ own_attributes (cell_of cells number) → None ≡ binding_place name attributes → Some parent ≡ parent_of (cell_of cells number)
    → holder_among cells name (lineage_within cells (last - at) (Some number)) ≡ holder_among cells name (lineage_within cells (last - (at + 1)) (Some parent))
search_goes_on cells name last at number parent attributes within same missing above =
    passed cells name last at number attributes within same missing ∙ ap (λ p. holder_among cells name (lineage_within cells (last - (at + 1)) p)) (sym above)

pub search_ends : (cells : List Cell) (name : List ℕ) (last at number : ℕ) (attributes : List Binding) → at < last
    → attributes ≡ own_attributes (cell_of cells number) → None ≡ binding_place name attributes → None ≡ parent_of (cell_of cells number)
    → holder_among cells name (lineage_within cells (last - at) (Some number)) ≡ None
search_ends cells name last at number attributes within same missing above =
    passed cells name last at number attributes within same missing ∙ ap (λ p. holder_among cells name (lineage_within cells (last - (at + 1)) p)) (sym above) ∙ ap (holder_among cells name) (nothing_above cells (last - (at + 1)))
