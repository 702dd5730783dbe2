-- Attributes of instances and classes: those of its own come first, then those of its class, then those of the bases (Python Language Reference, "The standard type hierarchy").
use Rattle.std.specs.Prelude.{◌≡◌, ℕ, zero, suc, ◌+◌, ◌<◌, List, [], ◌∷◌, length, Option, Some, None, option_map, slice_get}
use Rattle.rp_base.specs.declared.value.Value.{Value}
use Rattle.py_store.specs.declared.cell.Binding.{Binding}
use Rattle.py_store.specs.declared.cell.Cell.{Cell}
use Rattle.py_store.specs.declared.cell.Cell.TheVariants as cell
use Rattle.py_store.specs.Bindings.{binding_place}
use Rattle.py_store.specs.Cells.{cell_of}

-- its own attributes
abbrev pub own_attributes : Option Cell → List Binding
own_attributes (Some (cell.Instance class_no attributes)) = attributes
own_attributes (Some (cell.Class name base attributes)) = attributes
own_attributes _ = []

-- where the search goes on: an instance has a class, and a class may have a base
abbrev pub parent_of : Option Cell → Option ℕ
parent_of (Some (cell.Instance class_no attributes)) = Some class_no
parent_of (Some (cell.Class name base attributes)) = base
parent_of _ = None

-- the cell, its class and the bases, as far as this many
abbrev pub lineage_within : List Cell → ℕ → Option ℕ → List ℕ
lineage_within cells zero number = []
lineage_within cells (suc most) None = []
lineage_within cells (suc most) (Some number) = number ∷ lineage_within cells most (parent_of (cell_of cells number))

-- the cell, its class and the bases, in the order of the search: no more than an instance and all cells
abbrev pub lineage : List Cell → ℕ → List ℕ
lineage cells number = lineage_within cells (length cells + 1) (Some number)

-- a class and its bases, each of which is a class that was made before
pub data IsClassLine (cells : List Cell) : ℕ → List ℕ → Type 0 where
  Alone : (number : ℕ) (name : List ℕ) (attributes : List Binding) → cell_of cells number ≡ Some (cell.Class name None attributes) → IsClassLine cells number (number ∷ [])
  Derived : (number base : ℕ) (name : List ℕ) (attributes : List Binding) (bases : List ℕ) → cell_of cells number ≡ Some (cell.Class name (Some base) attributes) → base < number → IsClassLine cells base bases → IsClassLine cells number (number ∷ bases)

-- an instance with its class and the bases, or a class with its bases
pub data IsLine (cells : List Cell) : ℕ → List ℕ → Type 0 where
  OfClass : (number : ℕ) (classes : List ℕ) → IsClassLine cells number classes → IsLine cells number classes
  OfInstance : (number class_no : ℕ) (attributes : List Binding) (classes : List ℕ) → cell_of cells number ≡ Some (cell.Instance class_no attributes) → IsClassLine cells class_no classes → IsLine cells number (number ∷ classes)

-- the first of these cells that has the attribute, and its place there
abbrev pub holder_among : List Cell → List ℕ → List ℕ → Option (ℕ × ℕ)
holder_among cells name [] = None
holder_among cells name (number ∷ nos) = elim (binding_place name (own_attributes (cell_of cells number))) [ Some at ↦ Some (number, at) | None ↦ holder_among cells name nos ]

-- the number of the first cell that has the attribute, and its place there
abbrev pub first_holder : List Cell → ℕ → List ℕ → Option (ℕ × ℕ)
first_holder cells number name = holder_among cells name (lineage cells number)

-- the holder with the value at the place
abbrev pub held_value : List Cell → Option (ℕ × ℕ) → Option (ℕ × Value)
held_value cells None = None
held_value cells (Some p) = option_map (λ b. (p.0, b.value)) (slice_get (own_attributes (cell_of cells p.0)) p.1)

-- the number of the first cell that has the attribute, and the value there
abbrev pub attribute_value : List Cell → ℕ → List ℕ → Option (ℕ × Value)
attribute_value cells number name = held_value cells (first_holder cells number name)
