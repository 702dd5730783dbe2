-- The cells with which a side starts.
use Rattle.std.specs.Prelude.{◌≡◌, ℕ, [], ◌∷◌, List, length}
use Rattle.py_store.specs.declared.cell.Cell.{Cell}
use Rattle.py_store.specs.declared.cell.Cell.TheVariants as cell
use Rattle.host_api.specs.Modules.{Module}
use Rattle.language_rules.specs.Programs.{with_names}
use Rattle.language_rules.specs.Starting.{host_cells}

-- the namespace, in which these names of handlers are reserved, the root, and a cell for each module
abbrev pub first_cells_of : List (List ℕ) → List Module → List Cell
first_cells_of names modules = cell.Namespace [] (with_names names []) ∷ cell.Root ∷ host_cells 0 modules

-- the first cells, whichever the so many modules are
abbrev pub AreFirst : List (List ℕ) → ℕ → List Cell → Type 0
AreFirst names count cells = (modules : List Module) → length modules ≡ count → cells ≡ first_cells_of names modules
