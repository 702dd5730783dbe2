-- The cells of a side, by their numbers, which count from 1.
use Rattle.std.specs.Prelude.{ℕ, zero, suc, List, Option, None, slice_get, slice_set}
use Rattle.rp_base.specs.declared.ends.Side.{Side}
use Rattle.py_store.specs.declared.cell.Cell.{Cell}

-- the cell of this number
abbrev pub cell_of : List Cell → ℕ → Option Cell
cell_of cells zero = None
cell_of cells (suc at) = slice_get cells at

-- the cells, with this one in the place of that number
abbrev pub with_cell : List Cell → ℕ → Cell → List Cell
with_cell cells zero cell = cells
with_cell cells (suc at) cell = slice_set cells at cell

-- what contracts see of a store: the side that it is of, and its cells
pub record Cells : Type 0 where
  pub side : Side
  pub cells : List Cell

-- how many cells a side may have
abbrev pub most_cells : ℕ
most_cells = 4000000000
