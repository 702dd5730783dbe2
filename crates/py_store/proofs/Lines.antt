-- The order of the search is that of the line.
use Rattle.std.proofs.Common.{◌≡◌, ℕ, zero, suc, ◌+◌, ◌-◌, ◌<◌, ◌≤◌, List, [], ◌∷◌, length, Some, None, refl, ◌∙◌, ap, arith}
use Rattle.std.proofs.lemmas.Option.{slice_get_within}
use Rattle.py_store.specs.declared.cell.Cell.{Cell}
use Rattle.py_store.specs.declared.cell.Cell.TheVariants as cell
use Rattle.py_store.specs.Attributes.{parent_of, lineage_within, lineage, IsClassLine, Alone, Derived, IsLine, OfClass, OfInstance}
use Rattle.py_store.specs.Cells.{cell_of}

-- a cell's number is from 1 to their number
numbered : (cells : List Cell) (number : ℕ) (c : Cell) → cell_of cells number ≡ Some c → (0 < number) × (number ≤ length cells)
numbered cells zero c h = cc
numbered cells (suc at) c h =
    let within : at < length cells = slice_get_within cells at c h in
    (omega arith, omega arith)

-- one step of the search
begins : (cells : List Cell) (most number : ℕ) → 0 < most → lineage_within cells most (Some number) ≡ number ∷ lineage_within cells (most - 1) (parent_of (cell_of cells number))
begins cells most number some =
    let e : most ≡ suc (most - 1) = omega arith in
    ap (λ m. lineage_within cells m (Some number)) e

nothing_above : (cells : List Cell) (most : ℕ) → lineage_within cells most None ≡ []
nothing_above cells zero = refl
nothing_above cells (suc most) = refl

class_line : (cells : List Cell) (number : ℕ) (classes : List ℕ) (most : ℕ) → number ≤ most → IsClassLine cells number classes → lineage_within cells most (Some number) ≡ classes
class_line cells number classes most enough (Alone n name attributes is) =
    let above = (numbered cells n (cell.Class name None attributes) is).0 in
    begins cells most n (omega arith) ∙ ap (λ c. n ∷ lineage_within cells (most - 1) (parent_of c)) is ∙ ap (λ ns. n ∷ ns) (nothing_above cells (most - 1))
class_line cells number classes most enough (Derived n base name attributes bases is falls line) =
    let above = (numbered cells n (cell.Class name (Some base) attributes) is).0 in
    begins cells most n (omega arith) ∙ ap (λ c. n ∷ lineage_within cells (most - 1) (parent_of c)) is ∙ ap (λ ns. n ∷ ns) (class_line cells base bases (most - 1) (omega arith) line)

-- the number of a class is that of a cell
class_number : (cells : List Cell) (number : ℕ) (classes : List ℕ) → IsClassLine cells number classes → number ≤ length cells
class_number cells number classes (Alone n name attributes is) = (numbered cells n (cell.Class name None attributes) is).1
class_number cells number classes (Derived n base name attributes bases is falls line) = (numbered cells n (cell.Class name (Some base) attributes) is).1

pub line_is_searched : (cells : List Cell) (number : ℕ) (numbers : List ℕ) → IsLine cells number numbers → lineage cells number ≡ numbers
line_is_searched cells number numbers (OfClass n classes line) =
    let there = class_number cells n classes line in
    class_line cells n classes (length cells + 1) (omega arith) line
line_is_searched cells number numbers (OfInstance n class_no attributes classes is line) =
    let there = class_number cells class_no classes line in
    begins cells (length cells + 1) n (omega arith) ∙ ap (λ c. n ∷ lineage_within cells (length cells + 1 - 1) (parent_of c)) is ∙ ap (λ ns. n ∷ ns) (class_line cells class_no classes (length cells + 1 - 1) (omega arith) line)
