-- The cells of modules, made one after another.
use Rattle.std.proofs.Common.{◌≡◌, ◌+◌, ◌<◌, ◌≤◌, ℕ, zero, suc, List, [], ◌∷◌, ◌++◌, length, refl, sym, ap, ◌∙◌, append-nil, append_assoc, length-append, arith}
use Rattle.py_store.specs.declared.cell.Cell.{Cell}
use Rattle.py_store.specs.declared.cell.Cell.TheVariants as cell
use Rattle.py_store.specs.Cells.{most_cells}
use Rattle.host_api.specs.Modules.{Module}
use Rattle.language_rules.specs.Programs.{with_names}
use Rattle.language_rules.specs.Starting.{host_cells}
use Rattle.slave_service.specs.FirstCells.{AreFirst, first_cells_of}

-- the cells of the first so many modules
abbrev pub hosts_to : ℕ → List Cell
hosts_to zero = []
hosts_to (suc n) = hosts_to n ++ cell.Host n ∷ []

-- the namespace, the root, and the cells of the first so many modules
abbrev pub made_to : List (List ℕ) → ℕ → List Cell
made_to names n = cell.Namespace [] (with_names names []) ∷ cell.Root ∷ hosts_to n

hosts_length : (n : ℕ) → length (hosts_to n) ≡ n
hosts_length zero = refl
hosts_length (suc n) =
    let one : length (hosts_to n) + 1 ≡ suc n = omega (arith, hosts_length n) in
    length-append (hosts_to n) (cell.Host n ∷ []) ∙ one

-- there is room for one more
pub room : (names : List (List ℕ)) (n modules : ℕ) (cells : List Cell) → cells ≡ made_to names n → n < modules → modules + 2 ≤ most_cells → length cells < most_cells
room names n modules cells e less most =
    let made : length cells ≡ suc (suc (length (hosts_to n))) = ap length e in
    omega (arith, made, hosts_length n, less, most)

-- the first so many, and then the others
behind : (n : ℕ) (modules : List Module) → hosts_to n ++ host_cells n modules ≡ hosts_to (n + length modules)
behind n [] =
    let none : n ≡ n + 0 = omega arith in
    append-nil (hosts_to n) ∙ ap hosts_to none
behind n (m ∷ ms) =
    let one : suc n + length ms ≡ n + suc (length ms) = omega arith in
    sym (append_assoc (hosts_to n) (cell.Host n ∷ []) (host_cells (suc n) ms)) ∙ behind (suc n) ms ∙ ap hosts_to one

pub all_made : (names : List (List ℕ)) (count : ℕ) (cells : List Cell) → cells ≡ made_to names count → AreFirst names count cells
all_made names count cells e modules l =
    let none : count ≡ 0 + length modules = omega (arith, l) in
    e ∙ ap (made_to names) none ∙ sym (ap (λ (hosts : List Cell). cell.Namespace [] (with_names names []) ∷ cell.Root ∷ hosts) (behind 0 modules))
