-- The one heap: a list of cells, each with its home. A cell's contents are kept as its home sees them: a cell of the same home by its number, one of the other home by its identity.
use Rattle.std.specs.Prelude.{◌≡◌, List, [], ◌∷◌}
use Rattle.std.proofs.Common.{refl, ap}
use Rattle.py_store.specs.declared.cell.Cell.{Cell}
use Rattle.side_trees.specs.SharedRun.{Side, A, B, other, Two, part, over, part_over, part_across}
use Rattle.language_rules.specs.States.{State}

pub record HomeCell : Type 0 where
  pub home : Side
  pub cell : Cell

-- cells: in the order in which they were made. sides: all else of each side; its cells there count for nothing.
pub record SharedHeap : Type 0 where
  pub cells : List HomeCell
  pub sides : Two State

-- ---- the cells of a home

abbrev pub at_home : Side → Side → Cell → List Cell → List Cell
at_home A A c cs = c ∷ cs
at_home A B c cs = cs
at_home B A c cs = cs
at_home B B c cs = c ∷ cs

abbrev pub cells_of : Side → List HomeCell → List Cell
cells_of h [] = []
cells_of h (c ∷ cs) = at_home h c.home c.cell (cells_of h cs)

-- ---- the cells of a home with new contents: each in its place, more at the end, and the other home's as they are

abbrev pub cell_at_home : Side → Cell → HomeCell
cell_at_home h c = record { home = h; cell = c }

abbrev pub added : Side → List Cell → List HomeCell
added h [] = []
added h (c ∷ cs) = cell_at_home h c ∷ added h cs

abbrev pub placed : Side → Side → Cell → List Cell → (List Cell → List HomeCell) → List HomeCell
placed A A old [] rest = rest []
placed A A old (c ∷ cs) rest = cell_at_home A c ∷ rest cs
placed A B old cs rest = cell_at_home B old ∷ rest cs
placed B A old cs rest = cell_at_home A old ∷ rest cs
placed B B old [] rest = rest []
placed B B old (c ∷ cs) rest = cell_at_home B c ∷ rest cs

abbrev pub replaced : Side → List Cell → List HomeCell → List HomeCell
replaced h news [] = added h news
replaced h news (c ∷ cs) = placed h c.home c.cell news (λ ns. replaced h ns cs)

-- ---- a side's part of the heap, and a change of it

abbrev pub seen_by : Side → SharedHeap → State
seen_by h w = record (part h w.sides) { cells = cells_of h w.cells }

abbrev pub put_back : Side → State → SharedHeap → SharedHeap
put_back h s w = record { cells = replaced h s.cells w.cells; sides = over h (λ old. s) w.sides }

abbrev pub changed_by : Side → (State → State) → SharedHeap → SharedHeap
changed_by h g w = put_back h (g (seen_by h w)) w

-- ---- each side finds its cells as they were put, and the other's as they were

added-own : (h : Side) (cs : List Cell) → cells_of h (added h cs) ≡ cs
added-own A [] = refl
added-own A (c ∷ cs) = ap (λ (ds : List Cell). c ∷ ds) (added-own A cs)
added-own B [] = refl
added-own B (c ∷ cs) = ap (λ (ds : List Cell). c ∷ ds) (added-own B cs)

added-across : (h : Side) (cs : List Cell) → cells_of (other h) (added h cs) ≡ []
added-across A [] = refl
added-across A (c ∷ cs) = added-across A cs
added-across B [] = refl
added-across B (c ∷ cs) = added-across B cs

placed-own : (h k : Side) (old : Cell) (news : List Cell) (rest : List Cell → List HomeCell) → ((ns : List Cell) → cells_of h (rest ns) ≡ ns) → cells_of h (placed h k old news rest) ≡ news
placed-own A A old [] rest f = f []
placed-own A A old (c ∷ cs) rest f = ap (λ (ds : List Cell). c ∷ ds) (f cs)
placed-own A B old cs rest f = f cs
placed-own B A old cs rest f = f cs
placed-own B B old [] rest f = f []
placed-own B B old (c ∷ cs) rest f = ap (λ (ds : List Cell). c ∷ ds) (f cs)

placed-across : (h k : Side) (old : Cell) (news : List Cell) (rest : List Cell → List HomeCell) (olds : List Cell) → ((ns : List Cell) → cells_of (other h) (rest ns) ≡ olds)
    → cells_of (other h) (placed h k old news rest) ≡ at_home (other h) k old olds
placed-across A A old [] rest olds f = f []
placed-across A A old (c ∷ cs) rest olds f = f cs
placed-across A B old cs rest olds f = ap (λ (ds : List Cell). old ∷ ds) (f cs)
placed-across B A old cs rest olds f = ap (λ (ds : List Cell). old ∷ ds) (f cs)
placed-across B B old [] rest olds f = f []
placed-across B B old (c ∷ cs) rest olds f = f cs

replaced-own : (h : Side) (news : List Cell) (cs : List HomeCell) → cells_of h (replaced h news cs) ≡ news
replaced-own h news [] = added-own h news
replaced-own h news (c ∷ cs) = placed-own h c.home c.cell news (λ ns. replaced h ns cs) (λ ns. replaced-own h ns cs)

replaced-across : (h : Side) (news : List Cell) (cs : List HomeCell) → cells_of (other h) (replaced h news cs) ≡ cells_of (other h) cs
replaced-across h news [] = added-across h news
replaced-across h news (c ∷ cs) = placed-across h c.home c.cell news (λ ns. replaced h ns cs) (cells_of (other h) cs) (λ ns. replaced-across h ns cs)

-- ---- the laws of one heap

put-own : (h : Side) (s : State) (w : SharedHeap) → seen_by h (put_back h s w) ≡ s
put-own h s w = λ i. record (part_over h (λ (old : State). s) w.sides i) { cells = replaced-own h s.cells w.cells i }

pub seen_changed : (h : Side) (g : State → State) (w : SharedHeap) → seen_by h (changed_by h g w) ≡ g (seen_by h w)
seen_changed h g w = put-own h (g (seen_by h w)) w

put-across : (h : Side) (s : State) (w : SharedHeap) → seen_by (other h) (put_back h s w) ≡ seen_by (other h) w
put-across h s w = λ i. record (part_across h (λ (old : State). s) w.sides i) { cells = replaced-across h s.cells w.cells i }

pub seen_across : (h : Side) (g : State → State) (w : SharedHeap) → seen_by (other h) (changed_by h g w) ≡ seen_by (other h) w
seen_across h g w = put-across h (g (seen_by h w)) w
