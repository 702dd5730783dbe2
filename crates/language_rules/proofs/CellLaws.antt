-- Cells that are taken out and put back, and what a computation on a cell makes of a state.
use Rattle.std.proofs.Common.{◌≡◌, ℕ, zero, suc, ◌-◌, ◌<◌, ◌≤◌, List, [], ◌∷◌, length, slice_get, slice_set, Option, Some, None, Result, Ok, Err, refl, sym, ◌∙◌, ap, arith}
use Rattle.rp_base.specs.declared.ends.OpEnd.{OpEnd}
use Rattle.rp_base.specs.declared.ends.OpEnd.TheVariants as op_end
use Rattle.rp_base.specs.declared.value.Value.{Value}
use Rattle.py_store.specs.declared.cell.Cell.{Cell}
use Rattle.py_store.specs.Cells.{Cells, cell_of, with_cell}
use Rattle.language_rules.specs.AtOnce.{at_once, Comes, over}
use Rattle.language_rules.specs.Codes.{Gives}
use Rattle.language_rules.specs.Going.{RuleTree, on_cell, reads_cell}
use Rattle.language_rules.specs.States.{State, cell_at, set_cell}

-- ---- lists of cells

pub set_twice : (cells : List Cell) (at : ℕ) (a b : Cell) → slice_set (slice_set cells at a) at b ≡ slice_set cells at b
set_twice [] at a b = refl
set_twice (c ∷ cs) zero a b = refl
set_twice (c ∷ cs) (suc at) a b = ap (λ (ds : List Cell). c ∷ ds) (set_twice cs at a b)

pub set_same : (cells : List Cell) (at : ℕ) (c : Cell) → slice_get cells at ≡ Some c → slice_set cells at c ≡ cells
set_same [] at c h = refl
set_same (d ∷ ds) zero c h = cc
set_same (d ∷ ds) (suc at) c h = ap (λ (es : List Cell). d ∷ es) (set_same ds at c h)

-- the cells where the same is put back
pub restored : (cells : List Cell) (n : ℕ) (placed c : Cell) → cell_of cells n ≡ Some c → with_cell (with_cell cells n placed) n c ≡ cells
restored cells zero placed c h = refl
restored cells (suc at) placed c h = set_twice cells at placed c ∙ set_same cells at c h

-- where there is something that no missing cell has, there is a cell
within : (Has : Option Cell → Type 0) → (Has None → ⊥) → (cells : List Cell) (at : ℕ) → Has (slice_get cells at) → at < length cells
within Has none [] at h = absurd (none h)
within Has none (c ∷ cs) zero h = omega arith
within Has none (c ∷ cs) (suc at) h = let p : at < length cs = within Has none cs at h in omega (arith, p)

pub is_there : (Has : Option Cell → Type 0) → (Has None → ⊥) → (cells : List Cell) (n : ℕ) → Has (cell_of cells n) → (0 < n) × (n ≤ length cells)
is_there Has none cells zero h = absurd (none h)
is_there Has none cells (suc at) h = let p : at < length cells = within Has none cells at h in (omega arith, omega (arith, p))

-- ---- states

less_one : (at : ℕ) → suc at - 1 ≡ at
less_one at = omega arith

set_at : (at : ℕ) (c : Cell) (s : State) → set_cell (suc at) c s ≡ over (slice_set s.cells at c) s
set_at at c s = ap (λ (k : ℕ). over (slice_set s.cells k c) s) (less_one at)

pub kept : (s : State) (n : ℕ) (c : Cell) → cell_at s n ≡ Some c → s ≡ set_cell n c s
kept s zero c h = cc
kept s (suc at) c h = ap (λ (cs : List Cell). over cs s) (sym (set_same s.cells at c h)) ∙ sym (set_at at c s)

-- a cell of a store that is taken out and put back otherwise
pub changed : (n : ℕ) (old taken now : Cells) (before placed after : Cell) → cell_of old.cells n ≡ Some before
    → taken ≡ record old { cells = with_cell old.cells n placed } → now ≡ record taken { cells = with_cell taken.cells n after }
    → (s : State) → set_cell n after (over old.cells s) ≡ over now.cells s
changed zero old taken now before placed after h p q s = cc
changed (suc at) old taken now before placed after h p q s =
    set_at at after (over old.cells s)
    ∙ ap (λ (cs : List Cell). over cs s) (sym (set_twice old.cells at placed after))
    ∙ ap (λ (st : Cells). over st.cells s) (sym (q ∙ ap (λ (st : Cells). record st { cells = with_cell st.cells (suc at) after }) p))

-- it is put back as it was
pub unchanged : (n : ℕ) (old taken now : Cells) (before placed after : Cell) → cell_of old.cells n ≡ Some before
    → taken ≡ record old { cells = with_cell old.cells n placed } → now ≡ record taken { cells = with_cell taken.cells n after } → after ≡ before → now ≡ old
unchanged n old taken now before placed after h p q e =
    q ∙ ap (λ (st : Cells). record st { cells = with_cell st.cells n after }) p
    ∙ ap (λ (c : Cell). record old { cells = with_cell (with_cell old.cells n placed) n c }) e
    ∙ ap (λ (cs : List Cell). record old { cells = cs }) (restored old.cells n placed before h)

-- ---- computations on a cell

-- what only reads leaves the cell as it is
pub read_changes : (t : RuleTree) (s : State) (n : ℕ) (c : Cell) (answer : Result Value OpEnd) → cell_at s n ≡ Some c → Comes t s answer s s → Comes t s answer (set_cell n c s) s
read_changes t s n c (Ok v) h e = e ∙ ap (λ (now : State). Some (Ok (Gives v), now)) (kept s n c h)
read_changes t s n c (Err (op_end.Raise r)) h e = e
read_changes t s n c (Err (op_end.Beyond b)) h e = e
read_changes t s n c (Err op_end.NoMemory) h e = e

looked : (f : Cell → RuleTree) (at : ℕ) (cells : List Cell) (c : Cell) (s : State) → slice_get cells at ≡ Some c → at_once (reads_cell (suc at) f) (over cells s) ≡ at_once (f c) (over cells s)
looked f at cells c s h = ap (λ (o : Option Cell). at_once (on_cell f o) (over cells s)) h

-- a computation on a cell that is taken out, changed and put back
pub carried : (f : Cell → RuleTree) (n : ℕ) (old taken now : Cells) (before placed after : Cell) (answer : Result Value OpEnd)
    → cell_of old.cells n ≡ Some before → taken ≡ record old { cells = with_cell old.cells n placed } → now ≡ record taken { cells = with_cell taken.cells n after }
    → ((s : State) → cell_at s n ≡ Some before → Comes (f before) s answer (set_cell n after s) s)
    → (s : State) → Comes (reads_cell n f) (over old.cells s) answer (over now.cells s) (over old.cells s)
carried f zero old taken now before placed after answer h p q e s = cc
carried f (suc at) old taken now before placed after (Ok v) h p q e s =
    looked f at old.cells before s h ∙ e (over old.cells s) h
    ∙ ap (λ (st : State). Some (Ok (Gives v), st)) (changed (suc at) old taken now before placed after h p q s)
carried f (suc at) old taken now before placed after (Err (op_end.Raise r)) h p q e s = looked f at old.cells before s h ∙ e (over old.cells s) h
carried f (suc at) old taken now before placed after (Err (op_end.Beyond b)) h p q e s = looked f at old.cells before s h ∙ e (over old.cells s) h
carried f (suc at) old taken now before placed after (Err op_end.NoMemory) h p q e s = e (over old.cells s) h

-- a computation on a cell that is read
pub read : (f : Cell → RuleTree) (n : ℕ) (cells : List Cell) (c : Cell) (answer : Result Value OpEnd) → cell_of cells n ≡ Some c
    → ((s : State) → Comes (f c) s answer s s) → (s : State) → Comes (reads_cell n f) (over cells s) answer (over cells s) (over cells s)
read f zero cells c answer h e s = cc
read f (suc at) cells c (Ok v) h e s = looked f at cells c s h ∙ e (over cells s)
read f (suc at) cells c (Err (op_end.Raise r)) h e s = looked f at cells c s h ∙ e (over cells s)
read f (suc at) cells c (Err (op_end.Beyond b)) h e s = looked f at cells c s h ∙ e (over cells s)
read f (suc at) cells c (Err op_end.NoMemory) h e s = e (over cells s)
