-- Cells that are taken out and put back.
use Rattle.std.proofs.Common.{◌≡◌, ℕ, zero, suc, ◌-◌, ◌+◌, ◌<◌, ◌≤◌, List, [], ◌∷◌, ◌++◌, length, slice_get, slice_set, Option, Some, Result, Ok, Err, OnErr, refl, sym, ◌∙◌, ap, arith}
use Rattle.rp_base.specs.declared.ends.OpEnd.{OpEnd}
use Rattle.rp_base.specs.declared.ends.OpEnd.TheVariants as op_end
use Rattle.rp_base.specs.declared.value.Value.{Value}
use Rattle.rp_base.specs.declared.value.Value.TheVariants as value
use Rattle.py_store.specs.declared.cell.Cell.{Cell}
use Rattle.py_store.specs.declared.cell.Cell.TheVariants as cell
use Rattle.py_store.specs.declared.cell.Which.{Which}
use Rattle.py_store.specs.declared.cell.Which.TheVariants as view
use Rattle.py_store.specs.Cells.{Cells, cell_of, with_cell}
use Rattle.py_store.specs.EntryLists.{EntryList}
use Rattle.language_rules.specs.AtOnce.{at_once, Comes, over}
use Rattle.language_rules.specs.Calls.{method_of_cell}
use Rattle.language_rules.specs.Codes.{Gives}
use Rattle.language_rules.specs.Going.{RuleTree, reads_cell, on_cell}
use Rattle.language_rules.specs.States.{State, cell_at, set_cell}
use Rattle.py_dicts.specs.DictCells.{IsDictCell, IsDict, view_method}

-- ---- lists of cells

set_twice : (cells : List Cell) (at : ℕ) (a b : Cell) → slice_set (slice_set cells at a) at b ≡ slice_set cells at b
set_twice [] at a b = refl
set_twice (c ∷ cs) zero a b = refl
set_twice (c ∷ cs) (suc at) a b = ap (λ (ds : List Cell). c ∷ ds) (set_twice cs at a b)

set_same : (cells : List Cell) (at : ℕ) (c : Cell) → slice_get cells at ≡ Some c → slice_set cells at c ≡ cells
set_same [] at c h = refl
set_same (d ∷ ds) zero c h = cc
set_same (d ∷ ds) (suc at) c h = ap (λ (es : List Cell). d ∷ es) (set_same ds at c h)

place_within : (cells : List Cell) (at : ℕ) → IsDictCell (slice_get cells at) → at < length cells
place_within [] at h = absurd h
place_within (c ∷ cs) zero h = omega arith
place_within (c ∷ cs) (suc at) h = let p : at < length cs = place_within cs at h in omega (arith, p)

pub dict_is_there : (cells : List Cell) (n : ℕ) → IsDict cells n → (0 < n) × (n ≤ length cells)
dict_is_there cells zero h = absurd h
dict_is_there cells (suc at) h = let p : at < length cells = place_within cells at h in (omega arith, omega (arith, p))

-- ---- states

less_one : (at : ℕ) → suc at - 1 ≡ at
less_one at = omega arith

set_at : (at : ℕ) (c : Cell) (s : State) → set_cell (suc at) c s ≡ over (slice_set s.cells at c) s
set_at at c s = ap (λ (k : ℕ). over (slice_set s.cells k c) s) (less_one at)

pub kept : (s : State) (n : ℕ) (c : Cell) → cell_at s n ≡ Some c → s ≡ set_cell n c s
kept s zero c h = cc
kept s (suc at) c h = ap (λ (cs : List Cell). over cs s) (sym (set_same s.cells at c h)) ∙ sym (set_at at c s)

-- what only reads leaves the cell as it is
pub read_changes : (t : RuleTree) (s : State) (n : ℕ) (c : Cell) (answer : Result Value OpEnd) → cell_at s n ≡ Some c → Comes t s answer s s → Comes t s answer (set_cell n c s) s
read_changes t s n c (Ok v) h e = e ∙ ap (λ (now : State). Some (Ok (Gives v), now)) (kept s n c h)
read_changes t s n c (Err (op_end.Raise r)) h e = e
read_changes t s n c (Err (op_end.Beyond b)) h e = e
read_changes t s n c (Err op_end.NoMemory) h e = e

looked : (f : Cell → RuleTree) (at : ℕ) (cells : List Cell) (c : Cell) (s : State) → slice_get cells at ≡ Some c → at_once (reads_cell (suc at) f) (over cells s) ≡ at_once (f c) (over cells s)
looked f at cells c s h = ap (λ (o : Option Cell). at_once (on_cell f o) (over cells s)) h

put_back : (at : ℕ) (cells : List Cell) (placed after : Cell) (s : State) → set_cell (suc at) after (over cells s) ≡ over (with_cell (with_cell cells (suc at) placed) (suc at) after) s
put_back at cells placed after s = set_at at after (over cells s) ∙ ap (λ (cs : List Cell). over cs s) (sym (set_twice cells at placed after))

-- a computation on a cell that is taken out, changed and put back
pub carried : (f : Cell → RuleTree) (n : ℕ) (old taken now : Cells) (before placed after : Cell) (answer : Result Value OpEnd)
    → cell_of old.cells n ≡ Some before → taken ≡ record old { cells = with_cell old.cells n placed } → now ≡ record taken { cells = with_cell taken.cells n after }
    → ((s : State) → cell_at s n ≡ Some before → Comes (f before) s answer (set_cell n after s) s)
    → (s : State) → Comes (reads_cell n f) (over old.cells s) answer (over now.cells s) (over old.cells s)
carried f zero old taken now before placed after answer h p q e s = cc
carried f (suc at) old taken now before placed after (Ok v) h p q e s =
    looked f at old.cells before s h ∙ e (over old.cells s) h
    ∙ ap (λ (now : State). Some (Ok (Gives v), now)) (put_back at old.cells placed after s)
    ∙ ap (λ (st : Cells). Some (Ok (Gives v), over st.cells s)) (sym (q ∙ ap (λ (st : Cells). record st { cells = with_cell st.cells (suc at) after }) p))
carried f (suc at) old taken now before placed after (Err (op_end.Raise r)) h p q e s = looked f at old.cells before s h ∙ e (over old.cells s) h
carried f (suc at) old taken now before placed after (Err (op_end.Beyond b)) h p q e s = looked f at old.cells before s h ∙ e (over old.cells s) h
carried f (suc at) old taken now before placed after (Err op_end.NoMemory) h p q e s = e (over old.cells s) h

-- a computation on a cell that is read
pub read : (f : Cell → RuleTree) (n : ℕ) (cells : List Cell) (c : Cell) (answer : Result Value OpEnd) → cell_of cells n ≡ Some c
    → ((s : State) → Comes (f c) s answer s s) → (s : State) → Comes (reads_cell n f) (over cells s) answer (over cells s) (over cells s)
read f zero cells c answer h e s = cc
read f (suc at) cells c (Ok v) h e s = looked f at cells c s h ∙ e (over cells s)
read f (suc at) cells c (Err (op_end.Raise r)) h e s = looked f at cells c s h ∙ e (over cells s)
read f (suc at) cells c (Err (op_end.Beyond b)) h e s = looked f at cells c s h ∙ e (over cells s)
read f (suc at) cells c (Err op_end.NoMemory) h e s = e (over cells s)

-- the cells where the same is put back
pub restored : (cells : List Cell) (n : ℕ) (placed c : Cell) → cell_of cells n ≡ Some c → with_cell (with_cell cells n placed) n c ≡ cells
restored cells zero placed c h = refl
restored cells (suc at) placed c h = set_twice cells at placed c ∙ set_same cells at c h

-- an end that is no value keeps the store
pub kept_store : (answer : Result Value OpEnd) (old taken now : Cells) (n : ℕ) (entries after : EntryList) (shape next : ℕ)
    → cell_of old.cells n ≡ Some (cell.Dict entries shape) → taken ≡ record old { cells = with_cell old.cells n cell.Root } → now ≡ record taken { cells = with_cell taken.cells n (cell.Dict after next) }
    → OnErr answer ((after ≡ entries) × (next ≡ shape)) → OnErr answer (now ≡ old)
kept_store (Ok v) old taken now n entries after shape next h p q k = tt
kept_store (Err e) old taken now n entries after shape next h p q k =
    q ∙ ap (λ (st : Cells). record st { cells = with_cell st.cells n (cell.Dict after next) }) p
    ∙ ap (λ (es : EntryList). record old { cells = with_cell (with_cell old.cells n cell.Root) n (cell.Dict es next) }) k.0
    ∙ ap (λ (m : ℕ). record old { cells = with_cell (with_cell old.cells n cell.Root) n (cell.Dict entries m) }) k.1
    ∙ ap (λ (cs : List Cell). record old { cells = cs }) (restored old.cells n cell.Root (cell.Dict entries shape) h)

-- a new view
viewed_at : (n : ℕ) (which : Which) (o : Option Cell) (cells : List Cell) (s : State) → IsDictCell o
    → at_once (on_cell (method_of_cell n (view_method which) []) o) (over cells s) ≡ Some (Ok (Gives (value.Own (suc (length cells)))), over (cells ++ cell.View n which ∷ []) s)
viewed_at n view.Keys (Some (cell.Dict entries shape)) cells s h = refl
viewed_at n view.Values (Some (cell.Dict entries shape)) cells s h = refl
viewed_at n view.Items (Some (cell.Dict entries shape)) cells s h = refl
viewed_at n which _ cells s h = absurd h

look_at : (n : ℕ) (f : Cell → RuleTree) (cells : List Cell) (s : State) → at_once (reads_cell n f) (over cells s) ≡ at_once (on_cell f (cell_of cells n)) (over cells s)
look_at zero f cells s = refl
look_at (suc at) f cells s = refl

next_number : (k m : ℕ) → k ≡ m + 1 → suc m ≡ k
next_number k m h = omega (arith, h)

pub viewed : (n : ℕ) (which : Which) (cells : List Cell) (k : ℕ) (s : State) → IsDict cells n → k ≡ length cells + 1
    → at_once (reads_cell n (method_of_cell n (view_method which) [])) (over cells s) ≡ Some (Ok (Gives (value.Own k)), over (cells ++ cell.View n which ∷ []) s)
viewed n which cells k s h e =
    look_at n (method_of_cell n (view_method which) []) cells s ∙ viewed_at n which (cell_of cells n) cells s h
    ∙ ap (λ (m : ℕ). Some (Ok (Gives (value.Own m)), over (cells ++ cell.View n which ∷ []) s)) (next_number k (length cells) e)
