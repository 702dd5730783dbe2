-- Iterators, which are looked at, go on or come to their end.
use Rattle.std.proofs.Common.{◌≡◌, ℕ, ◌<◌, ◌≤◌, false, length, List, [], ◌∷◌, reverse, Option, Some, None, Result, Ok, Err, IfOk, refl, sym, ◌∙◌, ap, subst}
use Rattle.rp_base.specs.declared.ends.NoMemory.{NoMemory}
use Rattle.rp_base.specs.declared.value.Value.{Value}
use Rattle.object_operations.specs.declared.special.Special.{Special}
use Rattle.object_operations.specs.declared.special.Special.TheVariants as special
use Rattle.py_ast.specs.declared.program.Program.{Program}
use Rattle.py_store.specs.Cells.{Cells, cell_of, with_cell}
use Rattle.py_store.specs.declared.cell.Cell.{Cell}
use Rattle.py_store.specs.declared.cell.Cell.TheVariants as cell
use Rattle.side_trees.specs.Trees.{bind}
use Rattle.language_rules.proofs.CellLaws.{changed, is_there}
use Rattle.language_rules.specs.AtOnce.{stated}
use Rattle.language_rules.specs.Going.{RuleTree, on_cell, reads_cell, sets_cell}
use Rattle.language_rules.specs.Iterating.{next_rule}
use Rattle.language_rules.specs.Perform.{special_of_cell}
use Rattle.language_rules.specs.Running.{runs}
use Rattle.language_rules.specs.States.{State, set_cell}
use Rattle.eval_frames.specs.declared.frame.Frame.{Frame}
use Rattle.eval_frames.specs.declared.next.Next.{Next}
use Rattle.eval_frames.specs.Meaning.{Means, MeansIn, rest}
use Rattle.eval_ranges.proofs.SpecialLemmas.{Plainly, Within, in_state}
use Rattle.eval_objects.specs.Iterators.{ComesOn, IsIter, IsIterCell, asks_next, comes_up, still_of_cell}
use Rattle.eval_objects.specs.declared.upcoming.Upcoming.{Upcoming}
use Rattle.eval_ranges.proofs.CellSteps.{Over, at_cell}

pub iterator_is_there : (cells : List Cell) (n : ℕ) → IsIter cells n → (0 < n) × (n ≤ length cells)
iterator_is_there cells n h = is_there IsIterCell (λ none. none) cells n h

-- ---- what is put in the place of an iterator

pub replaced : (change : Cell → Cell) (n : ℕ) (old taken now : Cells) (before placed after c : Cell) → cell_of old.cells n ≡ Some before
    → taken ≡ record old { cells = with_cell old.cells n placed } → now ≡ record taken { cells = with_cell taken.cells n after } → change before ≡ after
    → cell_of old.cells n ≡ Some c → (fixed : State) (texts : List Program) → set_cell n (change c) (stated fixed old.cells texts) ≡ stated fixed now.cells texts
replaced change n old taken now before placed after c h p q e k fixed texts =
    let same : c ≡ before = ap (λ (o : Option Cell). elim o [ Some d ↦ d | None ↦ c ]) (sym k ∙ h) in
    ap (λ (d : Cell). set_cell n d (stated fixed old.cells texts)) (ap change same ∙ e) ∙ changed n old taken now before placed after h p q (stated fixed [] texts)

set_at : (cells after : List Cell) (number : ℕ) (change : Cell → Cell) (t : RuleTree) (n : Next) (o : Option Cell) → cell_of cells number ≡ o → IsIterCell o
    → ((c : Cell) → cell_of cells number ≡ Some c → (fixed : State) (texts : List Program) → set_cell number (change c) (stated fixed cells texts) ≡ stated fixed after texts)
    → Plainly t n → Over cells after (reads_cell number (λ c. sets_cell number (change c) t)) n
set_at cells after number change t n None is h sets plainly = absurd h
set_at cells after number change t n (Some c) is h sets plainly = λ fixed texts stack units printed.
    ap (λ (o : Option Cell). runs units (bind (on_cell (λ c. sets_cell number (change c) t) o) (rest (reverse stack))) (stated fixed cells texts) printed) is
    ∙ ap (λ (s : State). runs units (bind t (rest (reverse stack))) s printed) (sets c is fixed texts)
    ∙ ap (λ (x : RuleTree). runs units x (stated fixed after texts) printed) (sym (plainly stack))

pub set_there : (cells after : List Cell) (number : ℕ) (change : Cell → Cell) (t : RuleTree) (n : Next) → IsIter cells number
    → ((c : Cell) → cell_of cells number ≡ Some c → (fixed : State) (texts : List Program) → set_cell number (change c) (stated fixed cells texts) ≡ stated fixed after texts)
    → Plainly t n → Over cells after (reads_cell number (λ c. sets_cell number (change c) t)) n
set_there cells after number change t n h sets plainly = set_at cells after number change t n (cell_of cells number) refl h sets plainly

-- what an iterator comes to, and then what is made of that
pub led_on : (cells after : List Cell) (number : ℕ) (u : Upcoming) (r : Result Next NoMemory) → ComesOn cells number u → IfOk r (Over cells after (reads_cell number (comes_up number u)))
    → IfOk r (Over cells after (reads_cell number (next_rule number)))
led_on cells after number u (Ok n) on h = λ fixed texts stack units printed. on fixed texts (rest (reverse stack)) units printed ∙ h fixed texts stack units printed
led_on cells after number u (Err e) on h = h

-- ---- what leaves an iterator as it is

same_still : (o : Special) (n : ℕ) (vs : List Value) (c : Cell) → asks_next o vs ≡ false → still_of_cell o n vs c ≡ special_of_cell o n vs c
same_still special.Next n [] c h = cc
same_still special.Next n (v ∷ vs) c h = refl
same_still special.Len n vs c h = refl
same_still special.Bool n vs c h = refl
same_still special.GetItem n vs c h = refl
same_still special.SetItem n vs c h = refl
same_still special.DelItem n vs c h = refl
same_still special.Contains n vs c h = refl
same_still special.Iter n vs c h = refl
same_still special.Add n vs c h = refl
same_still special.Sub n vs c h = refl
same_still special.Mul n vs c h = refl
same_still special.FloorDiv n vs c h = refl
same_still special.Mod n vs c h = refl
same_still special.Neg n vs c h = refl
same_still special.IAdd n vs c h = refl
same_still special.GetModule n vs c h = refl

-- what comes next of every iterator
abbrev pub OfIterators : List Cell → (Cell → RuleTree) → Next → Type 0
OfIterators cells rule n = (source : Option Value) (at shape : ℕ) (fixed : State) (texts : List Program) (stack : List Frame) → MeansIn (stated fixed cells texts) stack n (rule (cell.Iter source at shape)) stack

iterator_at : (cells : List Cell) (number : ℕ) (rule : Cell → RuleTree) (n : Next) (o : Option Cell) → cell_of cells number ≡ o → IsIterCell o → OfIterators cells rule n → Within cells (reads_cell number rule) n
iterator_at cells number rule n (Some (cell.Iter source at shape)) is h of = at_cell cells number (cell.Iter source at shape) rule n is (of source at shape)
iterator_at cells number rule n _ is h of = absurd h

pub still_there : (cells : List Cell) (number : ℕ) (o : Special) (vs : List Value) (r : Result Next NoMemory) → IsIter cells number → asks_next o vs ≡ false
    → IfOk r (OfIterators cells (still_of_cell o number vs)) → IfOk r (Within cells (reads_cell number (special_of_cell o number vs)))
still_there cells number o vs (Ok n) h still of =
    iterator_at cells number (special_of_cell o number vs) n (cell_of cells number) refl h
    (λ source at shape fixed texts stack. subst (λ (t : RuleTree). MeansIn (stated fixed cells texts) stack n t stack) (same_still o number vs (cell.Iter source at shape) still) (of source at shape fixed texts stack))
still_there cells number o vs (Err e) h still of = of

-- by the name of the operation
pub still_told : (cells : List Cell) (number : ℕ) (vs : List Value) (operator as_told : Special) (t : RuleTree) (r : Result Next NoMemory) → operator ≡ as_told
    → ((source : Option Value) (at shape : ℕ) → still_of_cell as_told number vs (cell.Iter source at shape) ≡ t) → IfOk r (Plainly t) → IfOk r (OfIterators cells (still_of_cell operator number vs))
still_told cells number vs operator as_told t (Ok n) is so h = λ source at shape fixed texts stack.
    in_state (stated fixed cells texts) (still_of_cell operator number vs (cell.Iter source at shape)) n stack stack
    (h stack ∙ ap (λ (x : RuleTree). bind x (rest (reverse stack))) (sym (so source at shape) ∙ ap (λ (s : Special). still_of_cell s number vs (cell.Iter source at shape)) (sym is)))
still_told cells number vs operator as_told t (Err e) is so h = h

pub still_plain : (number : ℕ) (vs : List Value) (operator as_told : Special) (t : RuleTree) (r : Result Next NoMemory) → operator ≡ as_told
    → ((source : Option Value) (at shape : ℕ) → still_of_cell as_told number vs (cell.Iter source at shape) ≡ t) → IfOk r (Plainly t)
    → IfOk r (λ n. (source : Option Value) (at shape : ℕ) (stack : List Frame) → Means stack n (still_of_cell operator number vs (cell.Iter source at shape)) stack)
still_plain number vs operator as_told t (Ok n) is so h = λ source at shape stack.
    h stack ∙ ap (λ (x : RuleTree). bind x (rest (reverse stack))) (sym (so source at shape) ∙ ap (λ (s : Special). still_of_cell s number vs (cell.Iter source at shape)) (sym is))
still_plain number vs operator as_told t (Err e) is so h = h
