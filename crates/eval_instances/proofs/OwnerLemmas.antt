-- Instances and classes, whose own attributes are set and deleted.
use Rattle.std.proofs.Common.{◌≡◌, ◌<◌, ◌≤◌, ℕ, Bool, true, false, length, List, [], reverse, Option, Some, None, Result, Ok, Err, IfOk, OnOk, is_some, refl, sym, ◌∙◌, ap, if◌then◌else◌}
use Rattle.std.specs.Bool.{⊤}
use Rattle.rp_base.specs.declared.ends.NoMemory.{NoMemory}
use Rattle.rp_base.specs.declared.value.Value.{Value}
use Rattle.py_ast.specs.declared.program.Program.{Program}
use Rattle.py_store.specs.Attributes.{own_attributes}
use Rattle.py_store.specs.Bindings.{bound_value}
use Rattle.py_store.specs.Cells.{Cells, cell_of, with_cell}
use Rattle.py_store.specs.declared.cell.Cell.{Cell}
use Rattle.py_store.specs.declared.cell.Cell.TheVariants as cell
use Rattle.side_trees.specs.Trees.{Return, bind}
use Rattle.language_rules.proofs.CellLaws.{changed, is_there}
use Rattle.language_rules.specs.AtOnce.{stated}
use Rattle.language_rules.specs.Attributes.{deletes_in_cell, no_attribute, sets_in_cell}
use Rattle.language_rules.specs.Going.{RuleTree, done, on_cell, reads_cell, sets_cell}
use Rattle.language_rules.specs.Running.{runs}
use Rattle.language_rules.specs.States.{State, set_cell}
use Rattle.eval_frames.specs.declared.frame.Frame.{Frame}
use Rattle.eval_frames.specs.declared.next.Next.{Next}
use Rattle.eval_frames.specs.Meaning.{Means, rest}
use Rattle.eval_ranges.proofs.CellSteps.{Over}
use Rattle.eval_ranges.proofs.SpecialLemmas.{Plainly}
use Rattle.eval_instances.specs.Owners.{IsOwner, IsOwnerCell, with_own, without_own}

pub owner_is_there : (cells : List Cell) (n : ℕ) → IsOwner cells n → (0 < n) × (n ≤ length cells)
owner_is_there cells n h = is_there IsOwnerCell (λ none. none) cells n h

-- ---- what is put in the place of a cell

-- the cell after is that before, changed
abbrev pub Sets : (Cell → Cell) → List Cell → List Cell → ℕ → Type 0
Sets change cells after n = (c : Cell) → cell_of cells n ≡ Some c → (fixed : State) (texts : List Program) → set_cell n (change c) (stated fixed cells texts) ≡ stated fixed after texts

pub replaced : (change : Cell → Cell) (n : ℕ) (old taken now : Cells) (before placed after : Cell) → cell_of old.cells n ≡ Some before
    → taken ≡ record old { cells = with_cell old.cells n placed } → now ≡ record taken { cells = with_cell taken.cells n after } → change before ≡ after
    → Sets change old.cells now.cells n
replaced change n old taken now before placed after h p q e c k fixed texts =
    let same : c ≡ before = ap (λ (o : Option Cell). elim o [ Some d ↦ d | None ↦ c ]) (sym k ∙ h) in
    ap (λ (d : Cell). set_cell n d (stated fixed old.cells texts)) (ap change same ∙ e) ∙ changed n old taken now before placed after h p q (stated fixed [] texts)

-- ---- setting

set_at : (cells after : List Cell) (n : ℕ) (rule : Cell → RuleTree) (change : Cell → Cell) (c : Cell) (next : Next) → cell_of cells n ≡ Some c
    → rule c ≡ sets_cell n (change c) (Return done) → Sets change cells after n → Plainly (Return done) next → Over cells after (reads_cell n rule) next
set_at cells after n rule change c next is so sets plainly = λ fixed texts stack units printed.
    ap (λ (o : Option Cell). runs units (bind (on_cell rule o) (rest (reverse stack))) (stated fixed cells texts) printed) is
    ∙ ap (λ (t : RuleTree). runs units (bind t (rest (reverse stack))) (stated fixed cells texts) printed) so
    ∙ ap (λ (s : State). runs units (bind (Return done) (rest (reverse stack))) s printed) (sets c is fixed texts)
    ∙ ap (λ (x : RuleTree). runs units x (stated fixed after texts) printed) (sym (plainly stack))

own_at : (cells after : List Cell) (n : ℕ) (name : List ℕ) (v : Value) (next : Next) (o : Option Cell) → cell_of cells n ≡ o → IsOwnerCell o
    → Sets (with_own name v) cells after n → Plainly (Return done) next → Over cells after (reads_cell n (sets_in_cell n name v)) next
own_at cells after n name v next (Some (cell.Instance k bs)) is h sets plainly = set_at cells after n (sets_in_cell n name v) (with_own name v) (cell.Instance k bs) next is refl sets plainly
own_at cells after n name v next (Some (cell.Class k b bs)) is h sets plainly = set_at cells after n (sets_in_cell n name v) (with_own name v) (cell.Class k b bs) next is refl sets plainly
own_at cells after n name v next _ is h sets plainly = absurd h

pub own_set : (cells after : List Cell) (n : ℕ) (name : List ℕ) (v : Value) (next : Next) → IsOwner cells n
    → Sets (with_own name v) cells after n → Plainly (Return done) next → Over cells after (reads_cell n (sets_in_cell n name v)) next
own_set cells after n name v next h sets plainly = own_at cells after n name v next (cell_of cells n) refl h sets plainly

-- ---- deleting

taken_at : (cells after : List Cell) (n : ℕ) (name : List ℕ) (next : Next) (o : Option Cell) → cell_of cells n ≡ o → IsOwnerCell o → is_some (bound_value name (own_attributes o)) ≡ true
    → Sets (without_own name) cells after n → Plainly (Return done) next → Over cells after (reads_cell n (deletes_in_cell n name)) next
taken_at cells after n name next (Some (cell.Instance k bs)) is h there sets plainly =
    set_at cells after n (deletes_in_cell n name) (without_own name) (cell.Instance k bs) next is
    (ap (λ (b : Bool). if b then sets_cell n (without_own name (cell.Instance k bs)) (Return done) else no_attribute name) there) sets plainly
taken_at cells after n name next (Some (cell.Class k b bs)) is h there sets plainly =
    set_at cells after n (deletes_in_cell n name) (without_own name) (cell.Class k b bs) next is
    (ap (λ (t : Bool). if t then sets_cell n (without_own name (cell.Class k b bs)) (Return done) else no_attribute name) there) sets plainly
taken_at cells after n name next _ is h there sets plainly = absurd h

pub own_taken : (cells after : List Cell) (n : ℕ) (name : List ℕ) (next : Next) (b : Bool) → IsOwner cells n → b ≡ is_some (bound_value name (own_attributes (cell_of cells n))) → b ≡ true
    → Sets (without_own name) cells after n → Plainly (Return done) next → Over cells after (reads_cell n (deletes_in_cell n name)) next
own_taken cells after n name next b h told is sets plainly = taken_at cells after n name next (cell_of cells n) refl h (sym told ∙ is) sets plainly

missing_at : (cells : List Cell) (n : ℕ) (name : List ℕ) (next : Next) (o : Option Cell) → cell_of cells n ≡ o → IsOwnerCell o → is_some (bound_value name (own_attributes o)) ≡ false
    → Plainly (no_attribute name) next → Over cells cells (reads_cell n (deletes_in_cell n name)) next
missing_at cells n name next (Some (cell.Instance k bs)) is h there plainly = λ fixed texts stack units printed.
    ap (λ (o : Option Cell). runs units (bind (on_cell (deletes_in_cell n name) o) (rest (reverse stack))) (stated fixed cells texts) printed) is
    ∙ ap (λ (b : Bool). runs units (bind (if b then sets_cell n (without_own name (cell.Instance k bs)) (Return done) else no_attribute name) (rest (reverse stack))) (stated fixed cells texts) printed) there
    ∙ ap (λ (x : RuleTree). runs units x (stated fixed cells texts) printed) (sym (plainly stack))
missing_at cells n name next (Some (cell.Class k b bs)) is h there plainly = λ fixed texts stack units printed.
    ap (λ (o : Option Cell). runs units (bind (on_cell (deletes_in_cell n name) o) (rest (reverse stack))) (stated fixed cells texts) printed) is
    ∙ ap (λ (t : Bool). runs units (bind (if t then sets_cell n (without_own name (cell.Class k b bs)) (Return done) else no_attribute name) (rest (reverse stack))) (stated fixed cells texts) printed) there
    ∙ ap (λ (x : RuleTree). runs units x (stated fixed cells texts) printed) (sym (plainly stack))
missing_at cells n name next _ is h there plainly = absurd h

pub own_missing : (cells : List Cell) (n : ℕ) (name : List ℕ) (b : Bool) (r : Result Next NoMemory) → IsOwner cells n → b ≡ is_some (bound_value name (own_attributes (cell_of cells n))) → b ≡ false
    → IfOk r (Plainly (no_attribute name)) → IfOk r (Over cells cells (reads_cell n (deletes_in_cell n name)))
own_missing cells n name b (Ok next) h told is plainly = missing_at cells n name next (cell_of cells n) refl h (sym told ∙ is) plainly
own_missing cells n name b (Err e) h told is plainly = plainly

-- ---- where there was memory for it

pub where_put : {P : Type 0} (put : Result ⊤ NoMemory) (change : Cell → Cell) (old now : Cells) (n : ℕ) → OnOk put P → (P → Sets change old.cells now.cells n) → OnOk put (Sets change old.cells now.cells n)
where_put (Ok u) change old now n h sets = sets h
where_put (Err e) change old now n h sets = h
