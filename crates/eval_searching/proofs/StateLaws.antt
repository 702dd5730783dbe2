-- Steps over a list as it is now.
use Rattle.std.proofs.Common.{◌≡◌, ℕ, ◌∷◌, List, Option, Some, Bool, true, false, Result, Ok, Err, IfOk, reverse, refl, ◌∙◌, ap, suc, drop}
use Rattle.rp_base.specs.declared.ends.NoMemory.{NoMemory}
use Rattle.rp_base.specs.declared.value.Value.{Value}
use Rattle.py_ast.specs.declared.program.Program.{Program}
use Rattle.py_store.specs.Cells.{cell_of}
use Rattle.py_store.specs.declared.cell.Cell.{Cell}
use Rattle.py_store.specs.declared.cell.Cell.TheVariants as cell
use Rattle.side_trees.specs.Trees.{bind}
use Rattle.language_rules.specs.AtOnce.{stated}
use Rattle.language_rules.specs.Codes.{Code, Completion, SearchNext}
use Rattle.language_rules.specs.Containing.{gives_found}
use Rattle.language_rules.specs.Going.{RuleTree, on_cell}
use Rattle.language_rules.specs.Running.{runs}
use Rattle.language_rules.specs.Searching.{gives_position, on_list, reads_list, search_rule, searches_from}
use Rattle.language_rules.specs.States.{State}
use Rattle.eval_frames.specs.declared.frame.Frame.{Frame}
use Rattle.eval_frames.specs.declared.frame.Frame.TheVariants as frame
use Rattle.eval_frames.specs.declared.list_frames.SearchFrame.TheVariants as search_frame
use Rattle.eval_frames.specs.declared.next.Next.{Next}
use Rattle.eval_frames.specs.Meaning.{MeansIn, rest}
use Rattle.eval_searching.specs.Searched.{GoesOnAs, after_item, by_step, equal_step, item_asked}

pub list_read : (cells : List Cell) (number : ℕ) (items : List Value) (f : List Value → RuleTree) (result : Result Next NoMemory) (now stack : List Frame) → cell_of cells number ≡ Some (cell.List items)
    → IfOk result (λ n. (s : State) → MeansIn s now n (f items) stack) → IfOk result (λ n. (fixed : State) (texts : List Program) → MeansIn (stated fixed cells texts) now n (reads_list number f) stack)
list_read cells number items f (Ok n) now stack is h = λ fixed texts units printed.
    ap (λ (o : Option Cell). runs units (bind (on_cell (on_list f) o) (rest (reverse stack))) (stated fixed cells texts) printed) is ∙ h (stated fixed cells texts) units printed
list_read cells number items f (Err x) now stack is h = tt

pub list_read_at : (cells : List Cell) (number : ℕ) (items : List Value) (f : List Value → RuleTree) (result : Result Next NoMemory) (now stack : List Frame) → cell_of cells number ≡ Some (cell.List items)
    → IfOk result (λ n. (fixed : State) (texts : List Program) → MeansIn (stated fixed cells texts) now n (f items) stack) → IfOk result (λ n. (fixed : State) (texts : List Program) → MeansIn (stated fixed cells texts) now n (reads_list number f) stack)
list_read_at cells number items f (Ok n) now stack is h = λ fixed texts units printed.
    ap (λ (o : Option Cell). runs units (bind (on_cell (on_list f) o) (rest (reverse stack))) (stated fixed cells texts) printed) is ∙ h fixed texts units printed
list_read_at cells number items f (Err x) now stack is h = tt

pub list_found : (cells : List Cell) (number : ℕ) (items : List Value) (f : List Value → RuleTree) (result : Result Next NoMemory) (now stack : List Frame) → cell_of cells number ≡ Some (cell.List items)
    → IfOk result (λ n. (s : State) → MeansIn s now n (gives_found (f items)) stack) → IfOk result (λ n. (fixed : State) (texts : List Program) → MeansIn (stated fixed cells texts) now n (gives_found (reads_list number f)) stack)
list_found cells number items f (Ok n) now stack is h = λ fixed texts units printed.
    ap (λ (o : Option Cell). runs units (bind (gives_found (on_cell (on_list f) o)) (rest (reverse stack))) (stated fixed cells texts) printed) is ∙ h (stated fixed cells texts) units printed
list_found cells number items f (Err x) now stack is h = tt

-- what is done by whether the item at a position was found
abbrev on_found : ℕ → ℕ → Value → Bool → RuleTree
on_found n i x b = elim b [ true ↦ gives_position i | false ↦ reads_list n (λ items. searches_from n (suc i) x (drop (suc i) items)) ]

pub search_asked : (n i : ℕ) (x w e : Value) (result : Result Next NoMemory) (now stack : List Frame) → w ≡ x
    → IfOk result (λ nx. (f : Completion → Code) (next later : Bool → RuleTree) (s : State) → GoesOnAs (frame.Search (search_frame.List n i w)) f later → MeansIn s now nx (by_step (equal_step x e) f next) stack)
    → IfOk result (λ nx. (s : State) (others : List Value) → MeansIn s now nx (item_asked n i x (e ∷ others)) stack)
search_asked n i x w e (Ok nx) now stack is h = λ s others.
    h (λ r. SearchNext n i x r) (after_item n i x others) (on_found n i x) s (λ r. (refl, ap (λ (v : Value). search_rule n i v r) is))
search_asked n i x w e (Err z) now stack is h = tt
