-- Positions that a search came to, and what is taken out there.
use Rattle.std.proofs.Common.{◌≡◌, ◌∙◌, ◌++◌, ℕ, List, [], ◌∷◌, reverse, remove, drop, Option, Some, None, Result, Ok, Err, IfOk, refl, sym, ap, subst}
use Rattle.rp_base.specs.declared.ends.NoMemory.{NoMemory}
use Rattle.rp_base.specs.declared.value.Value.{Value}
use Rattle.py_ast.specs.declared.program.Program.{Program}
use Rattle.py_lists.specs.Lists.{IsList, IsListCell}
use Rattle.py_store.specs.Cells.{Cells, cell_of, with_cell}
use Rattle.py_store.specs.declared.cell.Cell.{Cell}
use Rattle.py_store.specs.declared.cell.Cell.TheVariants as cell
use Rattle.side_trees.specs.Trees.{bind}
use Rattle.language_rules.proofs.CellLaws.{carried}
use Rattle.language_rules.proofs.RunLemmas.{goes_on}
use Rattle.language_rules.specs.AtOnce.{stated}
use Rattle.language_rules.specs.Codes.{Completion, Gives}
use Rattle.language_rules.specs.Going.{RuleTree, none, on_cell}
use Rattle.language_rules.specs.ListMethods.{becomes}
use Rattle.language_rules.specs.Rules.{expand}
use Rattle.language_rules.specs.Running.{prints_behind, runs}
use Rattle.language_rules.specs.Searching.{on_list, reads_list, searches_from, searches_list}
use Rattle.language_rules.specs.States.{State, set_cell}
use Rattle.eval_frames.specs.declared.frame.Frame.{Frame}
use Rattle.eval_frames.specs.declared.next.Next.{Next}
use Rattle.eval_frames.specs.declared.next.Next.TheVariants as next
use Rattle.eval_frames.specs.Meaning.{MeansOver, rest}
use Rattle.eval_frames.specs.declared.frame.Frame.TheVariants as frame
use Rattle.eval_frames.specs.declared.list_frames.SearchFrame.{SearchFrame}
use Rattle.eval_frames.specs.ListFrames.{through_search}
use Rattle.eval_frames.specs.Meaning.{Means, MeansIn}
use Rattle.eval_exprs.proofs.Moving.{in_state, pushed}
use Rattle.language_rules.specs.Going.{on_value}
use Rattle.language_rules.specs.ListMethods.{on_place}
use Rattle.eval_searching.specs.Places.{IsPlaceTold, placed}
use Rattle.eval_searching.specs.Searched.{item_asked, left_of_search}
use Rattle.eval_searching.specs.declared.lists.Searched.{Searched}

-- ---- what is taken out

-- a list is taken out, loses an item, and is put back
pub removed : (n k : ℕ) (items after : List Value) (old taken now : Cells) (fixed : State) (texts : List Program) (stack : List Frame)
    → cell_of old.cells n ≡ Some (cell.List items) → taken ≡ record old { cells = with_cell old.cells n cell.Root } → now ≡ record taken { cells = with_cell taken.cells n (cell.List after) } → after ≡ remove items k
    → MeansOver (stated fixed old.cells texts) (stated fixed now.cells texts) stack (next.Give (Gives none)) (reads_list n (λ vs. becomes n (remove vs k))) stack
removed n k items after old taken now fixed texts stack h p q g units printed =
    goes_on expand prints_behind units (reads_list n (λ vs. becomes n (remove vs k))) (rest (reverse stack)) (stated fixed old.cells texts) (stated fixed now.cells texts) printed (Gives none)
    (carried (on_list (λ vs. becomes n (remove vs k))) n old taken now (cell.List items) cell.Root (cell.List after) (Ok none) h p q
    (λ s e. ap (λ (vs : List Value). Some (Ok (Gives none), set_cell n (cell.List vs) s)) (sym g))
    (stated fixed old.cells texts))

-- ---- a whole search

abbrev OverCells : List Cell → List Cell → List Frame → RuleTree → List Frame → Next → Type 0
OverCells cells after now t before n = (fixed : State) (texts : List Program) → MeansOver (stated fixed cells texts) (stated fixed after texts) now n t before

-- on with what a search in these items comes to
searched_at : (cells after : List Cell) (number : ℕ) (x : Value) (found : Searched) (g : Completion → RuleTree) (n : Next) (now before : List Frame) (o : Option Cell) → cell_of cells number ≡ o → IsListCell o
    → ((items : List Value) → cell_of cells number ≡ Some (cell.List items) → searches_from number 0 x items ≡ left_of_search number x items found)
    → ((items : List Value) → cell_of cells number ≡ Some (cell.List items) → OverCells cells after now (bind (left_of_search number x items found) g) before n)
    → OverCells cells after now (bind (searches_list number x) g) before n
searched_at cells after number x found g n now before (Some (cell.List items)) is h searched over = λ fixed texts units printed.
    ap (λ (o : Option Cell). runs units (bind (bind (on_cell (on_list (searches_from number 0 x)) o) g) (rest (reverse before))) (stated fixed cells texts) printed) is
    ∙ ap (λ (t : RuleTree). runs units (bind (bind t g) (rest (reverse before))) (stated fixed cells texts) printed) (searched items is)
    ∙ over items is fixed texts units printed
searched_at cells after number x found g n now before _ is h searched over = absurd h

pub whole_searched : (cells after : List Cell) (number : ℕ) (x : Value) (found as_told : Searched) (g : Completion → RuleTree) (r : Result Next NoMemory) (now before : List Frame) → IsList cells number → found ≡ as_told
    → ((items : List Value) → cell_of cells number ≡ Some (cell.List items) → searches_from number 0 x items ≡ left_of_search number x items found)
    → IfOk r (λ n. (items : List Value) → cell_of cells number ≡ Some (cell.List items) → OverCells cells after now (bind (left_of_search number x items as_told) g) before n)
    → IfOk r (OverCells cells after now (bind (searches_list number x) g) before)
whole_searched cells after number x found as_told g (Ok n) now before h is searched over =
    searched_at cells after number x as_told g n now before (cell_of cells number) refl h
    (λ items there. searched items there ∙ ap (λ (f : Searched). left_of_search number x items f) is) over
whole_searched cells after number x found as_told g (Err e) now before h is searched over = over

-- ---- what comes next, over the list that is there

pub any_list : (t : RuleTree) (cells : List Cell) (number : ℕ) (r : Result Next NoMemory) (stack : List Frame) → IfOk r (λ n. (stack : List Frame) → Means stack n t stack)
    → IfOk r (λ n. (items : List Value) → cell_of cells number ≡ Some (cell.List items) → OverCells cells cells stack t stack n)
any_list t cells number (Ok n) stack h = λ items there fixed texts. in_state n stack stack t (stated fixed cells texts) (h stack)
any_list t cells number (Err e) stack h = h

pub any_stack : (t : RuleTree) (cells after : List Cell) (number : ℕ) (n : Next) (stack : List Frame) → ((fixed : State) (texts : List Program) (stack : List Frame) → MeansOver (stated fixed cells texts) (stated fixed after texts) stack n t stack)
    → (items : List Value) → cell_of cells number ≡ Some (cell.List items) → OverCells cells after stack t stack n
any_stack t cells after number n stack h items there fixed texts = h fixed texts stack

pub any_state : (f : List Value → RuleTree) (cells : List Cell) (number : ℕ) (r : Result Next NoMemory) (now before : List Frame)
    → IfOk r (λ n. (items : List Value) → cell_of cells number ≡ Some (cell.List items) → (s : State) → MeansIn s now n (f items) before)
    → IfOk r (λ n. (items : List Value) → cell_of cells number ≡ Some (cell.List items) → OverCells cells cells now (f items) before n)
any_state f cells number (Ok n) now before h = λ items there fixed texts. h items there (stated fixed cells texts)
any_state f cells number (Err e) now before h = h

-- the item at a position is compared, over a frame that was pushed
pub asked_over : (cells : List Cell) (number at : ℕ) (x : Value) (f : SearchFrame) (lent : List Value) (r : Result Next NoMemory) (now before over : List Frame) → cell_of cells number ≡ Some (cell.List lent) → over ≡ before ++ frame.Search f ∷ []
    → IfOk r (λ n. (s : State) → MeansIn s now n (item_asked number at x (drop at lent)) over)
    → IfOk r (λ n. (items : List Value) → cell_of cells number ≡ Some (cell.List items) → (s : State) → MeansIn s now n (bind (item_asked number at x (drop at items)) (through_search f)) before)
asked_over cells number at x f lent (Ok n) now before over is e h = λ items there s.
    let same : lent ≡ items = ap (λ (o : Option Cell). elim o [ Some (cell.List vs) ↦ vs | Some _ ↦ lent | None ↦ lent ]) (sym is ∙ there) in
    subst (λ (vs : List Value). MeansIn s now n (bind (item_asked number at x (drop at vs)) (through_search f)) before) same (pushed (Ok n) now before over (frame.Search f) (item_asked number at x (drop at lent)) e h s)
asked_over cells number at x f lent (Err z) now before over is e h = h

-- ---- the position that a search came to

pub place_told : (cells after : List Cell) (e : Completion) (told : Result (Option ℕ) Next) (place : Option ℕ) (f : ℕ → RuleTree) (r : Result Next NoMemory) → IsPlaceTold e told → told ≡ Ok place
    → IfOk r (λ n. (fixed : State) (texts : List Program) (stack : List Frame) → MeansOver (stated fixed cells texts) (stated fixed after texts) stack n (placed f place) stack)
    → IfOk r (λ n. (fixed : State) (texts : List Program) (stack : List Frame) → MeansOver (stated fixed cells texts) (stated fixed after texts) stack n (on_value (on_place f) e) stack)
place_told cells after e told place f r h is over =
    let tells : (g : ℕ → RuleTree) → on_value (on_place g) e ≡ placed g place = subst (λ (t : Result (Option ℕ) Next). IsPlaceTold e t) is h in
    subst (λ (t : RuleTree). IfOk r (λ n. (fixed : State) (texts : List Program) (stack : List Frame) → MeansOver (stated fixed cells texts) (stated fixed after texts) stack n t stack)) (sym (tells f)) over

pub no_place : (cells : List Cell) (e : Completion) (told : Result (Option ℕ) Next) (n : Next) (f : ℕ → RuleTree) → IsPlaceTold e told → told ≡ Err n
    → (fixed : State) (texts : List Program) (stack : List Frame) → MeansOver (stated fixed cells texts) (stated fixed cells texts) stack n (on_value (on_place f) e) stack
no_place cells e told n f h is fixed texts stack =
    in_state n stack stack (on_value (on_place f) e) (stated fixed cells texts) (subst (λ (t : Result (Option ℕ) Next). IsPlaceTold e t) is h f stack)
