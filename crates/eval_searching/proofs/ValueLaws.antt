-- Searching in the values of a dict.
use Rattle.std.proofs.Common.{◌≡◌, ◌∷◌, [], ℕ, zero, suc, Bool, true, false, List, Option, Some, None, Result, Ok, Err, IfOk, drop, option_map, slice_get, reverse, refl, sym, ◌∙◌, ap, subst}
use Rattle.rp_base.specs.declared.ends.NoMemory.{NoMemory}
use Rattle.rp_base.specs.declared.value.Value.{Value}
use Rattle.py_ast.specs.declared.program.Program.{Program}
use Rattle.py_store.specs.Cells.{cell_of}
use Rattle.py_store.specs.EntryLists.{EntryList}
use Rattle.py_store.specs.declared.cell.Cell.{Cell}
use Rattle.py_store.specs.declared.cell.Cell.TheVariants as cell
use Rattle.side_trees.specs.Trees.{bind}
use Rattle.language_rules.specs.AtOnce.{stated}
use Rattle.language_rules.specs.Codes.{Code, Completion, Step, ValuesNext}
use Rattle.language_rules.specs.Containing.{gives_found}
use Rattle.language_rules.specs.Going.{RuleTree, on_cell}
use Rattle.language_rules.specs.Running.{runs}
use Rattle.language_rules.specs.Searching.{gives_position, on_dict, reads_dict, values_behind, values_from, values_of, values_rule}
use Rattle.language_rules.specs.States.{State}
use Rattle.eval_frames.specs.declared.frame.Frame.{Frame}
use Rattle.eval_frames.specs.declared.frame.Frame.TheVariants as frame
use Rattle.eval_frames.specs.declared.list_frames.SearchFrame.TheVariants as search_frame
use Rattle.eval_frames.specs.declared.next.Next.{Next}
use Rattle.eval_frames.specs.Meaning.{MeansIn, rest}
use Rattle.eval_searching.proofs.FoundLaws.{apart_found}
use Rattle.eval_searching.specs.Searched.{GoesOnAs, IsFound, by_step, equal_step}
use Rattle.eval_searching.specs.Values.{after_value, behind_value, value_asked}

some_same : (A : Type 0) (x y : A) → Some x ≡ Some y → x ≡ y
some_same A x y h = ap (λ (o : Option A). elim o [ Some z ↦ z | None ↦ x ]) h

pub value_there : (entries : EntryList) (i : ℕ) (v : Value) → option_map (λ e. e.1) (slice_get entries i) ≡ Some v → drop i (values_of entries) ≡ v ∷ drop (suc i) (values_of entries)
value_there [] i v h = cc
value_there (e ∷ es) zero v h = ap (λ (w : Value). w ∷ values_of es) (some_same Value e.1 v h)
value_there (e ∷ es) (suc i) v h = value_there es i v h

value_found : (n shape i : ℕ) (x v : Value) (es : List Value) (answer : Option Bool) → IsFound x v answer
    → values_from n shape i x (v ∷ es) ≡ elim answer [ Some b ↦ after_value n shape i x es b | None ↦ value_asked n shape i x (v ∷ es) ]
value_found n shape i x v es (Some b) h = ap (λ (t : Step). by_step t (λ r. ValuesNext n shape i x r) (after_value n shape i x es)) h
value_found n shape i x v es None h = ap (λ (t : Step). by_step t (λ r. ValuesNext n shape i x r) (after_value n shape i x es)) (apart_found x v h)

placed : (n shape i : ℕ) (x v : Value) (values es : List Value) (answer : Option Bool) → drop i values ≡ v ∷ es → drop (suc i) values ≡ es
    → elim answer [ Some b ↦ after_value n shape i x es b | None ↦ value_asked n shape i x (v ∷ es) ] ≡ behind_value n shape i x values answer
placed n shape i x v values es (Some b) is tail = ap (λ (vs : List Value). after_value n shape i x vs b) (sym tail)
placed n shape i x v values es None is tail = ap (value_asked n shape i x) (sym is)

pub value_stepped : (n shape i : ℕ) (x v : Value) (values : List Value) (answer : Option Bool) → IsFound x v answer → drop i values ≡ v ∷ drop (suc i) values
    → values_from n shape i x (drop i values) ≡ behind_value n shape i x values answer
value_stepped n shape i x v values answer h is =
    ap (values_from n shape i x) is ∙ value_found n shape i x v (drop (suc i) values) answer h ∙ placed n shape i x v values (drop (suc i) values) answer is refl

pub value_stepped_ok : (i : ℕ) (x v : Value) (values : List Value) (r : Result (Option Bool) NoMemory) → IfOk r (λ found. IsFound x v found) → drop i values ≡ v ∷ drop (suc i) values
    → IfOk r (λ found. (n shape : ℕ) → values_from n shape i x (drop i values) ≡ behind_value n shape i x values found)
value_stepped_ok i x v values (Ok found) h is = λ n shape. value_stepped n shape i x v values found h is
value_stepped_ok i x v values (Err e) h is = tt

-- ---- over a stack

abbrev on_found : ℕ → ℕ → ℕ → Value → Bool → RuleTree
on_found n shape i x b = elim b [ true ↦ gives_position i | false ↦ values_behind n shape i x ]

pub search_asked : (n shape i : ℕ) (x w e : Value) (result : Result Next NoMemory) (now stack : List Frame) → w ≡ x
    → IfOk result (λ nx. (f : Completion → Code) (next later : Bool → RuleTree) (s : State) → GoesOnAs (frame.Search (search_frame.Values n shape i w)) f later → MeansIn s now nx (by_step (equal_step x e) f next) stack)
    → IfOk result (λ nx. (s : State) (others : List Value) → MeansIn s now nx (value_asked n shape i x (e ∷ others)) stack)
search_asked n shape i x w e (Ok nx) now stack is h = λ s others.
    h (λ r. ValuesNext n shape i x r) (after_value n shape i x others) (on_found n shape i x) s (λ r. (refl, ap (λ (v : Value). values_rule n shape i v r) is))
search_asked n shape i x w e (Err z) now stack is h = tt

pub asked_there : (n shape i : ℕ) (x v : Value) (values others : List Value) (result : Result Next NoMemory) (now stack : List Frame) → drop i values ≡ v ∷ others
    → IfOk result (λ nx. (s : State) (others : List Value) → MeansIn s now nx (value_asked n shape i x (v ∷ others)) stack) → IfOk result (λ nx. (s : State) → MeansIn s now nx (value_asked n shape i x (drop i values)) stack)
asked_there n shape i x v values others (Ok nx) now stack is h = λ s. subst (λ (vs : List Value). MeansIn s now nx (value_asked n shape i x vs) stack) (sym is) (h s others)
asked_there n shape i x v values others (Err z) now stack is h = tt

pub dict_read : (cells : List Cell) (number : ℕ) (entries : EntryList) (shape : ℕ) (f : EntryList → ℕ → RuleTree) (result : Result Next NoMemory) (now stack : List Frame) → cell_of cells number ≡ Some (cell.Dict entries shape)
    → IfOk result (λ n. (s : State) → MeansIn s now n (f entries shape) stack) → IfOk result (λ n. (fixed : State) (texts : List Program) → MeansIn (stated fixed cells texts) now n (reads_dict number f) stack)
dict_read cells number entries shape f (Ok n) now stack is h = λ fixed texts units printed.
    ap (λ (o : Option Cell). runs units (bind (on_cell (on_dict f) o) (rest (reverse stack))) (stated fixed cells texts) printed) is ∙ h (stated fixed cells texts) units printed
dict_read cells number entries shape f (Err x) now stack is h = tt

pub dict_found : (cells : List Cell) (number : ℕ) (entries : EntryList) (shape : ℕ) (f : EntryList → ℕ → RuleTree) (result : Result Next NoMemory) (now stack : List Frame) → cell_of cells number ≡ Some (cell.Dict entries shape)
    → IfOk result (λ n. (s : State) → MeansIn s now n (gives_found (f entries shape)) stack) → IfOk result (λ n. (fixed : State) (texts : List Program) → MeansIn (stated fixed cells texts) now n (gives_found (reads_dict number f)) stack)
dict_found cells number entries shape f (Ok n) now stack is h = λ fixed texts units printed.
    ap (λ (o : Option Cell). runs units (bind (gives_found (on_cell (on_dict f) o)) (rest (reverse stack))) (stated fixed cells texts) printed) is ∙ h (stated fixed cells texts) units printed
dict_found cells number entries shape f (Err x) now stack is h = tt
