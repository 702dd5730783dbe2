-- Texts that are made over a stack, with what is being printed.
use Rattle.std.proofs.Common.{◌≡◌, ◌==◌, ◌||◌, ◌++◌, [], ◌∷◌, ℕ, Bool, true, false, List, Option, Some, drop, option_map, slice_get, zero, suc, Result, Ok, Err, IfOk, reverse, refl, sym, ◌∙◌, ap, subst}
use Rattle.std.proofs.lemmas.List.{reverse-append}
use Rattle.std.proofs.lemmas.List.Folds.{list_any-append}
use Rattle.std.specs.List.{list_any}
use mathlib.Core.Path.{fun_ext}
use Rattle.rp_base.specs.declared.ends.NoMemory.{NoMemory}
use Rattle.rp_base.specs.declared.ends.OpEnd.{OpEnd}
use Rattle.rp_base.specs.declared.ends.OpEnd.TheVariants as op_end
use Rattle.rp_base.specs.declared.exceptions.Beyond.{Beyond}
use Rattle.rp_base.specs.declared.exceptions.Beyond.TheVariants as beyond
use Rattle.rp_base.specs.declared.value.Value.{Value}
use Rattle.rp_base.specs.declared.value.Value.TheVariants as value
use Rattle.object_operations.specs.declared.operation.Operation.TheVariants as operation
use Rattle.py_ast.specs.declared.program.Program.{Program}
use Rattle.py_store.specs.Cells.{cell_of}
use Rattle.py_store.specs.EntryLists.{EntryList}
use Rattle.py_store.specs.declared.cell.Cell.{Cell}
use Rattle.side_trees.proofs.BindLaw.{bind-bind}
use Rattle.side_trees.specs.Trees.{Return, Stop, bind}
use Rattle.language_rules.specs.Answers.{asked}
use Rattle.language_rules.specs.AtOnce.{stated}
use Rattle.language_rules.specs.Codes.{Code, Completion, DictText, Gives, Give, Then}
use Rattle.language_rules.specs.Going.{RuleTree, changes, on_cell, operates, reads_cell, text}
use Rattle.language_rules.specs.Kinds.{is_reference}
use Rattle.language_rules.specs.Printing.{begins_printing, ends_printing, gives_text, prints_cell, prints_entries, repr_step}
use Rattle.language_rules.specs.Running.{runs}
use Rattle.language_rules.specs.States.{State}
use Rattle.eval_frames.proofs.Operating.{code_goes_on}
use Rattle.eval_frames.specs.declared.frame.Frame.{Frame}
use Rattle.eval_frames.specs.declared.frame.Frame.TheVariants as frame
use Rattle.eval_frames.specs.declared.list_frames.TextFrame.{TextFrame}
use Rattle.eval_frames.specs.declared.list_frames.TextFrame.TheVariants as text_frame
use Rattle.eval_frames.specs.declared.next.Next.{Next}
use Rattle.eval_frames.specs.declared.next.Next.TheVariants as next
use Rattle.eval_frames.specs.Meaning.{Means, MeansIn, MeansOver, meant, rest, resume}
use Rattle.eval_texts.proofs.PartLaws.{some_same}
use Rattle.eval_texts.specs.Shown.{shown}
use Rattle.eval_texts.specs.Texts.{GoesOnAs, IsLeft, Makes, MeansPrinting, first_of_dict, item_text, printing_in, value_of_dict}

-- ---- an item that is asked

reference_text : (v : Value) (f : Completion → Code) (made : List ℕ) (next : List ℕ → RuleTree) → is_reference v ≡ true
    → item_text f made v next ≡ operates (operation.Repr v) (λ a. Then (Give a) f) (λ a. Return a)
unfolding repr_step
reference_text (value.Own n) f made next h = refl
reference_text (value.Proxy id) f made next h = refl
reference_text _ f made next h = cc

pub item_asked : (v : Value) (fr : TextFrame) (f : Completion → Code) (made : List ℕ) (next : List ℕ → RuleTree) (s : State) (n : Next) (now before : List Frame) → is_reference v ≡ true → GoesOnAs fr f → now ≡ before ++ frame.Text fr ∷ []
    → ((stack : List Frame) → Means stack n (asked (operation.Repr v)) stack) → MeansIn s now n (item_text f made v next) before
item_asked v fr f made next s n now before is same p h units printed =
    ap (λ (t : RuleTree). runs units (bind t (rest (reverse before))) s printed) (reference_text v f made next is)
    ∙ code_goes_on s (operation.Repr v) (λ a. Give a) f (rest (reverse before)) units printed
    ∙ ap (λ (k : Completion → RuleTree). runs units (bind (asked (operation.Repr v)) k) s printed) (fun_ext (λ r. ap (λ (t : RuleTree). bind t (rest (reverse before))) (same r)))
    ∙ ap (λ (t : RuleTree). runs units t s printed) (sym (
    h now
    ∙ ap (λ (fs : List Frame). bind (asked (operation.Repr v)) (rest (reverse fs))) p
    ∙ ap (λ (fs : List Frame). bind (asked (operation.Repr v)) (rest fs)) (reverse-append before (frame.Text fr ∷ []))))

-- ---- what is being printed

or-turned : (a b : Bool) → (a || b) ≡ (b || a)
or-turned true true = refl
or-turned true false = refl
or-turned false true = refl
or-turned false false = refl

any_reversed : (p : ℕ → Bool) (xs : List ℕ) → list_any p (reverse xs) ≡ list_any p xs
any_reversed p [] = refl
any_reversed p (x ∷ xs) =
    ap (list_any p) (reverse-append (x ∷ []) xs)
    ∙ list_any-append p (reverse xs) (x ∷ [])
    ∙ or-turned (list_any p (reverse xs)) (list_any p (x ∷ []))
    ∙ ap (λ (b : Bool). list_any p (x ∷ []) || b) (any_reversed p xs)
    ∙ sym (list_any-append p (x ∷ []) xs)

-- by whether the printing is under way
abbrev printed_once : Bool → ℕ → RuleTree → RuleTree
printed_once b n t = elim b [
  | true ↦ Stop beyond.CyclicRepr
  | false ↦ changes (begins_printing n) (bind t (λ a. changes ends_printing (Return a)))
]

-- the state in which this is being printed too
abbrev begun_in : State → ℕ → List ℕ → State
begun_in s n printing = record s { printing = n ∷ reverse printing }

begun : (s : State) (printing : List ℕ) (n : ℕ) (t : RuleTree) (k : Completion → RuleTree) (units : ℕ) (printed : List ℕ) → list_any (λ m. m == n) printing ≡ false
    → runs units (bind (prints_cell n t) k) (printing_in s printing) printed ≡ runs units (bind (bind t (resume (frame.Text text_frame.End))) k) (begun_in s n printing) printed
begun s printing n t k units printed h =
    ap (λ (b : Bool). runs units (bind (printed_once b n t) k) (printing_in s printing) printed) (any_reversed (λ m. m == n) printing ∙ h)

pub refused : (printing : List ℕ) (n : ℕ) (t : RuleTree) (stack : List Frame) → list_any (λ m. m == n) printing ≡ true → MeansPrinting printing printing stack (next.Leave beyond.CyclicRepr) (prints_cell n t) stack
refused printing n t stack h = λ s units printed.
    ap (λ (b : Bool). runs units (bind (printed_once b n t) (rest (reverse stack))) (printing_in s printing) printed) (any_reversed (λ m. m == n) printing ∙ h)

pub given_whole : (printing : List ℕ) (n : ℕ) (t : RuleTree) (made : List ℕ) (stack : List Frame) → list_any (λ m. m == n) printing ≡ false → t ≡ gives_text made
    → MeansPrinting printing printing stack (next.Give (Gives (text made))) (prints_cell n t) stack
given_whole printing n t made stack h e = λ s units printed.
    begun s printing n t (rest (reverse stack)) units printed h
    ∙ ap (λ (x : RuleTree). runs units (bind (bind x (resume (frame.Text text_frame.End))) (rest (reverse stack))) (begun_in s n printing) printed) e

-- the state then
pushed_on : (s : State) (n : ℕ) (before now : List ℕ) → now ≡ before ++ n ∷ [] → begun_in s n before ≡ printing_in s now
pushed_on s n before now is = ap (λ (ns : List ℕ). record s { printing = ns }) (sym (reverse-append before (n ∷ [])) ∙ ap (λ (ns : List ℕ). reverse ns) (sym is))

left_at : (before now : List ℕ) (n : ℕ) (t : RuleTree) (b : Beyond) (nx : Next) (stack : List Frame) → list_any (λ m. m == n) before ≡ false → now ≡ before ++ n ∷ [] → t ≡ Stop b → nx ≡ next.Leave b
    → MeansPrinting before now stack nx (prints_cell n t) stack
left_at before now n t b nx stack h is e out = λ s units printed.
    begun s before n t (rest (reverse stack)) units printed h
    ∙ ap (λ (x : RuleTree). runs units (bind (bind x (resume (frame.Text text_frame.End))) (rest (reverse stack))) (begun_in s n before) printed) e
    ∙ ap (λ (x : State). runs units (Stop b) x printed) (pushed_on s n before now is)
    ∙ ap (λ (x : Next). runs units (meant stack x) (printing_in s now) printed) (sym out)

left_by : (A : Type 0) (before now : List ℕ) (n : ℕ) (t : RuleTree) (f : A → List ℕ → RuleTree) (made : List ℕ) (e : OpEnd) (nx : Next) (stack : List Frame) → list_any (λ m. m == n) before ≡ false → now ≡ before ++ n ∷ [] → Makes {A = A} t f (Err e) made → IsLeft e nx
    → MeansPrinting before now stack nx (prints_cell n t) stack
left_by A before now n t f made (op_end.Raise r) nx stack h is m out = absurd m
left_by A before now n t f made (op_end.Beyond b) nx stack h is m out = left_at before now n t b nx stack h is m out
left_by A before now n t f made op_end.NoMemory nx stack h is m out = absurd out

pub left_begun : (A : Type 0) (before now : List ℕ) (n : ℕ) (t : RuleTree) (f : A → List ℕ → RuleTree) (made : List ℕ) (e : OpEnd) (answer : Result A OpEnd) (result : Result Next NoMemory) (stack : List Frame) → list_any (λ m. m == n) before ≡ false
    → Makes t f answer made → answer ≡ Err e → IfOk result (λ nx. now ≡ before ++ n ∷ []) → IfOk result (λ nx. IsLeft e nx) → IfOk result (λ nx. MeansPrinting before now stack nx (prints_cell n t) stack)
left_begun A before now n t f made e answer (Ok nx) stack h m bad is out = left_by A before now n t f made e nx stack h is (subst (λ (r : Result A OpEnd). Makes t f r made) bad m) out
left_begun A before now n t f made e answer (Err x) stack h m bad is out = tt

popped : (before : List Frame) (f : Frame) (t : RuleTree) → bind (bind t (resume f)) (rest (reverse before)) ≡ bind t (rest (reverse (before ++ f ∷ [])))
popped before f t =
    bind-bind t (resume f) (rest (reverse before))
    ∙ ap (λ (fs : List Frame). bind t (rest fs)) (sym (reverse-append before (f ∷ [])))

pub asked_begun : (before now : List ℕ) (n : ℕ) (t u : RuleTree) (result : Result Next NoMemory) (stack over : List Frame) → list_any (λ m. m == n) before ≡ false → t ≡ u
    → IfOk result (λ nx. now ≡ before ++ n ∷ []) → IfOk result (λ nx. (s : State) → MeansIn s over nx u (stack ++ frame.Text text_frame.End ∷ [])) → IfOk result (λ nx. MeansPrinting before now over nx (prints_cell n t) stack)
asked_begun before now n t u (Ok nx) stack over h e is m = λ s units printed.
    begun s before n t (rest (reverse stack)) units printed h
    ∙ ap (λ (x : RuleTree). runs units x (begun_in s n before) printed) (popped stack (frame.Text text_frame.End) t ∙ ap (λ (x : RuleTree). bind x (rest (reverse (stack ++ frame.Text text_frame.End ∷ [])))) e)
    ∙ ap (λ (x : State). runs units (bind u (rest (reverse (stack ++ frame.Text text_frame.End ∷ [])))) x printed) (pushed_on s n before now is)
    ∙ m (printing_in s now) units printed
asked_begun before now n t u (Err x) stack over h e is m = tt

-- ---- steps that look at the state only in part

pub cell_read : (cells : List Cell) (number : ℕ) (there : Cell) (f : Cell → RuleTree) (before after : List ℕ) (result : Result Next NoMemory) (now stack : List Frame) → cell_of cells number ≡ Some there
    → IfOk result (λ n. MeansPrinting before after now n (f there) stack) → IfOk result (λ n. (fixed : State) (texts : List Program) → MeansOver (shown fixed cells texts before) (shown fixed cells texts after) now n (reads_cell number f) stack)
cell_read cells number there f before after (Ok n) now stack is h = λ fixed texts units printed.
    ap (λ (o : Option Cell). runs units (bind (on_cell f o) (rest (reverse stack))) (shown fixed cells texts before) printed) is ∙ h (stated fixed cells texts) units printed
cell_read cells number there f before after (Err x) now stack is h = tt

pub printing_kept : (t u : RuleTree) (printing : List ℕ) (result : Result Next NoMemory) (stack : List Frame) → u ≡ t → IfOk result (λ n. Means stack n t stack) → IfOk result (λ n. MeansPrinting printing printing stack n u stack)
printing_kept t u printing (Ok n) stack e h = λ s units printed. ap (λ (x : RuleTree). runs units x (printing_in s printing) printed) (ap (λ (x : RuleTree). bind x (rest (reverse stack))) e ∙ sym h)
printing_kept t u printing (Err x) stack e h = tt

left_in : (A : Type 0) (t : RuleTree) (f : A → List ℕ → RuleTree) (made : List ℕ) (e : OpEnd) (n : Next) (stack : List Frame) → Makes {A = A} t f (Err e) made → IsLeft e n → (s : State) → MeansIn s stack n t stack
left_in A t f made (op_end.Raise r) n stack m out s units printed = absurd m
left_in A t f made (op_end.Beyond b) n stack m out s units printed =
    ap (λ (x : RuleTree). runs units (bind x (rest (reverse stack))) s printed) m ∙ ap (λ (x : Next). runs units (meant stack x) s printed) (sym out)
left_in A t f made op_end.NoMemory n stack m out s units printed = absurd out

pub left_here : (A : Type 0) (t u : RuleTree) (f : A → List ℕ → RuleTree) (made : List ℕ) (e : OpEnd) (answer : Result A OpEnd) (result : Result Next NoMemory) (stack : List Frame) → u ≡ t → Makes t f answer made → answer ≡ Err e → IfOk result (λ n. IsLeft e n)
    → IfOk result (λ n. (s : State) → MeansIn s stack n u stack)
left_here A t u f made e answer (Ok n) stack is m bad out = λ s.
    subst (λ (x : RuleTree). MeansIn s stack n x stack) (sym is) (left_in A t f made e n stack (subst (λ (r : Result A OpEnd). Makes t f r made) bad m) out s)
left_here A t u f made e answer (Err x) stack is m bad out = tt

pub in_stated : (t : RuleTree) (cells : List Cell) (result : Result Next NoMemory) (now stack : List Frame) → IfOk result (λ n. (s : State) → MeansIn s now n t stack) → IfOk result (λ n. (fixed : State) (texts : List Program) → MeansIn (stated fixed cells texts) now n t stack)
in_stated t cells (Ok n) now stack h = λ fixed texts. h (stated fixed cells texts)
in_stated t cells (Err x) now stack h = tt

pub while_printing : (t u : RuleTree) (cells : List Cell) (printing : List ℕ) (result : Result Next NoMemory) (now stack : List Frame) → u ≡ t → IfOk result (λ n. (fixed : State) (texts : List Program) → MeansIn (stated fixed cells texts) now n t stack)
    → IfOk result (λ n. (fixed : State) (texts : List Program) → MeansOver (shown fixed cells texts printing) (shown fixed cells texts printing) now n u stack)
while_printing t u cells printing (Ok n) now stack e h = λ fixed texts units printed.
    ap (λ (x : RuleTree). runs units (bind x (rest (reverse stack))) (shown fixed cells texts printing) printed) e ∙ h (printing_in fixed printing) texts units printed
while_printing t u cells printing (Err x) now stack e h = tt

-- ---- the value of a dict that is asked

value_placed : (n shape i j : ℕ) (entries : EntryList) (v : Value) (made : List ℕ) (P : RuleTree → Type 0) → option_map (λ e. e.1) (slice_get entries j) ≡ Some v
    → ((next : List ℕ → RuleTree) → P (item_text (λ r. DictText n shape i made r) made v next)) → P (first_of_dict n shape i (drop j entries) made)
value_placed n shape i j [] v made P is h = cc
value_placed n shape i zero (e ∷ es) v made P is h = subst (λ (w : Value). P (value_of_dict n shape i w es made)) (sym (some_same Value e.1 v is)) (h (λ after. prints_entries n shape (suc i) after es))
value_placed n shape i (suc j) (e ∷ es) v made P is h = value_placed n shape i j es v made P is h

pub value_asked : (n shape i : ℕ) (entries : EntryList) (v : Value) (made : List ℕ) (result : Result Next NoMemory) (now stack : List Frame) → option_map (λ e. e.1) (slice_get entries i) ≡ Some v
    → IfOk result (λ nx. (f : Completion → Code) (m : List ℕ) (next : List ℕ → RuleTree) (s : State) → GoesOnAs (text_frame.Dict n shape i made) f → MeansIn s now nx (item_text f m v next) stack)
    → IfOk result (λ nx. (s : State) → MeansIn s now nx (first_of_dict n shape i (drop i entries) made) stack)
value_asked n shape i entries v made (Ok nx) now stack is h = λ s.
    value_placed n shape i i entries v made (λ t. MeansIn s now nx t stack) is (λ next. h (λ r. DictText n shape i made r) made next s (λ r. refl))
value_asked n shape i entries v made (Err x) now stack is h = tt

-- what comes next in every state
pub in_every_state : (t : RuleTree) (cells : List Cell) (r : Result Next NoMemory) (now before : List Frame) → IfOk r (λ n. (s : State) → MeansIn s now n t before)
    → IfOk r (λ n. (fixed : State) (texts : List Program) → MeansIn (stated fixed cells texts) now n t before)
in_every_state t cells (Ok n) now before h = λ fixed texts. h (stated fixed cells texts)
in_every_state t cells (Err e) now before h = tt
