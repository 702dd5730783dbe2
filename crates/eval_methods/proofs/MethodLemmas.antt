-- Methods by the cell that has them.
use Rattle.std.proofs.Common.{◌≡◌, ◌∙◌, ℕ, List, [], ◌∷◌, reverse, Option, Some, Result, Ok, Err, IfOk, OnErr, refl, sym, ap, subst}
use Rattle.rp_base.specs.declared.ends.NoMemory.{NoMemory}
use Rattle.rp_base.specs.declared.ends.OpEnd.{OpEnd}
use Rattle.rp_base.specs.declared.ends.OpEnd.TheVariants as op_end
use Rattle.rp_base.specs.declared.exceptions.Beyond.TheVariants as beyond
use Rattle.rp_base.specs.declared.value.Value.{Value}
use Rattle.rp_base.specs.declared.value.Value.TheVariants as value
use Rattle.object_operations.specs.declared.method.BuiltinMethod.{BuiltinMethod}
use Rattle.py_ast.specs.declared.program.Program.{Program}
use Rattle.py_dicts.specs.DictCells.{IsDict, IsDictCell, view_method}
use Rattle.py_lists.specs.Lists.{IsList, IsListCell}
use Rattle.py_store.specs.Cells.{Cells, cell_of}
use Rattle.py_store.specs.EntryLists.{EntryList}
use Rattle.py_store.specs.declared.cell.Cell.{Cell}
use Rattle.py_store.specs.declared.cell.Cell.TheVariants as cell
use Rattle.py_store.specs.declared.cell.Which.{Which}
use Rattle.py_store.specs.declared.cell.Which.TheVariants as view
use Rattle.side_trees.specs.Trees.{Return, bind}
use Rattle.language_rules.proofs.RunLemmas.{goes_on}
use Rattle.language_rules.specs.AtOnce.{CarriesOut, Comes, stated}
use Rattle.language_rules.specs.Calls.{method_of_cell, method_rule}
use Rattle.language_rules.specs.Codes.{Completion, Gives}
use Rattle.language_rules.specs.DictMethods.{dict_method}
use Rattle.language_rules.specs.Going.{RuleTree, gives_new, nowhere, on_cell, reads_cell}
use Rattle.language_rules.specs.ListMethods.{list_method}
use Rattle.language_rules.specs.Rules.{expand}
use Rattle.language_rules.specs.Running.{prints_behind, runs}
use Rattle.language_rules.specs.Searching.{searches_list}
use Rattle.language_rules.specs.States.{State}
use Rattle.eval_frames.specs.declared.frame.Frame.{Frame}
use Rattle.eval_frames.specs.declared.next.Next.{Next}
use Rattle.eval_frames.specs.declared.next.Next.TheVariants as next
use Rattle.eval_frames.specs.Meaning.{MeansIn, MeansOver, meant, rest}
use Rattle.eval_methods.specs.Kinds.{wrong_arguments}

abbrev pub OverStack : List Cell → List Cell → RuleTree → List Frame → List Frame → Next → Type 0
OverStack cells after t now before n = (fixed : State) (texts : List Program) → MeansOver (stated fixed cells texts) (stated fixed after texts) now n t before

abbrev pub OverAny : List Cell → List Cell → RuleTree → Next → Type 0
OverAny cells after t n = (fixed : State) (texts : List Program) (stack : List Frame) → MeansOver (stated fixed cells texts) (stated fixed after texts) stack n t stack

-- ---- what an operation on own cells answers

abbrev Answered : Result Value OpEnd → Next → Type 0
Answered answer n = (s : State) (t : RuleTree) (stack : List Frame) → Comes t s answer s s → MeansIn s stack n t stack

without : (t : RuleTree) (s kept now : State) (e : OpEnd) → Comes t s (Err e) now kept → Comes t s (Err e) kept kept
without t s kept now (op_end.Raise r) h = h
without t s kept now (op_end.Beyond b) h = h
without t s kept now op_end.NoMemory h = h

pub changed_on : (t : RuleTree) (old new : Cells) (answer : Result Value OpEnd) (r : Result Next NoMemory) → CarriesOut t old.cells answer new.cells → OnErr answer (new ≡ old) → IfOk r (Answered answer)
    → IfOk r (OverAny old.cells new.cells t)
changed_on t old new answer (Err e) carried kept h = h
changed_on t old new (Ok v) (Ok n) carried kept h = λ fixed texts stack units printed.
    goes_on expand prints_behind units t (rest (reverse stack)) (stated fixed old.cells texts) (stated fixed new.cells texts) printed (Gives v) (carried (stated fixed [] texts))
    ∙ h (stated fixed new.cells texts) (Return (Gives v)) stack refl units printed
changed_on t old new (Err e) (Ok n) carried kept h = λ fixed texts stack units printed.
    h (stated fixed old.cells texts) t stack (without t (stated fixed old.cells texts) (stated fixed old.cells texts) (stated fixed new.cells texts) e (carried (stated fixed [] texts))) units printed
    ∙ ap (λ (store : Cells). runs units (meant stack n) (stated fixed store.cells texts) printed) (sym kept)

-- ---- lists

list_at : (cells after : List Cell) (number : ℕ) (m : BuiltinMethod) (vs : List Value) (n : Next) (now before : List Frame) (o : Option Cell) → cell_of cells number ≡ o → IsListCell o
    → ((items : List Value) → OverStack cells after (list_method number items m vs) now before n) → OverStack cells after (method_rule (value.Own number) m vs) now before n
list_at cells after number m vs n now before (Some (cell.List items)) is h over = λ fixed texts units printed.
    ap (λ (o : Option Cell). runs units (bind (on_cell (method_of_cell number m vs) o) (rest (reverse before))) (stated fixed cells texts) printed) is ∙ over items fixed texts units printed
list_at cells after number m vs n now before _ is h over = absurd h

pub of_list : (cells after : List Cell) (number : ℕ) (m as_told : BuiltinMethod) (vs : List Value) (r : Result Next NoMemory) (now before : List Frame) → IsList cells number → m ≡ as_told
    → IfOk r (λ n. (items : List Value) → OverStack cells after (list_method number items as_told vs) now before n) → IfOk r (OverStack cells after (method_rule (value.Own number) m vs) now before)
of_list cells after number m as_told vs (Ok n) now before h is over =
    subst (λ (x : BuiltinMethod). OverStack cells after (method_rule (value.Own number) x vs) now before n) (sym is) (list_at cells after number as_told vs n now before (cell_of cells number) refl h over)
of_list cells after number m as_told vs (Err e) now before h is over = over

pub no_list_method : (cells : List Cell) (number : ℕ) (m : BuiltinMethod) (vs : List Value) (stack : List Frame) → IsList cells number
    → ((n : ℕ) (items arguments : List Value) → list_method n items m arguments ≡ wrong_arguments)
    → OverStack cells cells (method_rule (value.Own number) m vs) stack stack (next.Leave beyond.Arguments)
no_list_method cells number m vs stack h wrong =
    list_at cells cells number m vs (next.Leave beyond.Arguments) stack stack (cell_of cells number) refl h
    (λ items fixed texts units printed. ap (λ (t : RuleTree). runs units (bind t (rest (reverse stack))) (stated fixed cells texts) printed) (wrong number items vs))

-- ---- dicts

dict_at : (cells : List Cell) (number : ℕ) (m : BuiltinMethod) (vs : List Value) (n : Next) (o : Option Cell) → cell_of cells number ≡ o → IsDictCell o
    → ((entries : EntryList) (shape : ℕ) → OverAny cells cells (dict_method number entries shape m vs) n) → OverAny cells cells (method_rule (value.Own number) m vs) n
dict_at cells number m vs n (Some (cell.Dict entries shape)) is h over = λ fixed texts stack units printed.
    ap (λ (o : Option Cell). runs units (bind (on_cell (method_of_cell number m vs) o) (rest (reverse stack))) (stated fixed cells texts) printed) is ∙ over entries shape fixed texts stack units printed
dict_at cells number m vs n _ is h over = absurd h

pub of_dict : (cells : List Cell) (number : ℕ) (m as_told : BuiltinMethod) (vs : List Value) (n : Next) → IsDict cells number → m ≡ as_told
    → ((entries : EntryList) (shape : ℕ) → OverAny cells cells (dict_method number entries shape as_told vs) n) → OverAny cells cells (method_rule (value.Own number) m vs) n
of_dict cells number m as_told vs n h is over =
    subst (λ (x : BuiltinMethod). OverAny cells cells (method_rule (value.Own number) x vs) n) (sym is) (dict_at cells number as_told vs n (cell_of cells number) refl h over)

pub no_dict_method : (cells : List Cell) (number : ℕ) (m : BuiltinMethod) (vs : List Value) → IsDict cells number
    → ((n : ℕ) (entries : EntryList) (shape : ℕ) (arguments : List Value) → dict_method n entries shape m arguments ≡ wrong_arguments)
    → OverAny cells cells (method_rule (value.Own number) m vs) (next.Leave beyond.Arguments)
no_dict_method cells number m vs h wrong =
    dict_at cells number m vs (next.Leave beyond.Arguments) (cell_of cells number) refl h
    (λ entries shape fixed texts stack units printed. ap (λ (t : RuleTree). runs units (bind t (rest (reverse stack))) (stated fixed cells texts) printed) (wrong number entries shape vs))

-- a view is made without arguments, and with none other
pub view_made : (n : ℕ) (entries : EntryList) (shape : ℕ) (which : Which) → dict_method n entries shape (view_method which) [] ≡ gives_new (cell.View n which)
view_made n entries shape view.Keys = refl
view_made n entries shape view.Values = refl
view_made n entries shape view.Items = refl

pub view_refused : (n : ℕ) (entries : EntryList) (shape : ℕ) (which : Which) (v : Value) (vs : List Value) → dict_method n entries shape (view_method which) (v ∷ vs) ≡ wrong_arguments
view_refused n entries shape view.Keys v vs = refl
view_refused n entries shape view.Values v vs = refl
view_refused n entries shape view.Items v vs = refl

-- ---- other cells

pub no_receiver : (cells : List Cell) (number : ℕ) (m : BuiltinMethod) (vs : List Value) (stack : List Frame)
    → ((n : ℕ) (x : BuiltinMethod) (arguments : List Value) → on_cell (method_of_cell n x arguments) (cell_of cells number) ≡ nowhere)
    → OverStack cells cells (reads_cell number (method_of_cell number m vs)) stack stack (next.Leave beyond.NotYet)
no_receiver cells number m vs stack h = λ fixed texts units printed.
    ap (λ (t : RuleTree). runs units (bind t (rest (reverse stack))) (stated fixed cells texts) printed) (h number m vs)

-- ---- searches, whatever the items are

pub searched_by : (cells after : List Cell) (number : ℕ) (w x : Value) (g : Completion → RuleTree) (r : Result Next NoMemory) (now before : List Frame) → w ≡ x
    → IfOk r (OverStack cells after (bind (searches_list number w) g) now before)
    → IfOk r (λ n. (items : List Value) → OverStack cells after (bind (searches_list number x) g) now before n)
searched_by cells after number w x g (Ok n) now before is h = λ items. subst (λ (v : Value). OverStack cells after (bind (searches_list number v) g) now before n) is h
searched_by cells after number w x g (Err e) now before is h = h
