-- Dicts and views, by the cell that a number names.
use Rattle.std.proofs.Common.{◌≡◌, ◌<◌, ◌≤◌, ℕ, List, [], ◌∷◌, length, reverse, Option, Some, Result, Ok, Err, IfOk, refl, sym, ◌∙◌, ap, subst, arith}
use Rattle.rp_base.specs.declared.ends.NoMemory.{NoMemory}
use Rattle.rp_base.specs.declared.value.Value.{Value}
use Rattle.object_operations.specs.declared.special.Special.{Special}
use Rattle.object_operations.specs.declared.special.Special.TheVariants as special
use Rattle.py_ast.specs.declared.program.Program.{Program}
use Rattle.py_store.specs.Cells.{cell_of}
use Rattle.py_store.specs.EntryLists.{EntryList}
use Rattle.py_store.specs.declared.cell.Cell.{Cell}
use Rattle.py_store.specs.declared.cell.Cell.TheVariants as cell
use Rattle.py_store.specs.declared.cell.Which.{Which}
use Rattle.side_trees.specs.Trees.{bind}
use Rattle.language_rules.specs.AtOnce.{stated}
use Rattle.language_rules.specs.Draining.{not_iterable}
use Rattle.language_rules.specs.Going.{RuleTree, on_cell, reads_cell}
use Rattle.language_rules.specs.Operators.{unsupported}
use Rattle.language_rules.specs.Perform.{special_of_cell}
use Rattle.language_rules.specs.PlainItems.{no_items}
use Rattle.language_rules.specs.Running.{runs}
use Rattle.language_rules.specs.States.{State}
use Rattle.eval_frames.specs.declared.frame.Frame.{Frame}
use Rattle.eval_frames.specs.declared.next.Next.{Next}
use Rattle.eval_frames.specs.Meaning.{Means, MeansIn, rest}
use Rattle.py_dicts.specs.DictCells.{IsDict, IsDictCell}
use Rattle.eval_ranges.proofs.SpecialLemmas.{Plainly, Within, all_within, in_state}
use Rattle.eval_dicts.specs.Arguments.{alone, with_one}

-- ---- what comes next over a stack that is handed on

abbrev pub InState : List Cell → RuleTree → List Frame → List Frame → Next → Type 0
InState cells t now before n = (fixed : State) (texts : List Program) → MeansIn (stated fixed cells texts) now n t before

pub at_stack : (cells : List Cell) (t : RuleTree) (stack : List Frame) (r : Result Next NoMemory) → IfOk r (Within cells t) → IfOk r (InState cells t stack stack)
at_stack cells t stack (Ok n) h = λ fixed texts. h fixed texts stack
at_stack cells t stack (Err e) h = h

-- ---- a rule on a dict, which is there

dict_at : (cells : List Cell) (number : ℕ) (rule : Cell → RuleTree) (t : RuleTree) (n : Next) (now before : List Frame) (o : Option Cell) → cell_of cells number ≡ o → IsDictCell o
    → ((entries : EntryList) (shape : ℕ) → rule (cell.Dict entries shape) ≡ t) → InState cells t now before n → InState cells (reads_cell number rule) now before n
dict_at cells number rule t n now before (Some (cell.Dict entries shape)) is h so p = λ fixed texts units printed.
    ap (λ (o : Option Cell). runs units (bind (on_cell rule o) (rest (reverse before))) (stated fixed cells texts) printed) is
    ∙ ap (λ (x : RuleTree). runs units (bind x (rest (reverse before))) (stated fixed cells texts) printed) (so entries shape)
    ∙ p fixed texts units printed
dict_at cells number rule t n now before _ is h so p = absurd h

pub dict_so : (cells : List Cell) (number : ℕ) (rule : Cell → RuleTree) (t : RuleTree) (r : Result Next NoMemory) (now before : List Frame) → IsDict cells number
    → ((entries : EntryList) (shape : ℕ) → rule (cell.Dict entries shape) ≡ t) → IfOk r (InState cells t now before) → IfOk r (InState cells (reads_cell number rule) now before)
dict_so cells number rule t (Ok n) now before h so p = dict_at cells number rule t n now before (cell_of cells number) refl h so p
dict_so cells number rule t (Err e) now before h so p = p

-- two rules that say the same of every dict
same_at : (cells : List Cell) (number : ℕ) (f g : Cell → RuleTree) (n : Next) (o : Option Cell) → cell_of cells number ≡ o → IsDictCell o
    → ((entries : EntryList) (shape : ℕ) → f (cell.Dict entries shape) ≡ g (cell.Dict entries shape)) → Within cells (reads_cell number f) n → Within cells (reads_cell number g) n
same_at cells number f g n (Some (cell.Dict entries shape)) is h so p = λ fixed texts stack units printed.
    ap (λ (o : Option Cell). runs units (bind (on_cell g o) (rest (reverse stack))) (stated fixed cells texts) printed) is
    ∙ ap (λ (x : RuleTree). runs units (bind x (rest (reverse stack))) (stated fixed cells texts) printed) (sym (so entries shape))
    ∙ sym (ap (λ (o : Option Cell). runs units (bind (on_cell f o) (rest (reverse stack))) (stated fixed cells texts) printed) is)
    ∙ p fixed texts stack units printed
same_at cells number f g n _ is h so p = absurd h

pub dict_same : (cells : List Cell) (number : ℕ) (f g : Cell → RuleTree) (r : Result Next NoMemory) → IsDict cells number
    → ((entries : EntryList) (shape : ℕ) → f (cell.Dict entries shape) ≡ g (cell.Dict entries shape)) → IfOk r (Within cells (reads_cell number f)) → IfOk r (Within cells (reads_cell number g))
dict_same cells number f g (Ok n) h so p = same_at cells number f g n (cell_of cells number) refl h so p
dict_same cells number f g (Err e) h so p = p

whole : (cells : List Cell) (t : RuleTree) (r : Result Next NoMemory) → ((stack : List Frame) → IfOk r (InState cells t stack stack)) → IfOk r (Within cells t)
whole cells t (Ok n) h = λ fixed texts stack. h stack fixed texts
whole cells t (Err e) h = h []

-- ---- by the name of the operation

pub dict_told : (cells : List Cell) (number : ℕ) (vs : List Value) (operator as_told : Special) (t : RuleTree) (r : Result Next NoMemory) → IsDict cells number → operator ≡ as_told
    → ((entries : EntryList) (shape : ℕ) → special_of_cell as_told number vs (cell.Dict entries shape) ≡ t) → IfOk r (Plainly t) → IfOk r (Within cells (reads_cell number (special_of_cell operator number vs)))
dict_told cells number vs operator as_told t r h is so p =
    subst (λ (s : Special). IfOk r (Within cells (reads_cell number (special_of_cell s number vs)))) (sym is)
    (whole cells (reads_cell number (special_of_cell as_told number vs)) r
    (λ stack. dict_so cells number (special_of_cell as_told number vs) t r stack stack h so (at_stack cells t stack r (all_within cells t r p))))

pub no_negative : (n : ℕ) (vs : List Value) (entries : EntryList) (shape : ℕ) → special_of_cell special.Neg n vs (cell.Dict entries shape) ≡ alone unsupported vs
no_negative n [] entries shape = refl
no_negative n (v ∷ vs) entries shape = refl

pub no_add : (n : ℕ) (vs : List Value) (entries : EntryList) (shape : ℕ) → special_of_cell special.Add n vs (cell.Dict entries shape) ≡ with_one unsupported vs
no_add n [] entries shape = refl
no_add n (v ∷ []) entries shape = refl
no_add n (v ∷ w ∷ vs) entries shape = refl

pub no_mul : (n : ℕ) (vs : List Value) (entries : EntryList) (shape : ℕ) → special_of_cell special.Mul n vs (cell.Dict entries shape) ≡ with_one unsupported vs
no_mul n [] entries shape = refl
no_mul n (v ∷ []) entries shape = refl
no_mul n (v ∷ w ∷ vs) entries shape = refl

pub no_floordiv : (n : ℕ) (vs : List Value) (entries : EntryList) (shape : ℕ) → special_of_cell special.FloorDiv n vs (cell.Dict entries shape) ≡ with_one unsupported vs
no_floordiv n [] entries shape = refl
no_floordiv n (v ∷ []) entries shape = refl
no_floordiv n (v ∷ w ∷ vs) entries shape = refl

pub no_mod : (n : ℕ) (vs : List Value) (entries : EntryList) (shape : ℕ) → special_of_cell special.Mod n vs (cell.Dict entries shape) ≡ with_one unsupported vs
no_mod n [] entries shape = refl
no_mod n (v ∷ []) entries shape = refl
no_mod n (v ∷ w ∷ vs) entries shape = refl

pub no_iadd : (n : ℕ) (vs : List Value) (entries : EntryList) (shape : ℕ) → special_of_cell special.IAdd n vs (cell.Dict entries shape) ≡ with_one unsupported vs
no_iadd n [] entries shape = refl
no_iadd n (v ∷ []) entries shape = refl
no_iadd n (v ∷ w ∷ vs) entries shape = refl

-- ---- views, with two arguments

abbrev pub OfViews : Special → Next → Type 0
OfViews operator n = (number dict : ℕ) (which : Which) (x y : Value) (stack : List Frame) → Means stack n (special_of_cell operator number (x ∷ y ∷ []) (cell.View dict which)) stack

pub no_item_set : (operator : Special) (r : Result Next NoMemory) → operator ≡ special.SetItem → IfOk r (Plainly no_items) → IfOk r (OfViews operator)
no_item_set operator (Ok n) is h = subst (λ (s : Special). OfViews s n) (sym is) (λ number dict which x y stack. h stack)
no_item_set operator (Err e) is h = h

two_there : (operator : Special) (number dict : ℕ) (which : Which) (vs : List Value) (n : Next) (stack : List Frame) → 2 ≤ length vs → length vs < 3 → OfViews operator n → Means stack n (special_of_cell operator number vs (cell.View dict which)) stack
two_there operator number dict which [] n stack l b h = absurd (omega (arith, l))
two_there operator number dict which (v ∷ []) n stack l b h = absurd (omega (arith, l))
two_there operator number dict which (v ∷ w ∷ []) n stack l b h = h number dict which v w stack
two_there operator number dict which (v ∷ w ∷ u ∷ vs) n stack l b h = absurd (omega (arith, b))

pub with_two : (cells : List Cell) (operator : Special) (number dict : ℕ) (which : Which) (vs : List Value) (r : Result Next NoMemory) (stack : List Frame) → 2 ≤ length vs → length vs < 3 → IfOk r (OfViews operator)
    → IfOk r (InState cells (special_of_cell operator number vs (cell.View dict which)) stack stack)
with_two cells operator number dict which vs (Ok n) stack l b h = λ fixed texts.
    in_state (stated fixed cells texts) (special_of_cell operator number vs (cell.View dict which)) n stack stack (two_there operator number dict which vs n stack l b h)
with_two cells operator number dict which vs (Err e) stack l b h = h

pub no_next : (n : ℕ) (vs : List Value) (entries : EntryList) (shape : ℕ) → special_of_cell special.Next n vs (cell.Dict entries shape) ≡ alone not_iterable vs
no_next n [] entries shape = refl
no_next n (v ∷ vs) entries shape = refl
