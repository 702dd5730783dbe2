-- The parts of a text, one behind the other.
use Rattle.std.proofs.Common.{◌≡◌, ◌≤◌, ◌+◌, ◌++◌, [], ◌∷◌, ℕ, suc, Bool, true, false, List, Option, Some, None, Result, Ok, Err, drop, length, codes, nat_lt, refl, sym, ◌∙◌, ap, arith, subst, zero, option_map, slice_get}
use Rattle.std.proofs.lemmas.List.{drop_all, length-append}
use Rattle.std.specs.Bool.{⊤}
use Rattle.rp_base.specs.declared.ends.OpEnd.{OpEnd}
use Rattle.rp_base.specs.declared.ends.OpEnd.TheVariants as op_end
use Rattle.rp_base.specs.declared.exceptions.Beyond.{Beyond}
use Rattle.rp_base.specs.declared.exceptions.Beyond.TheVariants as beyond
use Rattle.rp_base.specs.declared.plain.Plain.{Plain}
use Rattle.rp_base.specs.declared.value.Value.{Value}
use Rattle.rp_base.specs.declared.value.Value.TheVariants as value
use Rattle.rp_base.specs.Values.{heaviest_value}
use Rattle.py_plain.specs.Printing.{repr_of}
use Rattle.py_store.specs.EntryLists.{EntryList}
use Rattle.side_trees.specs.Trees.{Return, Stop}
use Rattle.language_rules.specs.Codes.{Code, Completion, Then, Step, Ends, Leaves, Asks}
use Rattle.language_rules.specs.Going.{RuleTree, operates}
use Rattle.language_rules.specs.Printing.{adds_part, gives_text, on_text, prints_entries, prints_items, repr_step, text_ends}
use Rattle.eval_texts.specs.Texts.{Adds, Makes, PartComes, behind_entry, behind_item, behind_position, behind_value, first_of_dict, first_of_list, item_text}

-- ---- what a computation makes

pub makes_as : (A : Type 0) (t u : RuleTree) (next : A → List ℕ → RuleTree) (answer : Result A OpEnd) (made : List ℕ) → t ≡ u → Makes u next answer made → Makes t next answer made
makes_as A t u next (Ok a) made e h = e ∙ h
makes_as A t u next (Err (op_end.Raise r)) made e h = h
makes_as A t u next (Err (op_end.Beyond b)) made e h = e ∙ h
makes_as A t u next (Err op_end.NoMemory) made e h = h

-- an end that is not Ok says nothing of what would have followed
ended : (A B : Type 0) (t u : RuleTree) (next : A → List ℕ → RuleTree) (other : B → List ℕ → RuleTree) (e : OpEnd) (made : List ℕ) → t ≡ u → Makes {A = A} u next (Err e) made → Makes {A = B} t other (Err e) made
ended A B t u next other (op_end.Raise r) made is h = h
ended A B t u next other (op_end.Beyond b) made is h = is ∙ h
ended A B t u next other op_end.NoMemory made is h = tt

pub ended_as : (A B : Type 0) (t u : RuleTree) (next : A → List ℕ → RuleTree) (other : B → List ℕ → RuleTree) (e : OpEnd) (answer : Result A OpEnd) (made : List ℕ) → t ≡ u → Makes u next answer made → answer ≡ Err e → Makes {A = B} t other (Err e) made
ended_as A B t u next other e answer made is h bad = ended A B t u next other e made is (subst (λ (a : Result A OpEnd). Makes u next a made) bad h)

pub went_on : (A : Type 0) (t u : RuleTree) (next : A → List ℕ → RuleTree) (a : A) (answer : Result A OpEnd) (made : List ℕ) → t ≡ u → Makes u next answer made → answer ≡ Ok a → t ≡ next a made
went_on A t u next a answer made is h ok = is ∙ subst (λ (r : Result A OpEnd). Makes u next r made) ok h

-- ---- the text of a plain value, which is judged by itself and then with what is before it

-- what is made of a step, and of what is judged
abbrev after_step : Step → (Completion → Code) → List ℕ → (List ℕ → RuleTree) → RuleTree
after_step s f before next = elim s [
  | Ends a ↦ on_text (λ t. adds_part before t next) a
  | Leaves b ↦ Stop b
  | Asks o c ↦ operates o (λ a. Then (c a) f) (λ a. Return a)
]

abbrev judged_step : Bool → List ℕ → Step
judged_step a part = elim a [ true ↦ Leaves beyond.Size | false ↦ text_ends part ]

abbrev judged_item : Bool → List ℕ → List ℕ → (List ℕ → RuleTree) → RuleTree
judged_item a before part next = elim a [ true ↦ Stop beyond.Size | false ↦ adds_part before part next ]

abbrev judged_whole : Bool → List ℕ → (List ℕ → RuleTree) → RuleTree
judged_whole b whole next = elim b [ true ↦ Stop beyond.Size | false ↦ next whole ]

plain_step : (p : Plain) → repr_step (value.Plain p) ≡ judged_step (nat_lt heaviest_value (1 + length (repr_of p))) (repr_of p)
unfolding repr_step
plain_step p = refl

step_judged : (a : Bool) (f : Completion → Code) (before part : List ℕ) (next : List ℕ → RuleTree) → after_step (judged_step a part) f before next ≡ judged_item a before part next
step_judged true f before part next = refl
step_judged false f before part next = refl

plain_item : (f : Completion → Code) (before : List ℕ) (p : Plain) (next : List ℕ → RuleTree) → item_text f before (value.Plain p) next ≡ judged_item (nat_lt heaviest_value (1 + length (repr_of p))) before (repr_of p) next
plain_item f before p next =
    ap (λ (s : Step). after_step s f before next) (plain_step p) ∙ step_judged (nat_lt heaviest_value (1 + length (repr_of p))) f before (repr_of p) next

too_long_alone : (a b : Bool) (before part : List ℕ) (next : List ℕ → RuleTree) → nat_lt heaviest_value (1 + length (before ++ part)) ≡ true → judged_item a before part next ≡ Stop beyond.Size
too_long_alone true b before part next h = refl
too_long_alone false b before part next h = ap (λ (x : Bool). judged_whole x (before ++ part) next) h

short : (m n : ℕ) → nat_lt heaviest_value (1 + (m + n)) ≡ false → nat_lt heaviest_value (1 + n) ≡ false
short m n h = grind arith

short_alone : (before part : List ℕ) → nat_lt heaviest_value (1 + length (before ++ part)) ≡ false → nat_lt heaviest_value (1 + length part) ≡ false
short_alone before part h = short (length before) (length part) (ap (λ (n : ℕ). nat_lt heaviest_value (1 + n)) (sym (length-append before part)) ∙ h)

pub item_comes : (f : Completion → Code) (before : List ℕ) (p : Plain) (made : List ℕ) (answer : Result ⊤ OpEnd) → PartComes before (repr_of p) answer made → Adds (item_text f before (value.Plain p)) answer made
item_comes f before p made (Ok u) h = λ next.
    plain_item f before p next
    ∙ ap (λ (x : Bool). judged_item x before (repr_of p) next) (short_alone before (repr_of p) h.1)
    ∙ ap (λ (x : Bool). judged_whole x (before ++ repr_of p) next) h.1
    ∙ ap next (sym h.0)
item_comes f before p made (Err (op_end.Raise r)) h = λ next. h
item_comes f before p made (Err (op_end.Beyond b)) h = λ next.
    plain_item f before p next
    ∙ too_long_alone (nat_lt heaviest_value (1 + length (repr_of p))) true before (repr_of p) next h.1
    ∙ ap (λ (x : Beyond). Stop x) (sym h.0)
item_comes f before p made (Err op_end.NoMemory) h = λ next. tt

-- ---- lists

pub item_placed : (n i : ℕ) (v : Value) (items others : List Value) (before made : List ℕ) (answer : Result Bool OpEnd) → drop i items ≡ v ∷ others → drop (suc i) items ≡ others
    → Makes (prints_items n i before (v ∷ others)) (behind_item n i v others) answer made → Makes (prints_items n i before (drop i items)) (behind_position n i items) answer made
item_placed n i v items others before made (Ok true) is tail h = ap (prints_items n i before) is ∙ h ∙ ap (prints_items n (suc i) made) (sym tail)
item_placed n i v items others before made (Ok false) is tail h = ap (prints_items n i before) is ∙ h ∙ ap (λ (vs : List Value). first_of_list n i vs made) (sym is)
item_placed n i v items others before made (Err (op_end.Raise r)) is tail h = h
item_placed n i v items others before made (Err (op_end.Beyond b)) is tail h = ap (prints_items n i before) is ∙ h
item_placed n i v items others before made (Err op_end.NoMemory) is tail h = tt

-- behind the last item
pub items_end : (n i : ℕ) (items : List Value) (made : List ℕ) → length items ≤ i → prints_items n i made (drop i items) ≡ adds_part made (codes "]") gives_text
items_end n i items made l = ap (prints_items n i made) (drop_all i items l)

pub past_items : (n i : ℕ) (items : List Value) (made : List ℕ) → length items ≤ i → prints_items n (suc i) made (drop (suc i) items) ≡ prints_items n (length items) made (drop (length items) items)
past_items n i items made l = items_end n (suc i) items made (omega (arith, l)) ∙ sym (items_end n (length items) items made (omega arith))

-- ---- dicts

pub entry_placed : (n shape i : ℕ) (k : Plain) (v : Value) (entries others : EntryList) (before made : List ℕ) (answer : Result Bool OpEnd) → drop i entries ≡ (k, v) ∷ others → drop (suc i) entries ≡ others
    → Makes (prints_entries n shape i before ((k, v) ∷ others)) (behind_value n shape i v others) answer made → Makes (prints_entries n shape i before (drop i entries)) (behind_entry n shape i entries) answer made
entry_placed n shape i k v entries others before made (Ok true) is tail h = ap (prints_entries n shape i before) is ∙ h ∙ ap (prints_entries n shape (suc i) made) (sym tail)
entry_placed n shape i k v entries others before made (Ok false) is tail h = ap (prints_entries n shape i before) is ∙ h ∙ ap (λ (es : EntryList). first_of_dict n shape i es made) (sym is)
entry_placed n shape i k v entries others before made (Err (op_end.Raise r)) is tail h = h
entry_placed n shape i k v entries others before made (Err (op_end.Beyond b)) is tail h = ap (prints_entries n shape i before) is ∙ h
entry_placed n shape i k v entries others before made (Err op_end.NoMemory) is tail h = tt

pub entries_end : (n shape i : ℕ) (entries : EntryList) (made : List ℕ) → length entries ≤ i → prints_entries n shape i made (drop i entries) ≡ adds_part made (codes "}") gives_text
entries_end n shape i entries made l = ap (prints_entries n shape i made) (drop_all i entries l)

pub past_entries : (n shape i : ℕ) (entries : EntryList) (made : List ℕ) → length entries ≤ i → prints_entries n shape (suc i) made (drop (suc i) entries) ≡ prints_entries n shape (length entries) made (drop (length entries) entries)
past_entries n shape i entries made l = entries_end n shape (suc i) entries made (omega (arith, l)) ∙ sym (entries_end n shape (length entries) entries made (omega arith))

pub some_same : (A : Type 0) (x y : A) → Some x ≡ Some y → x ≡ y
some_same A x y h = ap (λ (o : Option A). elim o [ Some z ↦ z | None ↦ x ]) h

pub entry_there : (entries : EntryList) (i : ℕ) (k : Plain) (v : Value) → option_map (λ e. e.0) (slice_get entries i) ≡ Some k → option_map (λ e. e.1) (slice_get entries i) ≡ Some v → drop i entries ≡ (k, v) ∷ drop (suc i) entries
entry_there [] i k v hk hv = cc
entry_there (e ∷ es) zero k v hk hv = ap (λ (x : Plain). (x, e.1) ∷ es) (some_same Plain e.0 k hk) ∙ ap (λ (x : Value). (k, x) ∷ es) (some_same Value e.1 v hv)
entry_there (e ∷ es) (suc i) k v hk hv = entry_there es i k v hk hv
