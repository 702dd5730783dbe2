-- A text goes to a level, and the text of that to the level around it.
use Rattle.std.proofs.Common.{◌≡◌, ◌+◌, ◌==◌, ◌++◌, [], ◌∷◌, ℕ, suc, Bool, true, false, List, Result, Ok, Err, IfOk, codes, length, map, nat_lt, reverse, refl, sym, ◌∙◌, ap, subst}
use Rattle.std.proofs.lemmas.List.{reverse-append}
use mathlib.Core.Path.{fun_ext}
use Rattle.rp_base.specs.declared.ends.NoMemory.{NoMemory}
use Rattle.rp_base.specs.declared.exceptions.Beyond.{Beyond}
use Rattle.rp_base.specs.declared.exceptions.Beyond.TheVariants as beyond
use Rattle.rp_base.specs.declared.plain.Plain.{Plain}
use Rattle.rp_base.specs.declared.plain.Plain.TheVariants as plain
use Rattle.rp_base.specs.declared.value.Value.{Value}
use Rattle.rp_base.specs.declared.value.Value.TheVariants as value
use Rattle.rp_base.specs.Values.{heaviest_value}
use Rattle.object_operations.specs.declared.operation.Operation.TheVariants as operation
use Rattle.py_plain.specs.Printing.{repr_of}
use Rattle.side_trees.proofs.BindLaw.{bind-bind}
use Rattle.side_trees.specs.Trees.{Return, Stop, bind}
use Rattle.language_rules.specs.Answers.{asked}
use Rattle.language_rules.specs.Codes.{Breaks, Completion, Continues, Drained, Gives, Leaves, Raises, Returns, Step}
use Rattle.language_rules.specs.Going.{RuleTree, carry, text, value_step}
use Rattle.language_rules.specs.Kinds.{is_reference}
use Rattle.language_rules.specs.Printing.{adds_part, adds_step, further_items_step, gives_text, item_step, made_step, on_text, on_text_value, repr_step, text_ends, text_value_step, tuple_text_step}
use Rattle.language_rules.specs.Running.{runs}
use Rattle.language_rules.specs.States.{State}
use Rattle.language_rules.specs.StepLaws.{repr_tuple}
use Rattle.eval_frames.proofs.Operating.{step_behind}
use Rattle.eval_frames.proofs.Shapes.{each_plain, each_reference, each_value}
use Rattle.eval_frames.specs.declared.frame.Frame.{Frame}
use Rattle.eval_frames.specs.declared.frame.Frame.TheVariants as frame
use Rattle.eval_frames.specs.declared.list_frames.TextFrame.TheVariants as text_frame
use Rattle.eval_frames.specs.declared.list_frames.TupleLevel.{TupleLevel}
use Rattle.eval_frames.specs.declared.next.Next.{Next}
use Rattle.eval_frames.specs.declared.next.Next.TheVariants as next
use Rattle.eval_frames.specs.ListFrames.{further_items, through_levels}
use Rattle.eval_frames.specs.Meaning.{Means, MeansIn, RunsAs, meant, rest}
use Rattle.eval_tuple_texts.specs.TextLevels.{Fits, Shows, TurnsTo, behind_item, text_levels, texts_around, turn_step}
use Rattle.eval_tuple_texts.specs.declared.levels.Turn.{Turn}
use Rattle.eval_tuple_texts.specs.declared.levels.Turn.TheVariants as turn
use Rattle.eval_tuple_texts.specs.declared.tuples.TupleText.{TupleText}
use Rattle.eval_tuple_texts.specs.declared.tuples.TupleText.TheVariants as tuple_text

pub left_around : (ls : List TupleLevel) (b : Beyond) → texts_around ls (Leaves b) ≡ Leaves b
left_around [] b = refl
left_around (l ∷ ls) b = left_around ls b

-- ---- steps on texts as computations

text_value_carried : (f : List ℕ → Step) (v : Value) → carry (text_value_step f v) ≡ on_text_value (λ t. carry (f t)) v
text_value_carried f =
    each_value (λ v. carry (text_value_step f v) ≡ on_text_value (λ t. carry (f t)) v)
    (each_plain (λ p. carry (text_value_step f (value.Plain p)) ≡ on_text_value (λ t. carry (f t)) (value.Plain p)) refl (λ b. refl) (λ n. refl) (λ t. refl) (λ t. refl) refl refl (λ ps. refl))
    (λ vs. refl) (λ n. refl) (λ id. refl)

text_carried : (f : List ℕ → Step) (a : Completion) → carry (value_step (text_value_step f) a) ≡ on_text (λ t. carry (f t)) a
text_carried f (Gives v) = text_value_carried f v
text_carried f (Raises r) = refl
text_carried f (Returns v) = refl
text_carried f Breaks = refl
text_carried f Continues = refl
text_carried f (Drained vs) = refl

judged : (b : Bool) (f : List ℕ → Step) (whole : List ℕ) → carry (elim b [ true ↦ Leaves beyond.Size | false ↦ f whole ]) ≡ elim b [ true ↦ Stop beyond.Size | false ↦ carry (f whole) ]
judged true f whole = refl
judged false f whole = refl

added_carried : (made part : List ℕ) (f : List ℕ → Step) → carry (adds_step made part f) ≡ adds_part made part (λ t. carry (f t))
added_carried made part f = judged (nat_lt heaviest_value (1 + length (made ++ part))) f (made ++ part)

behind_carried : (single : Bool) (waiting : List Value) (made : List ℕ) → carry (behind_item single waiting made) ≡ further_items single waiting made
behind_carried true waiting made = added_carried made (codes ",)") text_ends
behind_carried false waiting made = refl

-- what a level makes of a text
abbrev level_text : TupleLevel → List ℕ → RuleTree
level_text l t = adds_part l.made t (further_items l.is_single (reverse l.waiting))

abbrev level_step : TupleLevel → List ℕ → Step
level_step l t = adds_step l.made t (behind_item l.is_single (reverse l.waiting))

level_carried : (l : TupleLevel) (t : List ℕ) → carry (level_step l t) ≡ level_text l t
level_carried l t =
    added_carried l.made t (behind_item l.is_single (reverse l.waiting))
    ∙ ap (λ (f : List ℕ → RuleTree). adds_part l.made t f) (fun_ext (λ made. behind_carried l.is_single (reverse l.waiting) made))

-- ---- a text within levels may as well end, and go to them

pub texts_wait : (ls : List TupleLevel) (s : State) (t : Step) (k : Completion → RuleTree)
    → RunsAs s (bind (carry (texts_around ls t)) k) (bind (carry t) (λ e. bind (text_levels ls e) k))
texts_wait [] s t k units printed = refl
texts_wait (l ∷ ls) s t k units printed =
    texts_wait ls s (item_step t l.made (behind_item l.is_single (reverse l.waiting))) k units printed
    ∙ step_behind s t (value_step (text_value_step (level_step l))) (λ e. bind (text_levels ls e) k) units printed
    ∙ ap (λ (g : Completion → RuleTree). runs units (bind (carry t) g) s printed) (fun_ext (λ e.
    ap (λ (x : RuleTree). bind x (λ r. bind (text_levels ls r) k)) (text_carried (level_step l) e ∙ ap (λ (g : List ℕ → RuleTree). on_text g e) (fun_ext (λ u. level_carried l u)))
    ∙ sym (bind-bind (on_text (level_text l) e) (text_levels ls) k)))

-- ---- the frame that waits for the text

judged_bound : (b : Bool) (whole : List ℕ) (f : List ℕ → RuleTree) (k : Completion → RuleTree) → bind (elim b [ true ↦ Stop beyond.Size | false ↦ f whole ]) k ≡ elim b [ true ↦ Stop beyond.Size | false ↦ bind (f whole) k ]
judged_bound true whole f k = refl
judged_bound false whole f k = refl

-- a part is added, and what follows is followed by more
abbrev added_more : List ℕ → (List ℕ → RuleTree) → (List ℕ → RuleTree) → List ℕ → RuleTree
added_more made f h t = adds_part made t (λ whole. bind (f whole) (on_text h))

text_value_bound : (made : List ℕ) (f h : List ℕ → RuleTree) (v : Value) → bind (on_text_value (λ t. adds_part made t f) v) (on_text h) ≡ on_text_value (added_more made f h) v
text_value_bound made f h =
    each_value (λ v. bind (on_text_value (λ t. adds_part made t f) v) (on_text h) ≡ on_text_value (added_more made f h) v)
    (each_plain (λ p. bind (on_text_value (λ t. adds_part made t f) (value.Plain p)) (on_text h) ≡ on_text_value (added_more made f h) (value.Plain p)) refl (λ b. refl) (λ n. refl)
    (λ t. judged_bound (nat_lt heaviest_value (1 + length (made ++ t))) (made ++ t) f (on_text h)) (λ t. refl) refl refl (λ ps. refl))
    (λ vs. refl) (λ n. refl) (λ id. refl)

text_bound : (made : List ℕ) (f h : List ℕ → RuleTree) (a : Completion) → bind (on_text (λ t. adds_part made t f) a) (on_text h) ≡ on_text (added_more made f h) a
text_bound made f h (Gives v) = text_value_bound made f h v
text_bound made f h (Raises r) = refl
text_bound made f h (Returns v) = refl
text_bound made f h Breaks = refl
text_bound made f h Continues = refl
text_bound made f h (Drained vs) = refl

pub levels_through : (ls : List TupleLevel) (a : Completion) → bind (text_levels ls a) (on_text gives_text) ≡ on_text (through_levels ls) a
levels_through [] a = refl
levels_through (l ∷ ls) a =
    bind-bind (on_text (level_text l) a) (text_levels ls) (on_text gives_text)
    ∙ ap (λ (g : Completion → RuleTree). bind (on_text (level_text l) a) g) (fun_ext (λ e. levels_through ls e))
    ∙ text_bound l.made (further_items l.is_single (reverse l.waiting)) (through_levels ls) a

-- ---- over a stack

object_asked : (v : Value) → is_reference v ≡ true → carry (repr_step v) ≡ asked (operation.Repr v)
unfolding repr_step
object_asked = each_reference (λ v. carry (repr_step v) ≡ asked (operation.Repr v)) (λ n. refl) (λ id. refl)

pub asked_within : (n : Next) (before over : List Frame) (levels : List TupleLevel) (v : Value) → is_reference v ≡ true → over ≡ before ++ frame.Text (text_frame.Tuple levels) ∷ []
    → ((stack : List Frame) → Means stack n (asked (operation.Repr v)) stack) → (s : State) → MeansIn s over n (bind (carry (texts_around (reverse levels) (repr_step v))) (on_text gives_text)) before
asked_within n before over levels v object is h s units printed =
    ap (λ (x : RuleTree). runs units x s printed) (bind-bind (carry (texts_around (reverse levels) (repr_step v))) (on_text gives_text) (rest (reverse before)))
    ∙ texts_wait (reverse levels) s (repr_step v) (λ e. bind (on_text gives_text e) (rest (reverse before))) units printed
    ∙ ap (λ (g : Completion → RuleTree). runs units (bind (carry (repr_step v)) g) s printed) (fun_ext (λ e.
    sym (bind-bind (text_levels (reverse levels) e) (on_text gives_text) (rest (reverse before)))
    ∙ ap (λ (x : RuleTree). bind x (rest (reverse before))) (levels_through (reverse levels) e)))
    ∙ ap (λ (fs : List Frame). runs units (bind (carry (repr_step v)) (rest fs)) s printed) (sym (ap (λ (fs : List Frame). reverse fs) is ∙ reverse-append before (frame.Text (text_frame.Tuple levels) ∷ [])))
    ∙ ap (λ (x : RuleTree). runs units (bind x (rest (reverse over))) s printed) (object_asked v object)
    ∙ ap (λ (x : RuleTree). runs units x s printed) (sym (h over))

-- a text that goes to levels
pub text_added : (levels : List TupleLevel) (t : List ℕ) (n : Next) (now before : List Frame) (s : State) → MeansIn s now n (bind (carry (texts_around (reverse levels) (text_ends t))) (on_text gives_text)) before
    → MeansIn s now n (through_levels (reverse levels) t) before
text_added levels t n now before s h units printed =
    ap (λ (x : RuleTree). runs units (bind x (rest (reverse before))) s printed) (sym (levels_through (reverse levels) (Gives (text t))))
    ∙ ap (λ (x : RuleTree). runs units x s printed) (bind-bind (text_levels (reverse levels) (Gives (text t))) (on_text gives_text) (rest (reverse before)))
    ∙ sym (texts_wait (reverse levels) s (text_ends t) (λ e. bind (on_text gives_text e) (rest (reverse before))) units printed)
    ∙ ap (λ (x : RuleTree). runs units x s printed) (sym (bind-bind (carry (texts_around (reverse levels) (text_ends t))) (on_text gives_text) (rest (reverse before))))
    ∙ h units printed

-- ---- outcomes

pub outcome_whole : (t : Step) (o : TupleText) (u : List ℕ) (n : Next) (stack : List Frame) (s : State) → o ≡ tuple_text.Whole u → n ≡ next.Give (Gives (text u)) → Shows t o → MeansIn s stack n (bind (carry t) (on_text gives_text)) stack
outcome_whole t o u n stack s is out h units printed =
    let whole : t ≡ text_ends u = subst (λ (x : TupleText). Shows t x) is h in
    ap (λ (x : Step). runs units (bind (bind (carry x) (on_text gives_text)) (rest (reverse stack))) s printed) whole
    ∙ ap (λ (x : Next). runs units (meant stack x) s printed) (sym out)

pub outcome_left : (t : Step) (o : TupleText) (stack : List Frame) (s : State) → o ≡ tuple_text.TooLong → Shows t o → MeansIn s stack (next.Leave beyond.Size) (bind (carry t) (on_text gives_text)) stack
outcome_left t o stack s is h units printed =
    let left : t ≡ Leaves beyond.Size = subst (λ (x : TupleText). Shows t x) is h in
    ap (λ (x : Step). runs units (bind (bind (carry x) (on_text gives_text)) (rest (reverse stack))) s printed) left

pub outcome_asked : (t : Step) (o : TupleText) (levels : List TupleLevel) (v : Value) (r : Result Next NoMemory) (now before : List Frame) → o ≡ tuple_text.Asked levels v
    → IfOk r (λ n. (s : State) → is_reference v ≡ true → MeansIn s now n (bind (carry (texts_around (reverse levels) (repr_step v))) (on_text gives_text)) before)
    → Shows t o → IfOk r (λ n. (s : State) → MeansIn s now n (bind (carry t) (on_text gives_text)) before)
outcome_asked t o levels v (Ok n) now before is h shows = λ s.
    let there : (t ≡ texts_around (reverse levels) (repr_step v)) × (is_reference v ≡ true) = subst (λ (x : TupleText). Shows t x) is shows in
    subst (λ (x : Step). MeansIn s now n (bind (carry x) (on_text gives_text)) before) (sym there.0) (h s there.1)
outcome_asked t o levels v (Err e) now before is h shows = tt

-- ---- turns

abbrev whole_or : Bool → List ℕ → (List ℕ → Step) → Step
whole_or b whole f = elim b [ true ↦ Leaves beyond.Size | false ↦ f whole ]

fitted : (before part made : List ℕ) (fits : Bool) (f : List ℕ → Step) → fits ≡ true → Fits before part fits made → adds_step before part f ≡ f made
fitted before part made fits f is h =
    let there : (made ≡ before ++ part) × (nat_lt heaviest_value (1 + length (before ++ part)) ≡ false) = subst (λ (b : Bool). Fits before part b made) is h in
    ap (λ (b : Bool). whole_or b (before ++ part) f) there.1 ∙ ap f (sym there.0)

long : (before part made : List ℕ) (fits : Bool) (f : List ℕ → Step) → fits ≡ false → Fits before part fits made → adds_step before part f ≡ Leaves beyond.Size
long before part made fits f is h =
    let there : nat_lt heaviest_value (1 + length (before ++ part)) ≡ true = subst (λ (b : Bool). Fits before part b made) is h in
    ap (λ (b : Bool). whole_or b (before ++ part) f) there

plain_text : (p : Plain) → adds_step [] (repr_of p) text_ends ≡ repr_step (value.Plain p)
unfolding repr_step
plain_text p = refl

pub shown_whole : (p : Plain) (before made u : List ℕ) (fits : Bool) → before ≡ [] → fits ≡ true → Fits before (repr_of p) fits made → u ≡ made → text_ends u ≡ repr_step (value.Plain p)
shown_whole p before made u fits none is h e =
    ap (λ (t : List ℕ). text_ends t) e
    ∙ sym (fitted before (repr_of p) made fits text_ends is h)
    ∙ ap (λ (b : List ℕ). adds_step b (repr_of p) text_ends) none
    ∙ plain_text p

pub shown_long : (p : Plain) (before made : List ℕ) (fits : Bool) → before ≡ [] → fits ≡ false → Fits before (repr_of p) fits made → Leaves beyond.Size ≡ repr_step (value.Plain p)
shown_long p before made fits none is h =
    sym (long before (repr_of p) made fits text_ends is h)
    ∙ ap (λ (b : List ℕ). adds_step b (repr_of p) text_ends) none
    ∙ plain_text p

pub separated : (old new : List TupleLevel) (item : Value) (waiting : List Value) (made whole u : List ℕ) (fits : Bool) → new ≡ old ++ record { made = u; is_single = false; waiting = waiting } ∷ [] → fits ≡ true → Fits made (codes ", ") fits whole → u ≡ whole
    → texts_around (reverse old) (further_items_step (map repr_step (item ∷ reverse waiting)) made) ≡ texts_around (reverse new) (repr_step item)
separated old new item waiting made whole u fits is ok h e =
    let level : TupleLevel = record { made = u; is_single = false; waiting = waiting } in
    ap (λ (t : Step). texts_around (reverse old) t) (fitted made (codes ", ") whole fits (λ t. item_step (repr_step item) t (further_items_step (map repr_step (reverse waiting)))) ok h
    ∙ ap (λ (t : List ℕ). item_step (repr_step item) t (further_items_step (map repr_step (reverse waiting)))) (sym e))
    ∙ ap (λ (ls : List TupleLevel). texts_around ls (repr_step item)) (sym (ap (λ (ls : List TupleLevel). reverse ls) is ∙ reverse-append old (level ∷ [])))

pub tuple_begun : (r : Result Turn NoMemory) (old new : List TupleLevel) (v : Value) (vs : List Value) → v ≡ value.Tuple vs → IfOk r (λ t. TurnsTo old new (tuple_text_step (map repr_step vs)) t) → IfOk r (λ t. TurnsTo old new (repr_step v) t)
tuple_begun r old new v vs is h = subst (λ (x : Step). IfOk r (λ t. TurnsTo old new x t)) (sym (ap repr_step is ∙ repr_tuple vs)) h

pub too_long : (levels : List TupleLevel) (r : Turn) (t : Step) → r ≡ turn.TooLong → t ≡ texts_around (reverse levels) (turn_step r) → t ≡ Leaves beyond.Size
too_long levels r t is e = e ∙ ap (λ (x : Turn). texts_around (reverse levels) (turn_step x)) is ∙ left_around (reverse levels) beyond.Size

pub text_goes : (levels : List TupleLevel) (t : List ℕ) (r : Result Next NoMemory) (now before : List Frame) (o : TupleText) → Shows (texts_around (reverse levels) (text_ends t)) o
    → IfOk r (λ n. (s : State) (u : Step) → Shows u o → MeansIn s now n (bind (carry u) (on_text gives_text)) before)
    → IfOk r (λ n. (s : State) → MeansIn s now n (through_levels (reverse levels) t) before)
text_goes levels t (Ok n) now before o shows h = λ s. text_added levels t n now before s (h s (texts_around (reverse levels) (text_ends t)) shows)
text_goes levels t (Err x) now before o shows h = tt

-- ---- what goes on with the text

text_value_kept : (f : List ℕ → RuleTree) (k : Completion → RuleTree) (v : Value) → bind (on_text_value gives_text v) (λ r. bind (on_text f r) k) ≡ bind (on_text_value f v) k
text_value_kept f k =
    each_value (λ v. bind (on_text_value gives_text v) (λ r. bind (on_text f r) k) ≡ bind (on_text_value f v) k)
    (each_plain (λ p. bind (on_text_value gives_text (value.Plain p)) (λ r. bind (on_text f r) k) ≡ bind (on_text_value f (value.Plain p)) k) refl (λ b. refl) (λ n. refl) (λ t. refl) (λ t. refl) refl refl (λ ps. refl))
    (λ vs. refl) (λ n. refl) (λ id. refl)

text_kept : (f : List ℕ → RuleTree) (k : Completion → RuleTree) (a : Completion) → bind (on_text gives_text a) (λ r. bind (on_text f r) k) ≡ bind (on_text f a) k
text_kept f k (Gives v) = text_value_kept f k v
text_kept f k (Raises r) = refl
text_kept f k (Returns v) = refl
text_kept f k Breaks = refl
text_kept f k Continues = refl
text_kept f k (Drained vs) = refl

-- a text, and then what goes on with it
pub text_goes_on : (t : RuleTree) (f : List ℕ → RuleTree) (k : Completion → RuleTree) → bind (bind t (on_text f)) k ≡ bind (bind t (on_text gives_text)) (λ r. bind (on_text f r) k)
text_goes_on t f k =
    bind-bind t (on_text f) k
    ∙ ap (λ (g : Completion → RuleTree). bind t g) (fun_ext (λ a. sym (text_kept f k a)))
    ∙ sym (bind-bind t (on_text gives_text) (λ r. bind (on_text f r) k))
