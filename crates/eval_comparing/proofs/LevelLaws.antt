-- Levels of tests: an answer goes to the innermost, and the truth of what that tells to the one around it.
use Rattle.std.proofs.Common.{◌≡◌, ◌||◌, ◌++◌, [], ◌∷◌, ℕ, Bool, true, false, List, Option, Some, None, Result, Ok, Err, IfOk, map, reverse, length, not, IsTrue, ◌↔◌, refl, sym, ◌∙◌, ap, subst}
use Rattle.std.proofs.lemmas.List.{reverse-append, reverse-reverse}
use mathlib.Core.Path.{fun_ext}
use Rattle.rp_base.specs.declared.ends.NoMemory.{NoMemory}
use Rattle.rp_base.specs.declared.exceptions.Beyond.{Beyond}
use Rattle.rp_base.specs.declared.exceptions.Beyond.TheVariants as beyond
use Rattle.rp_base.specs.declared.operators.CmpOp.TheVariants as cmp
use Rattle.rp_base.specs.declared.plain.Plain.{Plain}
use Rattle.rp_base.specs.declared.plain.Plain.TheVariants as plain
use Rattle.rp_base.specs.declared.value.Value.{Value}
use Rattle.rp_base.specs.declared.value.Value.TheVariants as value
use Rattle.side_trees.proofs.BindLaw.{bind-bind}
use Rattle.side_trees.specs.Trees.{Return, bind}
use Rattle.language_rules.specs.Chains.{opposite}
use Rattle.language_rules.specs.Codes.{Breaks, Completion, Continues, Drained, Ends, Gives, Leaves, Raises, Returns, Step}
use Rattle.language_rules.specs.Comparing.{compare_step, found_step}
use Rattle.language_rules.specs.Going.{RuleTree, and_value, boolean, carry, on_value, value_step}
use Rattle.language_rules.specs.Running.{runs}
use Rattle.language_rules.specs.States.{State}
use Rattle.language_rules.specs.Truth.{and_bool, bool_value_step, on_bool, on_bool_value, on_truth, tells, truth_step}
use Rattle.eval_frames.proofs.Operating.{step_behind}
use Rattle.eval_frames.specs.declared.frame.Decision.TheVariants as decision
use Rattle.eval_frames.specs.declared.frame.Frame.{Frame}
use Rattle.eval_frames.specs.declared.frame.Frame.TheVariants as frame
use Rattle.eval_frames.specs.declared.frame.TestLevel.{TestLevel}
use Rattle.eval_frames.specs.declared.frame.TestLevel.TheVariants as test_level
use Rattle.eval_frames.specs.declared.frame.ValuePair.{ValuePair}
use Rattle.eval_frames.specs.declared.next.Next.{Next}
use Rattle.eval_frames.specs.Meaning.{MeansIn, RunsAs, decides, level_step, rest, resume, test_levels}
use Rattle.eval_frames.proofs.Shapes.{each_plain, each_value}
use Rattle.eval_comparing.specs.Answers.{Answers, IsFound, MayAsk, MeetsItem, Turns, question_step, refers, steps_around, told_step}
use Rattle.eval_comparing.specs.declared.answer.Meeting.{Meeting}
use Rattle.eval_comparing.specs.declared.answer.Meeting.TheVariants as meeting
use Rattle.eval_comparing.specs.declared.answer.Answer.{Answer}
use Rattle.eval_comparing.specs.declared.answer.Answer.TheVariants as answer
use Rattle.eval_comparing.specs.declared.answer.Question.{Question}
use Rattle.eval_comparing.specs.declared.answer.Turn.{Turn}
use Rattle.eval_comparing.specs.declared.answer.Turn.TheVariants as turn
use Rattle.eval_comparing.specs.Steps.{MeansAnywhere}

-- ---- steps that end within levels

pub left_around : (ls : List TestLevel) (b : Beyond) → steps_around ls (Leaves b) ≡ Leaves b
left_around [] b = refl
left_around (l ∷ ls) b = left_around ls b

pub left_by_item : (ls : List TestLevel) (l : TestLevel) (x e : Value) (m : Meeting) → m ≡ meeting.Uneven → MeetsItem x e m → steps_around ls (and_bool (found_step x e) (level_step l)) ≡ Leaves beyond.Compare
left_by_item ls l x e m is h =
    let met : found_step x e ≡ Leaves beyond.Compare = subst (λ (n : Meeting). MeetsItem x e n) is h in
    ap (λ (t : Step). steps_around ls (and_bool t (level_step l))) met ∙ left_around ls beyond.Compare

-- ---- a truth, and what is done by it

-- a step by a bool, and the same as a computation
bool_value_carried : (f : Bool → Step) (v : Value) → carry (bool_value_step f v) ≡ on_bool (λ b. carry (f b)) (Gives v)
bool_value_carried f =
    each_value (λ v. carry (bool_value_step f v) ≡ on_bool (λ b. carry (f b)) (Gives v))
    (each_plain (λ p. carry (bool_value_step f (value.Plain p)) ≡ on_bool (λ b. carry (f b)) (Gives (value.Plain p))) refl (λ b. refl) (λ n. refl) (λ t. refl) (λ t. refl) refl refl (λ ps. refl))
    (λ vs. refl) (λ n. refl) (λ id. refl)

pub bool_carried : (f : Bool → Step) (a : Completion) → carry (value_step (bool_value_step f) a) ≡ on_bool (λ b. carry (f b)) a
bool_carried f (Gives v) = bool_value_carried f v
bool_carried f (Raises r) = refl
bool_carried f (Returns v) = refl
bool_carried f Breaks = refl
bool_carried f Continues = refl
bool_carried f (Drained vs) = refl

-- the truth of an answer, and a step by it
abbrev pub by_truth : (Bool → Step) → Completion → RuleTree
by_truth f a = on_value (λ v. on_truth v (λ b. carry (f b))) a

truth_behind : (f : Bool → Step) (k : Completion → RuleTree) (e : Completion) → bind (carry (value_step truth_step e)) (λ a. bind (carry (value_step (bool_value_step f) a)) k) ≡ bind (by_truth f e) k
truth_behind f k (Gives v) =
    ap (λ (g : Completion → RuleTree). bind (carry (truth_step v)) g) (fun_ext (λ a. ap (λ (t : RuleTree). bind t k) (bool_carried f a)))
    ∙ sym (bind-bind (carry (truth_step v)) (on_bool (λ b. carry (f b))) k)
truth_behind f k (Raises r) = refl
truth_behind f k (Returns v) = refl
truth_behind f k Breaks = refl
truth_behind f k Continues = refl
truth_behind f k (Drained vs) = refl

-- a step whose truth decides may as well end, and the truth be asked behind it
pub tested_behind : (s : State) (t : Step) (f : Bool → Step) (k : Completion → RuleTree)
    → RunsAs s (bind (carry (and_bool (and_value t truth_step) f)) k) (bind (carry t) (λ e. bind (by_truth f e) k))
tested_behind s t f k units printed =
    step_behind s (and_value t truth_step) (value_step (bool_value_step f)) k units printed
    ∙ step_behind s t (value_step truth_step) (λ a. bind (carry (value_step (bool_value_step f) a)) k) units printed
    ∙ ap (λ (g : Completion → RuleTree). runs units (bind (carry t) g) s printed) (fun_ext (λ e. truth_behind f k e))

-- ---- a step within levels may as well end, and its answer go to them

pub levels_wait : (ls : List TestLevel) (s : State) (t : Step) (k : Completion → RuleTree)
    → RunsAs s (bind (carry (steps_around ls t)) k) (bind (carry t) (λ e. bind (test_levels ls e) k))
levels_wait [] s t k units printed = refl
levels_wait (l ∷ ls) s t k units printed =
    levels_wait ls s (and_bool (and_value t truth_step) (level_step l)) k units printed
    ∙ tested_behind s t (level_step l) (λ e. bind (test_levels ls e) k) units printed
    ∙ ap (λ (g : Completion → RuleTree). runs units (bind (carry t) g) s printed) (fun_ext (λ e. sym (bind-bind (by_truth (level_step l) e) (test_levels ls) k)))

-- ---- the frame that waits for the answer

-- what is done by a bool, and then more
bool_value_bound : (f : Bool → RuleTree) (k : Completion → RuleTree) (v : Value) → bind (on_bool f (Gives v)) k ≡ on_bool (λ b. bind (f b) k) (Gives v)
bool_value_bound f k =
    each_value (λ v. bind (on_bool f (Gives v)) k ≡ on_bool (λ b. bind (f b) k) (Gives v))
    (each_plain (λ p. bind (on_bool f (Gives (value.Plain p))) k ≡ on_bool (λ b. bind (f b) k) (Gives (value.Plain p))) refl (λ b. refl) (λ n. refl) (λ t. refl) (λ t. refl) refl refl (λ ps. refl))
    (λ vs. refl) (λ n. refl) (λ id. refl)

-- any other end than a value passes all levels
handed_on : (ls : List TestLevel) (a : Completion) → ((f : Value → RuleTree) → on_value f a ≡ Return a) → test_levels ls a ≡ Return a
handed_on [] a h = refl
handed_on (l ∷ ls) a h = ap (λ (t : RuleTree). bind t (test_levels ls)) (h (λ v. on_truth v (λ b. carry (level_step l b)))) ∙ handed_on ls a h

bool_bound : (f : Bool → RuleTree) (ls : List TestLevel) (a : Completion) → bind (on_bool f a) (test_levels ls) ≡ on_bool (λ b. bind (f b) (test_levels ls)) a
bool_bound f ls (Gives v) = bool_value_bound f (test_levels ls) v
bool_bound f ls (Raises r) = handed_on ls (Raises r) (λ g. refl)
bool_bound f ls (Returns v) = handed_on ls (Returns v) (λ g. refl)
bool_bound f ls Breaks = handed_on ls Breaks (λ g. refl)
bool_bound f ls Continues = handed_on ls Continues (λ g. refl)
bool_bound f ls (Drained vs) = handed_on ls (Drained vs) (λ g. refl)

truth_bound : (f : Bool → RuleTree) (ls : List TestLevel) (v : Value) → bind (on_truth v f) (test_levels ls) ≡ on_truth v (λ b. bind (f b) (test_levels ls))
truth_bound f ls v =
    bind-bind (carry (truth_step v)) (on_bool f) (test_levels ls)
    ∙ ap (λ (g : Completion → RuleTree). bind (carry (truth_step v)) g) (fun_ext (λ a. bool_bound f ls a))

waits_at : (l : TestLevel) (ls : List TestLevel) (a : Completion) → on_value (λ v. on_truth v (λ b. test_levels (l ∷ ls) (Gives (boolean b)))) a ≡ test_levels (l ∷ ls) a
waits_at l ls (Gives v) = sym (truth_bound (λ b. carry (level_step l b)) ls v)
waits_at l ls (Raises r) = sym (handed_on (l ∷ ls) (Raises r) (λ f. refl))
waits_at l ls (Returns v) = sym (handed_on (l ∷ ls) (Returns v) (λ f. refl))
waits_at l ls Breaks = sym (handed_on (l ∷ ls) Breaks (λ f. refl))
waits_at l ls Continues = sym (handed_on (l ∷ ls) Continues (λ f. refl))
waits_at l ls (Drained vs) = sym (handed_on (l ∷ ls) (Drained vs) (λ f. refl))

-- the frame with these levels
frame_waits : (ls levels : List TestLevel) → reverse levels ≡ ls → (levels ≡ [] → ⊥) → (a : Completion) → resume (frame.Test (decision.Levels levels)) a ≡ test_levels (reverse levels) a
frame_waits [] levels is some a = absurd (some (sym (reverse-reverse levels) ∙ ap (λ (fs : List TestLevel). reverse fs) is))
frame_waits (l ∷ ls) levels is some a =
    ap (λ (fs : List TestLevel). on_value (λ v. on_truth v (λ b. test_levels fs (Gives (boolean b)))) a) is
    ∙ waits_at l ls a
    ∙ ap (λ (fs : List TestLevel). test_levels fs a) (sym is)

-- over a stack
pub asked_within : (r : Result Next NoMemory) (now before over : List Frame) (levels : List TestLevel) (t : Step) → (levels ≡ [] → ⊥) → over ≡ before ++ frame.Test (decision.Levels levels) ∷ []
    → IfOk r (λ n. MeansAnywhere now n (carry t) over) → IfOk r (λ n. MeansAnywhere now n (carry (steps_around (reverse levels) t)) before)
asked_within (Ok n) now before over levels t some is h = λ s units printed.
    levels_wait (reverse levels) s t (rest (reverse before)) units printed
    ∙ ap (λ (g : Completion → RuleTree). runs units (bind (carry t) g) s printed) (fun_ext (λ e. ap (λ (u : RuleTree). bind u (rest (reverse before))) (sym (frame_waits (reverse levels) levels refl some e))))
    ∙ ap (λ (fs : List Frame). runs units (bind (carry t) (rest fs)) s printed) (sym (ap (λ (fs : List Frame). reverse fs) is ∙ reverse-append before (frame.Test (decision.Levels levels) ∷ [])))
    ∙ h s units printed
asked_within (Err x) now before over levels t some is h = tt

-- with no level around it
pub asked_alone : (r : Result Next NoMemory) (now before : List Frame) (levels : List TestLevel) (t : Step) → levels ≡ []
    → IfOk r (λ n. MeansAnywhere now n (carry t) before) → IfOk r (λ n. MeansAnywhere now n (carry (steps_around (reverse levels) t)) before)
asked_alone r now before levels t none h = subst (λ (ls : List TestLevel). IfOk r (λ n. MeansAnywhere now n (carry (steps_around (reverse ls) t)) before)) (sym none) h

-- a bool that goes to levels
pub decided : (r : Result Next NoMemory) (now before : List Frame) (levels : List TestLevel) (holds : Bool)
    → IfOk r (λ n. MeansAnywhere now n (carry (steps_around (reverse levels) (tells holds))) before)
    → IfOk r (λ n. (s : State) (v : Value) → MeansIn s now n (decides (decision.Levels levels) v holds) before)
decided (Ok n) now before levels holds h = λ s v units printed.
    sym (levels_wait (reverse levels) s (tells holds) (rest (reverse before)) units printed) ∙ h s units printed
decided (Err x) now before levels holds h = tt

-- ---- answers

pub may_ask : (t : Step) (a : Answer) → Answers t a → MayAsk a
may_ask t (answer.Told b) h = tt
may_ask t answer.Uneven h = tt
may_ask t (answer.Asked q) h = h.1

-- the truth of a comparison by pairs
pub found_by_pairs : (x e : Value) (t : Step) (a : Answer) → found_step x e ≡ and_value t truth_step → Answers t a → IsFound x e a
found_by_pairs x e t (answer.Told b) h g = h ∙ ap (λ (u : Step). and_value u truth_step) g
found_by_pairs x e t answer.Uneven h g = h ∙ ap (λ (u : Step). and_value u truth_step) g
found_by_pairs x e t (answer.Asked q) h g = (h ∙ ap (λ (u : Step). and_value u truth_step) g.0, g.1)

pub filled : (levels : List TestLevel) → (IsTrue false ↔ (levels ≡ [])) → levels ≡ [] → ⊥
filled levels h e = let bad : false ≡ true = h.1 e in cc

-- ---- opposites

opposite_value : (v : Value) → on_bool_value (λ b. carry (tells (not b))) v ≡ opposite v
opposite_value =
    each_value (λ v. on_bool_value (λ b. carry (tells (not b))) v ≡ opposite v)
    (each_plain (λ p. on_bool_value (λ b. carry (tells (not b))) (value.Plain p) ≡ opposite (value.Plain p)) refl (λ b. refl) (λ n. refl) (λ t. refl) (λ t. refl) refl refl (λ ps. refl))
    (λ vs. refl) (λ n. refl) (λ id. refl)

opposite_end : (a : Completion) → on_bool (λ b. carry (tells (not b))) a ≡ on_value opposite a
opposite_end (Gives v) = opposite_value v
opposite_end (Raises r) = refl
opposite_end (Returns v) = refl
opposite_end Breaks = refl
opposite_end Continues = refl
opposite_end (Drained vs) = refl

opposite_behind : (s : State) (t : Step) (k : Completion → RuleTree) → RunsAs s (bind (carry (and_bool t (λ e. tells (not e)))) k) (bind (bind (carry t) (on_value opposite)) k)
opposite_behind s t k units printed =
    step_behind s t (value_step (bool_value_step (λ e. tells (not e)))) k units printed
    ∙ ap (λ (g : Completion → RuleTree). runs units (bind (carry t) (λ a. bind (g a) k)) s printed) (fun_ext (λ a. bool_carried (λ e. tells (not e)) a ∙ opposite_end a))
    ∙ ap (λ (u : RuleTree). runs units u s printed) (sym (bind-bind (carry t) (on_value opposite) k))

pub unequal_asked : (t : Step) (a : Answer) (q : Question) → a ≡ answer.Asked q → Answers t a → ((s : State) (k : Completion → RuleTree) → RunsAs s (bind (carry (and_bool t (λ e. tells (not e)))) k) (bind (bind (carry (question_step q)) (on_value opposite)) k)) × refers q.left q.right
unequal_asked t a q is h =
    let there : (t ≡ question_step q) × refers q.left q.right = subst (λ (x : Answer). Answers t x) is h in
    (λ s k units printed. ap (λ (u : Step). runs units (bind (carry (and_bool u (λ e. tells (not e)))) k) s printed) there.0 ∙ opposite_behind s (question_step q) k units printed, there.1)

-- ---- turn by turn

level_taken : (old new : List TestLevel) (l : TestLevel) (b : Bool) → old ≡ new ++ l ∷ [] → steps_around (reverse old) (tells b) ≡ steps_around (reverse new) (level_step l b)
level_taken old new l b is = ap (λ (ls : List TestLevel). steps_around ls (tells b)) (ap (λ (ls : List TestLevel). reverse ls) is ∙ reverse-append new (l ∷ []))

pub turned_told : (old new now : List TestLevel) (l : TestLevel) (b c : Bool) (r : Turn) (t : Step) → old ≡ new ++ l ∷ [] → r ≡ turn.Told c → Turns new now (level_step l b) r → t ≡ steps_around (reverse old) (tells b)
    → t ≡ steps_around (reverse now) (tells c)
turned_told old new now l b c r t taken is h e = e ∙ level_taken old new l b taken ∙ subst (λ (x : Turn). Turns new now (level_step l b) x) is h

pub turned_uneven : (old new now : List TestLevel) (l : TestLevel) (b : Bool) (r : Turn) (t : Step) → old ≡ new ++ l ∷ [] → r ≡ turn.Uneven → Turns new now (level_step l b) r → t ≡ steps_around (reverse old) (tells b)
    → t ≡ Leaves beyond.Compare
turned_uneven old new now l b r t taken is h e = e ∙ level_taken old new l b taken ∙ subst (λ (x : Turn). Turns new now (level_step l b) x) is h

pub turned_asked : (old new now : List TestLevel) (l : TestLevel) (b : Bool) (x y : Value) (r : Turn) (t : Step) → old ≡ new ++ l ∷ [] → r ≡ turn.Asked x y → Turns new now (level_step l b) r → t ≡ steps_around (reverse old) (tells b)
    → (t ≡ steps_around (reverse now) (compare_step cmp.Eq x y)) × refers x y
turned_asked old new now l b x y r t taken is h e =
    let there : (steps_around (reverse new) (level_step l b) ≡ steps_around (reverse now) (compare_step cmp.Eq x y)) × refers x y = subst (λ (u : Turn). Turns new now (level_step l b) u) is h in
    (e ∙ level_taken old new l b taken ∙ there.0, there.1)

pub none_left : (old : List TestLevel) (b : Bool) (t : Step) → old ≡ [] → t ≡ steps_around (reverse old) (tells b) → t ≡ tells b
none_left old b t is e = e ∙ ap (λ (ls : List TestLevel). steps_around (reverse ls) (tells b)) is

-- ---- the outermost level

around_last : (ls : List TestLevel) (l : TestLevel) (t : Step) → steps_around (ls ++ l ∷ []) t ≡ and_bool (and_value (steps_around ls t) truth_step) (level_step l)
around_last [] l t = refl
around_last (m ∷ ms) l t = around_last ms l (and_bool (and_value t truth_step) (level_step m))

pub around_first : (levels pushed : List TestLevel) (q : List TestLevel) (l : TestLevel) (t : Step) → pushed ≡ l ∷ [] → levels ≡ pushed ++ q → steps_around (reverse levels) t ≡ and_bool (and_value (steps_around (reverse q) t) truth_step) (level_step l)
around_first levels pushed q l t one is =
    ap (λ (ls : List TestLevel). steps_around ls t) (ap (λ (ls : List TestLevel). reverse ls) (is ∙ ap (λ (ls : List TestLevel). ls ++ q) one) ∙ reverse-append (l ∷ []) q)
    ∙ around_last (reverse q) l t

pub answered : (r : Result Next NoMemory) (now before : List Frame) (t : Step) (a : Answer) → Answers t a → IfOk r (λ n. (u : Step) → Answers u a → MeansAnywhere now n (carry u) before) → IfOk r (λ n. MeansAnywhere now n (carry t) before)
answered (Ok n) now before t a h m = m t h
answered (Err x) now before t a h m = tt

pub truth_asked : (r : Result Next NoMemory) (now before : List Frame) (start pushed levels q : List TestLevel) (pairs : List ValuePair) (t : Step) → start ≡ [] → pairs ≡ [] → pushed ≡ start ++ test_level.Pairs pairs ∷ [] → levels ≡ pushed ++ q
    → IfOk r (λ n. MeansAnywhere now n (carry (steps_around (reverse levels) t)) before) → IfOk r (λ n. MeansAnywhere now n (carry (and_bool (and_value (steps_around (reverse q) t) truth_step) told_step)) before)
truth_asked r now before start pushed levels q pairs t none empty is all h =
    let one : pushed ≡ test_level.Pairs [] ∷ [] = is ∙ ap (λ (ls : List TestLevel). ls ++ test_level.Pairs pairs ∷ []) none ∙ ap (λ (ps : List ValuePair). test_level.Pairs ps ∷ []) empty in
    subst (λ (x : Step). IfOk r (λ n. MeansAnywhere now n (carry x) before)) (around_first levels pushed q (test_level.Pairs []) t one all) h
