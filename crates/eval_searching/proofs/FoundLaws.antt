-- Comparison of a value with an item, of which one may have to be asked.
use Rattle.std.proofs.Common.{◌≡◌, ◌||◌, ◌++◌, [], ◌∷◌, ℕ, Bool, true, false, suc, drop, Some, List, Result, Ok, Err, IfOk, map, reverse, refl, sym, ◌∙◌, ap, subst}
use Rattle.std.proofs.lemmas.List.{reverse-append}
use mathlib.Core.Path.{fun_ext}
use Rattle.rp_base.specs.declared.ends.NoMemory.{NoMemory}
use Rattle.rp_base.specs.declared.exceptions.Beyond.TheVariants as beyond
use Rattle.rp_base.specs.declared.identity.IdPack.{IdPack}
use Rattle.rp_base.specs.declared.operators.CmpOp.TheVariants as cmp
use Rattle.rp_base.specs.declared.plain.Plain.{Plain}
use Rattle.rp_base.specs.declared.plain.Plain.TheOpen.{Plain-F}
use Rattle.rp_base.specs.declared.plain.Plain.TheVariants as plain
use Rattle.rp_base.specs.declared.value.Value.{Value}
use Rattle.rp_base.specs.declared.value.Value.TheVariants as value
use Rattle.rp_base.specs.PlainLaws.{gather_tuple, look_tuple}
use Rattle.rp_base.specs.PlainValues.{gather}
use Rattle.object_operations.specs.declared.operation.Operation.{Operation}
use Rattle.object_operations.specs.declared.operation.Operation.TheVariants as operation
use Rattle.side_trees.proofs.BindLaw.{bind-bind}
use Rattle.side_trees.specs.Trees.{Return, bind}
use Rattle.language_rules.specs.Answers.{gives}
use Rattle.language_rules.specs.Codes.{Asks, Breaks, Code, Completion, Continues, Drained, Give, Gives, Go, Leaves, Raises, Returns, SearchNext, Step, Then, ValuesNext}
use Rattle.language_rules.specs.Comparing.{asks_operand, compare_step, equals_step, found_step, implemented, last_step, operands_step, plain_against, plain_equal_step, plain_equals, same_object}
use Rattle.language_rules.specs.Going.{RuleTree, and_value, boolean, carry, operates, value_step}
use Rattle.language_rules.specs.Kinds.{is_reference}
use Rattle.language_rules.specs.CellComparing.{pair_compared, same_length}
use Rattle.language_rules.specs.Rules.{expand}
use Rattle.language_rules.specs.Running.{runs}
use Rattle.language_rules.specs.Searching.{gives_position, reads_list, searches_from, values_behind}
use Rattle.language_rules.specs.States.{State}
use Rattle.language_rules.specs.StepLaws.{equals_tuple}
use Rattle.language_rules.specs.Truth.{and_bool, bool_value_step, on_bool, tells, truth_step}
use Rattle.eval_comparing.proofs.Operands.{other_side, passed}
use Rattle.eval_frames.proofs.Shapes.{each_plain, each_reference, each_value}
use Rattle.eval_frames.proofs.Operating.{code_goes_on}
use Rattle.eval_frames.specs.declared.frame.Decision.TheVariants as decision
use Rattle.eval_frames.specs.declared.frame.Frame.{Frame}
use Rattle.eval_frames.specs.declared.frame.Frame.TheVariants as frame
use Rattle.eval_frames.specs.declared.frame.TestLevel.{TestLevel}
use Rattle.eval_frames.specs.declared.list_frames.EqualityFrame.TheVariants as equality_frame
use Rattle.eval_frames.specs.declared.list_frames.ListPair.{ListPair}
use Rattle.eval_frames.specs.declared.list_frames.SearchFrame.TheVariants as search_frame
use Rattle.eval_frames.specs.declared.next.Next.{Next}
use Rattle.eval_frames.specs.declared.next.Next.TheVariants as next
use Rattle.eval_frames.specs.Meaning.{MeansIn, RunsAs, level_step, meant, rest, resume}
use Rattle.eval_searching.specs.Searched.{GoesOnAs, WaitsFor, after_item, by_step, equal_step, item_asked}
use Rattle.eval_searching.specs.Compared.{after_equal}
use Rattle.eval_searching.specs.Values.{after_value, value_asked}
use Rattle.eval_comparing.proofs.LevelLaws.{bool_carried}
use Rattle.eval_comparing.specs.Answers.{Answers, question_step, refers, steps_around, told_step}
use Rattle.eval_comparing.specs.declared.answer.Answer.{Answer}
use Rattle.eval_comparing.specs.declared.answer.Answer.TheVariants as answer
use Rattle.eval_comparing.specs.declared.answer.Question.{Question}
use Rattle.eval_comparing.specs.Steps.{MeansAnywhere}

-- ---- at once

-- two values that are not one object are compared
abbrev found_by : Bool → Value → Value → Step
found_by b x e = elim b [ true ↦ tells true | false ↦ equal_step x e ]

pub apart_found : (x e : Value) → same_object x e ≡ false → found_step x e ≡ equal_step x e
apart_found x e h = ap (λ (b : Bool). found_by b x e) h

-- ---- the first operand that is asked

abbrev code_of : Step → Completion → Code
code_of t a = Then (Give a) (λ r. Go (value_step (implemented t) r))

left_own : (n : ℕ) (b : Value) → equals_step (value.Own n) b ≡ operands_step cmp.Eq (value.Own n) b
unfolding equals_step
left_own n b = refl

left_far : (id : IdPack) (b : Value) → equals_step (value.Proxy id) b ≡ operands_step cmp.Eq (value.Proxy id) b
unfolding equals_step
left_far id b = refl

abbrev ComparesPlain : Type 0
ComparesPlain = Plain → Value → Step

plain_tuple : (ps : List Plain) (b : Value) → plain_equals (plain.Tuple ps) b ≡ plain_against (Plain-F.Tuple (map (gather ComparesPlain plain_equal_step) ps)) (Plain-F.Tuple ps) (plain.Tuple ps) b
unfolding plain_equals
plain_tuple ps b =
    ap (λ (f : ComparesPlain). f (plain.Tuple ps) b) (gather_tuple ComparesPlain plain_equal_step ps)
    ∙ ap (λ (l : Plain-F Plain). plain_against (Plain-F.Tuple (map (gather ComparesPlain plain_equal_step) ps)) l (plain.Tuple ps) b) (look_tuple ps)

plain_own : (m : ℕ) (p : Plain) → plain_equals p (value.Own m) ≡ operands_step cmp.Eq (value.Plain p) (value.Own m)
unfolding plain_equals
plain_own m = each_plain (λ p. plain_equals p (value.Own m) ≡ operands_step cmp.Eq (value.Plain p) (value.Own m)) refl (λ b. refl) (λ n. refl) (λ t. refl) (λ t. refl) refl refl (λ ps. plain_tuple ps (value.Own m))

plain_far : (m : IdPack) (p : Plain) → plain_equals p (value.Proxy m) ≡ operands_step cmp.Eq (value.Plain p) (value.Proxy m)
unfolding plain_equals
plain_far m = each_plain (λ p. plain_equals p (value.Proxy m) ≡ operands_step cmp.Eq (value.Plain p) (value.Proxy m)) refl (λ b. refl) (λ n. refl) (λ t. refl) (λ t. refl) refl refl (λ ps. plain_tuple ps (value.Proxy m))

right_own : (m : ℕ) (a : Value) → equals_step a (value.Own m) ≡ operands_step cmp.Eq a (value.Own m)
unfolding equals_step
right_own m = each_value (λ a. equals_step a (value.Own m) ≡ operands_step cmp.Eq a (value.Own m)) (λ p. plain_own m p) (λ vs. equals_tuple vs (value.Own m)) (λ n. refl) (λ id. refl)

right_far : (m : IdPack) (a : Value) → equals_step a (value.Proxy m) ≡ operands_step cmp.Eq a (value.Proxy m)
unfolding equals_step
right_far m = each_value (λ a. equals_step a (value.Proxy m) ≡ operands_step cmp.Eq a (value.Proxy m)) (λ p. plain_far m p) (λ vs. equals_tuple vs (value.Proxy m)) (λ n. refl) (λ id. refl)

right_first : (a b : Value) → is_reference a ≡ false → operands_step cmp.Eq a b ≡ asks_operand b cmp.Eq a (last_step cmp.Eq a b)
right_first a b h = passed a b cmp.Eq (asks_operand b cmp.Eq a (last_step cmp.Eq a b)) h

-- what holds of every step that asks holds of a comparison of which an operand is a reference
asks_left : (P : Step → Type 0) → ((o : Operation) (c : Completion → Code) → P (Asks o c)) → (a b : Value) → is_reference a ≡ true → P (compare_step cmp.Eq a b)
asks_left P h a b r =
    each_reference (λ v. P (compare_step cmp.Eq v b))
    (λ n. subst P (sym (left_own n b)) (h (operation.Cmp (value.Own n) cmp.Eq b) (code_of (asks_operand b cmp.Eq (value.Own n) (last_step cmp.Eq (value.Own n) b)))))
    (λ id. subst P (sym (left_far id b)) (h (operation.Cmp (value.Proxy id) cmp.Eq b) (code_of (asks_operand b cmp.Eq (value.Proxy id) (last_step cmp.Eq (value.Proxy id) b)))))
    a r

asks_right : (P : Step → Type 0) → ((o : Operation) (c : Completion → Code) → P (Asks o c)) → (a b : Value) → is_reference a ≡ false → is_reference b ≡ true → P (compare_step cmp.Eq a b)
asks_right P h a b apart r =
    each_reference (λ w. P (compare_step cmp.Eq a w))
    (λ m. subst P (sym (right_own m a ∙ right_first a (value.Own m) apart)) (h (operation.Cmp (value.Own m) cmp.Eq a) (code_of (last_step cmp.Eq a (value.Own m)))))
    (λ id. subst P (sym (right_far id a ∙ right_first a (value.Proxy id) apart)) (h (operation.Cmp (value.Proxy id) cmp.Eq a) (code_of (last_step cmp.Eq a (value.Proxy id)))))
    b r

asks_by : (P : Step → Type 0) → ((o : Operation) (c : Completion → Code) → P (Asks o c)) → (a b : Value) (left : Bool) → is_reference a ≡ left → (is_reference a || is_reference b) ≡ true → P (compare_step cmp.Eq a b)
asks_by P h a b true is one = asks_left P h a b is
asks_by P h a b false is one = asks_right P h a b is (other_side (is_reference a) (is_reference b) is one)

asks_first : (P : Step → Type 0) → ((o : Operation) (c : Completion → Code) → P (Asks o c)) → (a b : Value) → (is_reference a || is_reference b) ≡ true → P (compare_step cmp.Eq a b)
asks_first P h a b one = asks_by P h a b (is_reference a) refl one

-- ---- the truth of the answer

-- a bool that is given goes on as it would have
kept_value : (later : Bool → RuleTree) (k : Completion → RuleTree) (v : Value) → bind (on_bool (λ b. gives (boolean b)) (Gives v)) (λ r. bind (on_bool later r) k) ≡ bind (on_bool later (Gives v)) k
kept_value later k =
    each_value (λ v. bind (on_bool (λ b. gives (boolean b)) (Gives v)) (λ r. bind (on_bool later r) k) ≡ bind (on_bool later (Gives v)) k)
    (each_plain (λ p. bind (on_bool (λ b. gives (boolean b)) (Gives (value.Plain p))) (λ r. bind (on_bool later r) k) ≡ bind (on_bool later (Gives (value.Plain p))) k) refl (λ b. refl) (λ n. refl) (λ t. refl) (λ t. refl) refl refl (λ ps. refl))
    (λ vs. refl) (λ n. refl) (λ id. refl)

kept : (later : Bool → RuleTree) (k : Completion → RuleTree) (r : Completion) → bind (on_bool (λ b. gives (boolean b)) r) (λ e. bind (on_bool later e) k) ≡ bind (on_bool later r) k
kept later k (Gives v) = kept_value later k v
kept later k (Raises r) = refl
kept later k (Returns v) = refl
kept later k Breaks = refl
kept later k Continues = refl
kept later k (Drained vs) = refl

-- the truth of an answer, over what waits for a bool
tested : (later : Bool → RuleTree) (k : Completion → RuleTree) (r : Completion) → bind (carry (value_step truth_step r)) (λ e. bind (on_bool later e) k) ≡ bind (resume (frame.Test decision.Bool) r) (λ e. bind (on_bool later e) k)
tested later k (Gives v) =
    ap (λ (g : Completion → RuleTree). bind (carry (truth_step v)) g) (fun_ext (λ e. sym (kept later k e)))
    ∙ sym (bind-bind (carry (truth_step v)) (on_bool (λ b. gives (boolean b))) (λ e. bind (on_bool later e) k))
tested later k (Raises r) = refl
tested later k (Returns v) = refl
tested later k Breaks = refl
tested later k Continues = refl
tested later k (Drained vs) = refl

-- a comparison whose truth goes on so
abbrev Tested : State → (Bool → RuleTree) → (Completion → RuleTree) → Step → Type 0
Tested s later k t = RunsAs s (bind (carry (and_value t truth_step)) (λ e. bind (on_bool later e) k)) (bind (carry t) (λ r. bind (resume (frame.Test decision.Bool) r) (λ e. bind (on_bool later e) k)))

asked_tested : (s : State) (later : Bool → RuleTree) (k : Completion → RuleTree) (o : Operation) (c : Completion → Code) → Tested s later k (Asks o c)
asked_tested s later k o c units printed =
    code_goes_on s o c (λ e. Go (value_step truth_step e)) (λ e. bind (on_bool later e) k) units printed
    ∙ ap (λ (g : Completion → RuleTree). runs units (bind (operates o c (λ a. Return a)) g) s printed) (fun_ext (λ r. tested later k r))

abbrev CodeTested : State → (Completion → Code) → (Bool → RuleTree) → (Bool → RuleTree) → (Completion → RuleTree) → Step → Type 0
CodeTested s f next later k t = RunsAs s (bind (by_step (and_value t truth_step) f next) k) (bind (carry t) (λ r. bind (resume (frame.Test decision.Bool) r) (λ e. bind (on_bool later e) k)))

code_tested : (s : State) (f : Completion → Code) (next later : Bool → RuleTree) (k : Completion → RuleTree) → ((r : Completion) → expand (f r) ≡ on_bool later r) → (o : Operation) (c : Completion → Code) → CodeTested s f next later k (Asks o c)
code_tested s f next later k same o c units printed =
    code_goes_on s o (λ a. Then (c a) (λ e. Go (value_step truth_step e))) f k units printed
    ∙ ap (λ (g : Completion → RuleTree). runs units (bind (operates o (λ a. Then (c a) (λ e. Go (value_step truth_step e))) (λ a. Return a)) g) s printed) (fun_ext (λ r. ap (λ (t : RuleTree). bind t k) (same r)))
    ∙ asked_tested s later k o c units printed

-- ---- over a stack: a frame that waits for a bool, and under the question one for the truth of the answer

stacked : (fr : Frame) (later : Bool → RuleTree) (t : RuleTree) (before middle over : List Frame) → ((r : Completion) → resume fr r ≡ on_bool later r) → middle ≡ before ++ fr ∷ [] → over ≡ middle ++ frame.Test decision.Bool ∷ []
    → bind t (λ r. bind (resume (frame.Test decision.Bool) r) (λ e. bind (on_bool later e) (rest (reverse before)))) ≡ bind t (rest (reverse over))
stacked fr later t before middle over same is is' =
    ap (λ (g : Completion → RuleTree). bind t (λ r. bind (resume (frame.Test decision.Bool) r) g)) (fun_ext (λ e. ap (λ (u : RuleTree). bind u (rest (reverse before))) (sym (same e))))
    ∙ ap (λ (fs : List Frame). bind t (λ r. bind (resume (frame.Test decision.Bool) r) (rest fs))) (sym (ap (λ (fs : List Frame). reverse fs) is ∙ reverse-append before (fr ∷ [])))
    ∙ ap (λ (fs : List Frame). bind t (rest fs)) (sym (ap (λ (fs : List Frame). reverse fs) is' ∙ reverse-append middle (frame.Test decision.Bool ∷ [])))

pub found_asked : (x e e' : Value) (fr : Frame) (result : Result Next NoMemory) (now before middle over : List Frame) → (is_reference x || is_reference e) ≡ true → e' ≡ e → middle ≡ before ++ fr ∷ [] → over ≡ middle ++ frame.Test decision.Bool ∷ []
    → IfOk result (λ n. (s : State) → MeansIn s now n (carry (compare_step cmp.Eq x e')) over)
    → IfOk result (λ n. (f : Completion → Code) (next later : Bool → RuleTree) (s : State) → GoesOnAs fr f later → MeansIn s now n (by_step (equal_step x e) f next) before)
found_asked x e e' fr (Ok n) now before middle over one copied is is' h = λ f next later s same units printed.
    asks_first (CodeTested s f next later (rest (reverse before))) (code_tested s f next later (rest (reverse before)) (λ r. (same r).0)) x e one units printed
    ∙ ap (λ (t : RuleTree). runs units t s printed) (stacked fr later (carry (compare_step cmp.Eq x e)) before middle over (λ r. (same r).1) is is')
    ∙ subst (λ (v : Value). RunsAs s (bind (carry (compare_step cmp.Eq x v)) (rest (reverse over))) (meant now n)) copied (h s) units printed
found_asked x e e' fr (Err z) now before middle over one copied is is' h = tt

pub pair_asked : (x e e' : Value) (fr : Frame) (result : Result Next NoMemory) (now before middle over : List Frame) → (is_reference x || is_reference e) ≡ true → e' ≡ e → middle ≡ before ++ fr ∷ [] → over ≡ middle ++ frame.Test decision.Bool ∷ []
    → IfOk result (λ n. (s : State) → MeansIn s now n (carry (compare_step cmp.Eq x e')) over)
    → IfOk result (λ n. (later : Bool → RuleTree) (s : State) → WaitsFor fr later → MeansIn s now n (bind (carry (equal_step x e)) (on_bool later)) before)
pair_asked x e e' fr (Ok n) now before middle over one copied is is' h = λ later s same units printed.
    ap (λ (t : RuleTree). runs units t s printed) (bind-bind (carry (equal_step x e)) (on_bool later) (rest (reverse before)))
    ∙ asks_first (Tested s later (rest (reverse before))) (asked_tested s later (rest (reverse before))) x e one units printed
    ∙ ap (λ (t : RuleTree). runs units t s printed) (stacked fr later (carry (compare_step cmp.Eq x e)) before middle over same is is')
    ∙ subst (λ (v : Value). RunsAs s (bind (carry (compare_step cmp.Eq x v)) (rest (reverse over))) (meant now n)) copied (h s) units printed
pair_asked x e e' fr (Err z) now before middle over one copied is is' h = tt

-- ---- tuples that hold objects

around_asks : (P : Step → Type 0) → ((o : Operation) (c : Completion → Code) → P (Asks o c)) → (ls : List TestLevel) (o : Operation) (c : Completion → Code) → P (steps_around ls (Asks o c))
around_asks P h [] o c = h o c
around_asks P h (l ∷ ls) o c = around_asks P h ls o (λ a. Then (Then (c a) (λ e. Go (value_step truth_step e))) (λ e. Go (value_step (bool_value_step (level_step l)) e)))

question_asks : (P : Step → Type 0) → ((o : Operation) (c : Completion → Code) → P (Asks o c)) → (q : Question) → refers q.left q.right → P (question_step q)
question_asks P h q one = asks_first (λ t. P (steps_around (reverse q.levels) t)) (λ o c. around_asks P h (reverse q.levels) o c) q.left q.right one

told_is : (b : Bool) → carry (told_step b) ≡ gives (boolean b)
told_is true = refl
told_is false = refl

told_bool : (later : Bool → RuleTree) (k : Completion → RuleTree) (r : Completion) → bind (carry (value_step (bool_value_step told_step) r)) (λ e. bind (on_bool later e) k) ≡ bind (on_bool later r) k
told_bool later k r =
    ap (λ (t : RuleTree). bind t (λ e. bind (on_bool later e) k)) (bool_carried told_step r)
    ∙ ap (λ (f : Bool → RuleTree). bind (on_bool f r) (λ e. bind (on_bool later e) k)) (fun_ext (λ b. told_is b))
    ∙ kept later k r

truth_told : (s : State) (later : Bool → RuleTree) (k : Completion → RuleTree) (o : Operation) (c : Completion → Code)
    → RunsAs s (bind (carry (and_bool (and_value (Asks o c) truth_step) told_step)) (λ e. bind (on_bool later e) k)) (bind (carry (and_value (Asks o c) truth_step)) (λ r. bind (on_bool later r) k))
truth_told s later k o c units printed =
    code_goes_on s o (λ a. Then (c a) (λ e. Go (value_step truth_step e))) (λ e. Go (value_step (bool_value_step told_step) e)) (λ e. bind (on_bool later e) k) units printed
    ∙ ap (λ (g : Completion → RuleTree). runs units (bind (carry (and_value (Asks o c) truth_step)) g) s printed) (fun_ext (λ r. told_bool later k r))

abbrev CodeTold : State → (Completion → Code) → (Bool → RuleTree) → (Bool → RuleTree) → (Completion → RuleTree) → Step → Type 0
CodeTold s f next later k t = RunsAs s (bind (by_step (and_value t truth_step) f next) k) (bind (carry (and_bool (and_value t truth_step) told_step)) (λ e. bind (on_bool later e) k))

code_told : (s : State) (f : Completion → Code) (next later : Bool → RuleTree) (k : Completion → RuleTree) → ((r : Completion) → expand (f r) ≡ on_bool later r) → (o : Operation) (c : Completion → Code) → CodeTold s f next later k (Asks o c)
code_told s f next later k same o c units printed =
    code_goes_on s o (λ a. Then (c a) (λ e. Go (value_step truth_step e))) f k units printed
    ∙ ap (λ (g : Completion → RuleTree). runs units (bind (carry (and_value (Asks o c) truth_step)) g) s printed) (fun_ext (λ r. ap (λ (t : RuleTree). bind t k) (same r)))
    ∙ sym (truth_told s later k o c units printed)

abbrev PairTold : State → (Bool → RuleTree) → (Completion → RuleTree) → Step → Type 0
PairTold s later k t = RunsAs s (bind (carry (and_value t truth_step)) (λ e. bind (on_bool later e) k)) (bind (carry (and_bool (and_value t truth_step) told_step)) (λ e. bind (on_bool later e) k))

pair_told : (s : State) (later : Bool → RuleTree) (k : Completion → RuleTree) (o : Operation) (c : Completion → Code) → PairTold s later k (Asks o c)
pair_told s later k o c units printed = sym (truth_told s later k o c units printed)

over_frame : (fr : Frame) (later : Bool → RuleTree) (t : RuleTree) (before middle : List Frame) → ((r : Completion) → resume fr r ≡ on_bool later r) → middle ≡ before ++ fr ∷ []
    → bind t (λ e. bind (on_bool later e) (rest (reverse before))) ≡ bind t (rest (reverse middle))
over_frame fr later t before middle same is =
    ap (λ (g : Completion → RuleTree). bind t g) (fun_ext (λ e. ap (λ (u : RuleTree). bind u (rest (reverse before))) (sym (same e))))
    ∙ ap (λ (fs : List Frame). bind t (rest fs)) (sym (ap (λ (fs : List Frame). reverse fs) is ∙ reverse-append before (fr ∷ [])))

abbrev truth_asked : Question → RuleTree
truth_asked q = carry (and_bool (and_value (question_step q) truth_step) told_step)

pub tuples_asked : (q : Question) (fr : Frame) (result : Result Next NoMemory) (now before middle : List Frame) → refers q.left q.right → middle ≡ before ++ fr ∷ []
    → IfOk result (λ n. MeansAnywhere now n (truth_asked q) middle)
    → IfOk result (λ n. (f : Completion → Code) (next later : Bool → RuleTree) (s : State) → GoesOnAs fr f later → MeansIn s now n (by_step (and_value (question_step q) truth_step) f next) before)
tuples_asked q fr (Ok n) now before middle one is h = λ f next later s same units printed.
    question_asks (CodeTold s f next later (rest (reverse before))) (code_told s f next later (rest (reverse before)) (λ r. (same r).0)) q one units printed
    ∙ ap (λ (t : RuleTree). runs units t s printed) (over_frame fr later (truth_asked q) before middle (λ r. (same r).1) is)
    ∙ h s units printed
tuples_asked q fr (Err z) now before middle one is h = tt

pub tuple_pair_asked : (q : Question) (fr : Frame) (result : Result Next NoMemory) (now before middle : List Frame) → refers q.left q.right → middle ≡ before ++ fr ∷ []
    → IfOk result (λ n. MeansAnywhere now n (truth_asked q) middle)
    → IfOk result (λ n. (later : Bool → RuleTree) (s : State) → WaitsFor fr later → MeansIn s now n (bind (carry (and_value (question_step q) truth_step)) (on_bool later)) before)
tuple_pair_asked q fr (Ok n) now before middle one is h = λ later s same units printed.
    ap (λ (t : RuleTree). runs units t s printed) (bind-bind (carry (and_value (question_step q) truth_step)) (on_bool later) (rest (reverse before)))
    ∙ question_asks (PairTold s later (rest (reverse before))) (pair_told s later (rest (reverse before))) q one units printed
    ∙ ap (λ (t : RuleTree). runs units t s printed) (over_frame fr later (truth_asked q) before middle same is)
    ∙ h s units printed
tuple_pair_asked q fr (Err z) now before middle one is h = tt

-- ---- by what the comparison of an item comes to

pub equal_found : (x e : Value) (a : Answer) (b : Bool) → same_object x e ≡ false → a ≡ answer.Told b → Answers (compare_step cmp.Eq x e) a → found_step x e ≡ tells b
equal_found x e a b apart is h =
    let told : compare_step cmp.Eq x e ≡ tells b = subst (λ (y : Answer). Answers (compare_step cmp.Eq x e) y) is h in
    apart_found x e apart ∙ ap (λ (t : Step). and_value t truth_step) told

pub equal_asked : (x e : Value) (a : Answer) (q : Question) → a ≡ answer.Asked q → Answers (compare_step cmp.Eq x e) a → (equal_step x e ≡ and_value (question_step q) truth_step) × refers q.left q.right
equal_asked x e a q is h =
    let there : (compare_step cmp.Eq x e ≡ question_step q) × refers q.left q.right = subst (λ (y : Answer). Answers (compare_step cmp.Eq x e) y) is h in
    (ap (λ (t : Step). and_value t truth_step) there.0, there.1)

pub equal_uneven : (x e : Value) (a : Answer) → a ≡ answer.Uneven → Answers (compare_step cmp.Eq x e) a → equal_step x e ≡ Leaves beyond.Compare
equal_uneven x e a is h =
    let there : compare_step cmp.Eq x e ≡ Leaves beyond.Compare = subst (λ (y : Answer). Answers (compare_step cmp.Eq x e) y) is h in
    ap (λ (t : Step). and_value t truth_step) there

pub item_tuple : (n i : ℕ) (x e : Value) (a : Answer) (q : Question) (result : Result Next NoMemory) (now stack : List Frame) → a ≡ answer.Asked q → Answers (compare_step cmp.Eq x e) a
    → IfOk result (λ nx. (f : Completion → Code) (next later : Bool → RuleTree) (s : State) → GoesOnAs (frame.Search (search_frame.List n i x)) f later → MeansIn s now nx (by_step (and_value (question_step q) truth_step) f next) stack)
    → IfOk result (λ nx. (s : State) (others : List Value) → MeansIn s now nx (item_asked n i x (e ∷ others)) stack)
item_tuple n i x e a q (Ok nx) now stack is h m = λ s others.
    subst (λ (t : Step). MeansIn s now nx (by_step t (λ r. SearchNext n i x r) (after_item n i x others)) stack) (sym (equal_asked x e a q is h).0)
    (m (λ r. SearchNext n i x r) (after_item n i x others) (λ b. elim b [ true ↦ gives_position i | false ↦ reads_list n (λ items. searches_from n (suc i) x (drop (suc i) items)) ]) s (λ r. (refl, refl)))
item_tuple n i x e a q (Err z) now stack is h m = tt

pub item_uneven : (n i : ℕ) (x e : Value) (a : Answer) (stack : List Frame) → a ≡ answer.Uneven → Answers (compare_step cmp.Eq x e) a → (s : State) (others : List Value) → MeansIn s stack (next.Leave beyond.Compare) (item_asked n i x (e ∷ others)) stack
item_uneven n i x e a stack is h s others units printed = ap (λ (t : Step). runs units (bind (by_step t (λ r. SearchNext n i x r) (after_item n i x others)) (rest (reverse stack))) s printed) (equal_uneven x e a is h)

pub value_tuple : (n shape i : ℕ) (x e : Value) (a : Answer) (q : Question) (result : Result Next NoMemory) (now stack : List Frame) → a ≡ answer.Asked q → Answers (compare_step cmp.Eq x e) a
    → IfOk result (λ nx. (f : Completion → Code) (next later : Bool → RuleTree) (s : State) → GoesOnAs (frame.Search (search_frame.Values n shape i x)) f later → MeansIn s now nx (by_step (and_value (question_step q) truth_step) f next) stack)
    → IfOk result (λ nx. (s : State) (others : List Value) → MeansIn s now nx (value_asked n shape i x (e ∷ others)) stack)
value_tuple n shape i x e a q (Ok nx) now stack is h m = λ s others.
    subst (λ (t : Step). MeansIn s now nx (by_step t (λ r. ValuesNext n shape i x r) (after_value n shape i x others)) stack) (sym (equal_asked x e a q is h).0)
    (m (λ r. ValuesNext n shape i x r) (after_value n shape i x others) (λ b. elim b [ true ↦ gives_position i | false ↦ values_behind n shape i x ]) s (λ r. (refl, refl)))
value_tuple n shape i x e a q (Err z) now stack is h m = tt

pub value_uneven : (n shape i : ℕ) (x e : Value) (a : Answer) (stack : List Frame) → a ≡ answer.Uneven → Answers (compare_step cmp.Eq x e) a → (s : State) (others : List Value) → MeansIn s stack (next.Leave beyond.Compare) (value_asked n shape i x (e ∷ others)) stack
value_uneven n shape i x e a stack is h s others units printed = ap (λ (t : Step). runs units (bind (by_step t (λ r. ValuesNext n shape i x r) (after_value n shape i x others)) (rest (reverse stack))) s printed) (equal_uneven x e a is h)

pub pair_tuple : (p : ListPair) (len i : ℕ) (x y : Value) (a : Answer) (q : Question) (result : Result Next NoMemory) (now stack : List Frame) → same_object x y ≡ false → a ≡ answer.Asked q → Answers (compare_step cmp.Eq x y) a
    → IfOk result (λ n. (later : Bool → RuleTree) (s : State) → WaitsFor (frame.Equality (equality_frame.Equal p len i)) later → MeansIn s now n (bind (carry (and_value (question_step q) truth_step)) (on_bool later)) stack)
    → IfOk result (λ n. (s : State) → MeansIn s now n (pair_compared p.list p.other p.op len i y (Some x)) stack)
pair_tuple p len i x y a q (Ok n) now stack apart is h m = λ s units printed.
    let later : Bool → RuleTree = λ b. same_length p.list len (λ items. after_equal p len i b) in
    ap (λ (t : Step). runs units (bind (bind (carry t) (on_bool later)) (rest (reverse stack))) s printed) (apart_found x y apart ∙ (equal_asked x y a q is h).0)
    ∙ m later s (λ r. refl) units printed
pair_tuple p len i x y a q (Err z) now stack apart is h m = tt

pub pair_uneven : (p : ListPair) (len i : ℕ) (x y : Value) (a : Answer) (stack : List Frame) → same_object x y ≡ false → a ≡ answer.Uneven → Answers (compare_step cmp.Eq x y) a → (s : State) → MeansIn s stack (next.Leave beyond.Compare) (pair_compared p.list p.other p.op len i y (Some x)) stack
pair_uneven p len i x y a stack apart is h s units printed =
    let later : Bool → RuleTree = λ b. same_length p.list len (λ items. after_equal p len i b) in
    ap (λ (t : Step). runs units (bind (bind (carry t) (on_bool later)) (rest (reverse stack))) s printed) (apart_found x y apart ∙ equal_uneven x y a is h)
