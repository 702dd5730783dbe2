-- Comparisons that ask an operand.
use Rattle.std.proofs.Common.{◌≡◌, ℕ, Bool, true, false, ◌||◌, List, [], ◌∷◌, ◌++◌, map, reverse, Option, Some, None, Result, Ok, Err, IfOk, refl, sym, ◌∙◌, ap}
use Rattle.std.proofs.lemmas.List.{reverse-append}
use Rattle.rp_base.specs.declared.ends.NoMemory.{NoMemory}
use Rattle.rp_base.specs.declared.identity.IdPack.{IdPack}
use Rattle.rp_base.specs.declared.operators.CmpOp.{CmpOp}
use Rattle.rp_base.specs.declared.operators.CmpOp.TheVariants as cmp
use Rattle.rp_base.specs.declared.plain.Plain.{Plain}
use Rattle.rp_base.specs.declared.plain.Plain.TheOpen.{Plain-F}
use Rattle.rp_base.specs.declared.plain.Plain.TheVariants as plain
use Rattle.rp_base.specs.declared.value.Value.{Value}
use Rattle.rp_base.specs.declared.value.Value.TheVariants as value
use Rattle.rp_base.specs.PlainLaws.{gather_tuple, look_tuple}
use Rattle.rp_base.specs.PlainValues.{gather}
use Rattle.py_ast.specs.declared.expression.Comparison.{Comparison}
use Rattle.py_ast.specs.declared.expression.Comparison.TheVariants as comparison
use Rattle.py_ast.specs.declared.expression.Link.{Link}
use Rattle.object_operations.specs.declared.operation.Operation.{Operation}
use Rattle.object_operations.specs.declared.operation.Operation.TheVariants as operation
use Rattle.side_trees.specs.Trees.{bind}
use Rattle.language_rules.specs.Chains.{link_rule, links_from, opposite}
use Rattle.language_rules.specs.Codes.{Breaks, Completion, Continues, Drained, Ends, Env, Give, Gives, Go, Raises, Returns, Step, Then}
use Rattle.language_rules.specs.Comparing.{asks_operand, compare_step, equals_step, implemented, last_step, operands_step, others_compared, plain_against, plain_equal_step, plain_equals, swapped, tuple_items}
use Rattle.language_rules.specs.Going.{RuleTree, and_value, asked_step, carry, on_value, operates, value_step}
use Rattle.language_rules.specs.Kinds.{is_reference}
use Rattle.language_rules.specs.PlainItems.{contains_in}
use Rattle.language_rules.specs.Running.{runs}
use Rattle.language_rules.specs.States.{State}
use Rattle.language_rules.specs.StepLaws.{equals_tuple}
use Rattle.eval_frames.proofs.Operating.{code_waits}
use Rattle.eval_frames.specs.declared.frame.Frame.{Frame}
use Rattle.eval_frames.specs.declared.frame.Frame.TheVariants as frame
use Rattle.eval_frames.specs.declared.next.Next.{Next}
use Rattle.eval_frames.specs.declared.object_frames.ComparisonFrame.TheVariants as comparison_frame
use Rattle.eval_frames.specs.Meaning.{Means, RunsAs, operates_over, rest}
use Rattle.eval_frames.proofs.Shapes.{each_plain, each_reference, each_value}
use Rattle.eval_comparing.specs.Steps.{MeansAnywhere, is_not_implemented}

-- ---- where one operand is a reference, the operands are asked

others : (o : CmpOp) (a b : Value) (items : Option (List Value)) → others_compared o a b items None ≡ operands_step o a b
others o a b (Some xs) = refl
others o a b None = refl

by_own : (o : CmpOp) (n : ℕ) (b : Value) → compare_step o (value.Own n) b ≡ operands_step o (value.Own n) b
unfolding equals_step
by_own cmp.Eq n b = refl
by_own cmp.Ne n b = refl
by_own cmp.Lt n b = refl
by_own cmp.Le n b = refl
by_own cmp.Gt n b = refl
by_own cmp.Ge n b = refl

by_far : (o : CmpOp) (id : IdPack) (b : Value) → compare_step o (value.Proxy id) b ≡ operands_step o (value.Proxy id) b
unfolding equals_step
by_far cmp.Eq id b = refl
by_far cmp.Ne id b = refl
by_far cmp.Lt id b = refl
by_far cmp.Le id b = refl
by_far cmp.Gt id b = refl
by_far cmp.Ge id b = refl

abbrev ComparesPlain : Type 0
ComparesPlain = Plain → Value → Step

plain_tuple : (ps : List Plain) (b : Value) → plain_equals (plain.Tuple ps) b ≡ plain_against (Plain-F.Tuple (map (gather ComparesPlain plain_equal_step) ps)) (Plain-F.Tuple ps) (plain.Tuple ps) b
unfolding plain_equals
plain_tuple ps b =
    ap (λ (f : ComparesPlain). f (plain.Tuple ps) b) (gather_tuple ComparesPlain plain_equal_step ps)
    ∙ ap (λ (l : Plain-F Plain). plain_against (Plain-F.Tuple (map (gather ComparesPlain plain_equal_step) ps)) l (plain.Tuple ps) b) (look_tuple ps)

abbrev PlainOwn : ℕ → Plain → Type 0
PlainOwn m p = plain_equals p (value.Own m) ≡ operands_step cmp.Eq (value.Plain p) (value.Own m)

plain_own : (m : ℕ) (p : Plain) → PlainOwn m p
unfolding plain_equals
plain_own m = each_plain (PlainOwn m) refl (λ b. refl) (λ n. refl) (λ t. refl) (λ t. refl) refl refl (λ ps. plain_tuple ps (value.Own m))

plain_against_own : (m : ℕ) (p : Plain) (o : CmpOp) → compare_step o (value.Plain p) (value.Own m) ≡ operands_step o (value.Plain p) (value.Own m)
unfolding equals_step
plain_against_own m p cmp.Eq = plain_own m p
plain_against_own m p cmp.Ne = others cmp.Ne (value.Plain p) (value.Own m) (tuple_items (value.Plain p))
plain_against_own m p cmp.Lt = others cmp.Lt (value.Plain p) (value.Own m) (tuple_items (value.Plain p))
plain_against_own m p cmp.Le = others cmp.Le (value.Plain p) (value.Own m) (tuple_items (value.Plain p))
plain_against_own m p cmp.Gt = others cmp.Gt (value.Plain p) (value.Own m) (tuple_items (value.Plain p))
plain_against_own m p cmp.Ge = others cmp.Ge (value.Plain p) (value.Own m) (tuple_items (value.Plain p))

tuple_against_own : (m : ℕ) (vs : List Value) (o : CmpOp) → compare_step o (value.Tuple vs) (value.Own m) ≡ operands_step o (value.Tuple vs) (value.Own m)
tuple_against_own m vs cmp.Eq = equals_tuple vs (value.Own m)
tuple_against_own m vs cmp.Ne = others cmp.Ne (value.Tuple vs) (value.Own m) (tuple_items (value.Tuple vs))
tuple_against_own m vs cmp.Lt = others cmp.Lt (value.Tuple vs) (value.Own m) (tuple_items (value.Tuple vs))
tuple_against_own m vs cmp.Le = others cmp.Le (value.Tuple vs) (value.Own m) (tuple_items (value.Tuple vs))
tuple_against_own m vs cmp.Gt = others cmp.Gt (value.Tuple vs) (value.Own m) (tuple_items (value.Tuple vs))
tuple_against_own m vs cmp.Ge = others cmp.Ge (value.Tuple vs) (value.Own m) (tuple_items (value.Tuple vs))

abbrev AgainstOwn : ℕ → Value → Type 0
AgainstOwn m a = (o : CmpOp) → compare_step o a (value.Own m) ≡ operands_step o a (value.Own m)

against_own : (m : ℕ) (a : Value) → AgainstOwn m a
against_own m = each_value (AgainstOwn m) (plain_against_own m) (tuple_against_own m) (λ n o. by_own o n (value.Own m)) (λ id o. by_far o id (value.Own m))

abbrev PlainFar : IdPack → Plain → Type 0
PlainFar m p = plain_equals p (value.Proxy m) ≡ operands_step cmp.Eq (value.Plain p) (value.Proxy m)

plain_far : (m : IdPack) (p : Plain) → PlainFar m p
unfolding plain_equals
plain_far m = each_plain (PlainFar m) refl (λ b. refl) (λ n. refl) (λ t. refl) (λ t. refl) refl refl (λ ps. plain_tuple ps (value.Proxy m))

plain_against_far : (m : IdPack) (p : Plain) (o : CmpOp) → compare_step o (value.Plain p) (value.Proxy m) ≡ operands_step o (value.Plain p) (value.Proxy m)
unfolding equals_step
plain_against_far m p cmp.Eq = plain_far m p
plain_against_far m p cmp.Ne = others cmp.Ne (value.Plain p) (value.Proxy m) (tuple_items (value.Plain p))
plain_against_far m p cmp.Lt = others cmp.Lt (value.Plain p) (value.Proxy m) (tuple_items (value.Plain p))
plain_against_far m p cmp.Le = others cmp.Le (value.Plain p) (value.Proxy m) (tuple_items (value.Plain p))
plain_against_far m p cmp.Gt = others cmp.Gt (value.Plain p) (value.Proxy m) (tuple_items (value.Plain p))
plain_against_far m p cmp.Ge = others cmp.Ge (value.Plain p) (value.Proxy m) (tuple_items (value.Plain p))

tuple_against_far : (m : IdPack) (vs : List Value) (o : CmpOp) → compare_step o (value.Tuple vs) (value.Proxy m) ≡ operands_step o (value.Tuple vs) (value.Proxy m)
tuple_against_far m vs cmp.Eq = equals_tuple vs (value.Proxy m)
tuple_against_far m vs cmp.Ne = others cmp.Ne (value.Tuple vs) (value.Proxy m) (tuple_items (value.Tuple vs))
tuple_against_far m vs cmp.Lt = others cmp.Lt (value.Tuple vs) (value.Proxy m) (tuple_items (value.Tuple vs))
tuple_against_far m vs cmp.Le = others cmp.Le (value.Tuple vs) (value.Proxy m) (tuple_items (value.Tuple vs))
tuple_against_far m vs cmp.Gt = others cmp.Gt (value.Tuple vs) (value.Proxy m) (tuple_items (value.Tuple vs))
tuple_against_far m vs cmp.Ge = others cmp.Ge (value.Tuple vs) (value.Proxy m) (tuple_items (value.Tuple vs))

abbrev AgainstFar : IdPack → Value → Type 0
AgainstFar m a = (o : CmpOp) → compare_step o a (value.Proxy m) ≡ operands_step o a (value.Proxy m)

against_far : (m : IdPack) (a : Value) → AgainstFar m a
against_far m = each_value (AgainstFar m) (plain_against_far m) (tuple_against_far m) (λ n o. by_own o n (value.Proxy m)) (λ id o. by_far o id (value.Proxy m))

abbrev LeftCompared : CmpOp → Value → Value → Type 0
LeftCompared o b a = carry (operands_step o a b) ≡ carry (compare_step o a b)

pub left_compared : (o : CmpOp) (a b : Value) → is_reference a ≡ true → carry (operands_step o a b) ≡ carry (compare_step o a b)
left_compared o a b h = each_reference (LeftCompared o b) (λ n. ap carry (sym (by_own o n b))) (λ id. ap carry (sym (by_far o id b))) a h

-- an operand that is no reference is passed over
pub passed : (a b : Value) (o : CmpOp) (t : Step) → is_reference a ≡ false → asks_operand a o b t ≡ t
passed a b o t h = ap (λ (x : Bool). elim x [ true ↦ and_value (asked_step (operation.Cmp a o b)) (implemented t) | false ↦ t ]) h

abbrev RightCompared : CmpOp → Value → Value → Type 0
RightCompared o a b = compare_step o a b ≡ operands_step o a b

compared_right : (o : CmpOp) (a b : Value) → is_reference b ≡ true → compare_step o a b ≡ operands_step o a b
compared_right o a b h = each_reference (RightCompared o a) (λ n. against_own n a o) (λ id. against_far id a o) b h

pub right_compared : (o : CmpOp) (a b : Value) → is_reference a ≡ false → is_reference b ≡ true → carry (asks_operand b (swapped o) a (last_step o a b)) ≡ carry (compare_step o a b)
right_compared o a b g h = ap carry (sym (passed a b o (asks_operand b (swapped o) a (last_step o a b)) g) ∙ sym (compared_right o a b h))

-- ---- an operand is asked, and its answer waited for

asked_operand : (a : Value) (o : CmpOp) (b : Value) (t : Step) → is_reference a ≡ true → asks_operand a o b t ≡ and_value (asked_step (operation.Cmp a o b)) (implemented t)
asked_operand a o b t h = ap (λ (x : Bool). elim x [ true ↦ and_value (asked_step (operation.Cmp a o b)) (implemented t) | false ↦ t ]) h

-- the answer to an operation goes through a step
waits : (s : State) (o : Operation) (g : Value → Step) (k : Completion → RuleTree)
    → RunsAs s (bind (carry (and_value (asked_step o) g)) k) (bind (operates o (λ a. Give a) (λ a. carry (value_step g a))) k)
waits s o g k = code_waits s o (λ a. Then (Give a) (λ e. Go (value_step g e))) k

operand_waits : (s : State) (a : Value) (o : CmpOp) (b : Value) (t : Step) (k : Completion → RuleTree) → is_reference a ≡ true
    → RunsAs s (bind (carry (asks_operand a o b t)) k) (bind (operates (operation.Cmp a o b) (λ e. Give e) (λ e. carry (value_step (implemented t) e))) k)
operand_waits s a o b t k h units printed =
    ap (λ (x : Step). runs units (bind (carry x) k) s printed) (asked_operand a o b t h) ∙ waits s (operation.Cmp a o b) (implemented t) k units printed

pub left_asked : (r : Result Next NoMemory) (now before : List Frame) (o : CmpOp) (a b a' b' : Value) → is_reference a ≡ true → a' ≡ a → b' ≡ b
    → IfOk r (λ n. Means now n (operates_over (operation.Cmp a' o b') (frame.Comparison (comparison_frame.Left o a b))) before)
    → IfOk r (λ n. MeansAnywhere now n (carry (operands_step o a b)) before)
left_asked (Ok n) now before o a b a' b' h e f m = λ s units printed.
    operand_waits s a o b (asks_operand b (swapped o) a (last_step o a b)) (rest (reverse before)) h units printed
    ∙ ap (λ (x : Value). runs units (bind (operates_over (operation.Cmp x o b) (frame.Comparison (comparison_frame.Left o a b))) (rest (reverse before))) s printed) (sym e)
    ∙ ap (λ (x : Value). runs units (bind (operates_over (operation.Cmp a' o x) (frame.Comparison (comparison_frame.Left o a b))) (rest (reverse before))) s printed) (sym f)
    ∙ ap (λ (t : RuleTree). runs units t s printed) (sym m)
left_asked (Err x) now before o a b a' b' h e f m = tt

pub right_asked : (r : Result Next NoMemory) (now before : List Frame) (o o' : CmpOp) (a b a' b' : Value) → is_reference b ≡ true → o' ≡ swapped o → a' ≡ a → b' ≡ b
    → IfOk r (λ n. Means now n (operates_over (operation.Cmp b' o' a') (frame.Comparison (comparison_frame.Right o a b))) before)
    → IfOk r (λ n. MeansAnywhere now n (carry (asks_operand b (swapped o) a (last_step o a b))) before)
right_asked (Ok n) now before o o' a b a' b' h g e f m = λ s units printed.
    operand_waits s b (swapped o) a (last_step o a b) (rest (reverse before)) h units printed
    ∙ ap (λ (x : Value). runs units (bind (operates_over (operation.Cmp x (swapped o) a) (frame.Comparison (comparison_frame.Right o a b))) (rest (reverse before))) s printed) (sym f)
    ∙ ap (λ (x : CmpOp). runs units (bind (operates_over (operation.Cmp b' x a) (frame.Comparison (comparison_frame.Right o a b))) (rest (reverse before))) s printed) (sym g)
    ∙ ap (λ (x : Value). runs units (bind (operates_over (operation.Cmp b' o' x) (frame.Comparison (comparison_frame.Right o a b))) (rest (reverse before))) s printed) (sym e)
    ∙ ap (λ (t : RuleTree). runs units t s printed) (sym m)
right_asked (Err x) now before o o' a b a' b' h g e f m = tt

-- ---- answers

abbrev NotImplemented : Step → Completion → Type 0
NotImplemented t e = is_not_implemented e ≡ true → carry t ≡ carry (value_step (implemented t) e)

not_implemented_value : (t : Step) (v : Value) → NotImplemented t (Gives v)
not_implemented_value t =
    each_value (λ (v : Value). NotImplemented t (Gives v))
    (each_plain (λ (p : Plain). NotImplemented t (Gives (value.Plain p))) (λ h. cc) (λ b. (λ h. cc)) (λ n. (λ h. cc)) (λ x. (λ h. cc)) (λ x. (λ h. cc)) (λ h. refl) (λ h. cc) (λ ps. (λ h. cc)))
    (λ vs. (λ h. cc)) (λ n. (λ h. cc)) (λ id. (λ h. cc))

pub not_implemented : (e : Completion) (t : Step) → NotImplemented t e
not_implemented (Gives v) t = not_implemented_value t v
not_implemented (Raises r) t = (λ h. cc)
not_implemented (Returns v) t = (λ h. cc)
not_implemented Breaks t = (λ h. cc)
not_implemented Continues t = (λ h. cc)
not_implemented (Drained vs) t = (λ h. cc)

abbrev HandedOn : Step → Completion → Type 0
HandedOn t e = is_not_implemented e ≡ false → carry (Ends e) ≡ carry (value_step (implemented t) e)

handed_on_value : (t : Step) (v : Value) → HandedOn t (Gives v)
handed_on_value t =
    each_value (λ (v : Value). HandedOn t (Gives v))
    (each_plain (λ (p : Plain). HandedOn t (Gives (value.Plain p))) (λ h. refl) (λ b. (λ h. refl)) (λ n. (λ h. refl)) (λ x. (λ h. refl)) (λ x. (λ h. refl)) (λ h. cc) (λ h. refl) (λ ps. (λ h. refl)))
    (λ vs. (λ h. refl)) (λ n. (λ h. refl)) (λ id. (λ h. refl))

pub handed_on : (e : Completion) (t : Step) → HandedOn t e
handed_on (Gives v) t = handed_on_value t v
handed_on (Raises r) t = (λ h. refl)
handed_on (Returns v) t = (λ h. refl)
handed_on Breaks t = (λ h. refl)
handed_on Continues t = (λ h. refl)
handed_on (Drained vs) t = (λ h. refl)

-- where the left operand is no reference, the right one is
pub other_side : (a b : Bool) → a ≡ false → (a || b) ≡ true → b ≡ true
other_side true b h g = cc
other_side false b h g = g
