-- Two tuples are equal where their pairs are.
use Rattle.std.proofs.Common.{◌≡◌, ◌==◌, ◌||◌, ◌&&◌, not, ◌++◌, ◌+◌, [], ◌∷◌, ℕ, Bool, true, false, List, Option, Some, None, Result, Ok, Err, IfOk, map, reverse, length, arith, suc, codes, if◌then◌else◌, refl, sym, ◌∙◌, ap, subst}
use Rattle.std.proofs.lemmas.List.{append_assoc, length-append, length-map, reverse-append}
use Rattle.rp_base.specs.declared.exceptions.Beyond.TheVariants as beyond
use Rattle.rp_base.specs.declared.ends.NoMemory.{NoMemory}
use Rattle.rp_base.specs.declared.identity.IdPack.{IdPack}
use Rattle.rp_base.specs.declared.operators.CmpOp.{CmpOp}
use Rattle.rp_base.specs.declared.operators.CmpOp.TheVariants as cmp
use Rattle.rp_base.specs.declared.plain.Plain.{Plain}
use Rattle.rp_base.specs.declared.plain.Plain.TheVariants as plain
use Rattle.rp_base.specs.declared.value.Value.{Value}
use Rattle.rp_base.specs.declared.value.Value.TheVariants as value
use Rattle.rp_base.specs.PlainValues.{equal_to}
use Rattle.py_ast.specs.declared.expression.Comparison.{Comparison}
use Rattle.py_ast.specs.declared.expression.Comparison.TheVariants as comparison
use Rattle.object_operations.specs.declared.operation.Operation.TheVariants as operation
use Rattle.object_operations.specs.declared.special.Special.TheVariants as special
use Rattle.side_trees.specs.Trees.{Stop, bind}
use Rattle.language_rules.specs.Answers.{asked, gives}
use Rattle.language_rules.specs.Chains.{is_none_value, link_rule, opposite}
use Rattle.language_rules.specs.PlainItems.{contains_within}
use Rattle.language_rules.specs.Codes.{Leaves, Step}
use Rattle.language_rules.specs.Comparing.{asks_operand, compare_step, equals_step, found_step, last_step, operands_step, others_compared, swapped, pairs_step, plain_equals, same_object, tuple_against, tuple_items, tuples_step}
use Rattle.language_rules.specs.Going.{RuleTree, and_value, boolean, carry, on_value, type_error}
use Rattle.language_rules.specs.Kinds.{is_reference}
use Rattle.language_rules.specs.StepLaws.{equals_tuple, items_of_a_plain_tuple, items_of_a_tuple, plain_equals_tuple}
use Rattle.language_rules.specs.Truth.{and_bool, tells, truth_step}
use Rattle.eval_frames.specs.declared.frame.ValuePair.{ValuePair}
use Rattle.eval_frames.specs.Meaning.{equal_pairs_step}
use Rattle.value_operators.proofs.CompareLemmas.{compares_plain}
use Rattle.eval_frames.proofs.Shapes.{each_plain, each_value}
use Rattle.value_operators.specs.Answering.{is_plain}
use Rattle.eval_comparing.proofs.Operands.{passed}
use Rattle.eval_comparing.specs.Compared.{Compares, asks_link, orders}
use Rattle.eval_comparing.specs.declared.answer.Compared.{Compared}
use Rattle.eval_comparing.specs.Answers.{MeetsItem, MeetsStep, pairs_of, tuples_equal}
use Rattle.eval_comparing.specs.declared.answer.Meeting.{Meeting}
use Rattle.eval_comparing.specs.declared.answer.Meeting.TheVariants as meeting

abbrev is_equal : CmpOp → Bool
is_equal cmp.Eq = true
is_equal _ = false

abbrev is_order : CmpOp → Bool
is_order cmp.Eq = false
is_order cmp.Ne = false
is_order _ = true

-- ---- pair by pair

abbrev Test : Type 0
Test = Value × (Value → Step)

-- a value with its `==`
abbrev test_of : Value → Test
test_of v = (v, equals_step v)

abbrev plain_test_of : Plain → Test
plain_test_of p = (value.Plain p, plain_equals p)

abbrev next_by : Step → Bool → Step
next_by t c = elim c [ true ↦ t | false ↦ tells false ]

at_pair : (b : Bool) (e t u : Step) → t ≡ u → elim b [ true ↦ t | false ↦ and_bool e (next_by t) ] ≡ and_bool (elim b [ true ↦ tells true | false ↦ e ]) (next_by u)
at_pair true e t u h = h
at_pair false e t u h = ap (λ (w : Step). and_bool e (next_by w)) h

pairs_are : (xs ys : List Value) → pairs_step (map test_of xs) ys ≡ equal_pairs_step (pairs_of xs ys)
pairs_are [] [] = refl
pairs_are [] (y ∷ ys) = refl
pairs_are (x ∷ xs) [] = refl
pairs_are (x ∷ xs) (y ∷ ys) = at_pair (same_object x y) (and_value (equals_step x y) truth_step) (pairs_step (map test_of xs) ys) (equal_pairs_step (pairs_of xs ys)) (pairs_are xs ys)

abbrev by_length : ℕ → ℕ → Step → Step
by_length n m t = elim (n == m) [ true ↦ t | false ↦ Leaves beyond.Compare ]

tuples_are : (xs ys : List Value) → tuples_step (map test_of xs) ys ≡ tuples_equal (Some xs) (Some ys)
tuples_are xs ys =
    ap (λ (n : ℕ). by_length n (length ys) (pairs_step (map test_of xs) ys)) (length-map xs test_of)
    ∙ ap (λ (t : Step). by_length (length xs) (length ys) t) (pairs_are xs ys)

-- ---- a tuple that holds an object on the left

abbrev AgainstTuple : List Value → Value → Type 0
AgainstTuple vs b = is_reference b ≡ false → tuple_against (map test_of vs) (value.Tuple vs) b (tuple_items b) ≡ tuples_equal (Some vs) (tuple_items b)

against_items : (vs ys : List Value) (b : Value) → tuple_items b ≡ Some ys → tuple_against (map test_of vs) (value.Tuple vs) b (tuple_items b) ≡ tuples_equal (Some vs) (tuple_items b)
against_items vs ys b h = subst (λ (o : Option (List Value)). tuple_against (map test_of vs) (value.Tuple vs) b o ≡ tuples_equal (Some vs) o) (sym h) (tuples_are vs ys)

against : (vs : List Value) (b : Value) → AgainstTuple vs b
against vs =
    each_value (AgainstTuple vs)
    (each_plain (λ p. AgainstTuple vs (value.Plain p)) (λ h. refl) (λ b h. refl) (λ n h. refl) (λ t h. refl) (λ t h. refl) (λ h. refl) (λ h. refl)
    (λ ps h. against_items vs (map (λ p. value.Plain p) ps) (value.Plain (plain.Tuple ps)) (items_of_a_plain_tuple ps)))
    (λ ys h. against_items vs ys (value.Tuple ys) (items_of_a_tuple ys))
    (λ n h. cc) (λ id h. cc)

pub tuple_compared : (vs : List Value) (b : Value) → is_reference b ≡ false → compare_step cmp.Eq (value.Tuple vs) b ≡ tuples_equal (tuple_items (value.Tuple vs)) (tuple_items b)
tuple_compared vs b h =
    equals_tuple vs b
    ∙ against vs b h
    ∙ ap (λ (o : Option (List Value)). tuples_equal o (tuple_items b)) (sym (items_of_a_tuple vs))

-- ---- a plain value on the left

plain_tests : (ps : List Plain) → map plain_test_of ps ≡ map test_of (map (λ p. value.Plain p) ps)
unfolding equals_step
plain_tests [] = refl
plain_tests (p ∷ ps) = ap (λ (es : List Test). plain_test_of p ∷ es) (plain_tests ps)

abbrev PlainCompared : List Value → Plain → Type 0
PlainCompared ys p = compare_step cmp.Eq (value.Plain p) (value.Tuple ys) ≡ tuples_equal (tuple_items (value.Plain p)) (tuple_items (value.Tuple ys))

plain_tuple_compared : (ps : List Plain) (ys : List Value) → PlainCompared ys (plain.Tuple ps)
unfolding equals_step
plain_tuple_compared ps ys =
    plain_equals_tuple ps ys
    ∙ ap (λ (es : List Test). tuple_against es (value.Plain (plain.Tuple ps)) (value.Tuple ys) (tuple_items (value.Tuple ys))) (plain_tests ps)
    ∙ subst (λ (o : Option (List Value)). tuple_against (map test_of (map (λ p. value.Plain p) ps)) (value.Plain (plain.Tuple ps)) (value.Tuple ys) o ≡ tuples_equal (Some (map (λ p. value.Plain p) ps)) o) (sym (items_of_a_tuple ys)) (tuples_are (map (λ p. value.Plain p) ps) ys)
    ∙ ap (λ (o : Option (List Value)). tuples_equal o (tuple_items (value.Tuple ys))) (sym (items_of_a_plain_tuple ps))

pub plain_compared : (ys : List Value) (p : Plain) → PlainCompared ys p
unfolding equals_step plain_equals
plain_compared ys = each_plain (PlainCompared ys) refl (λ b. refl) (λ n. refl) (λ t. refl) (λ t. refl) refl refl (λ ps. plain_tuple_compared ps ys)

-- ---- meetings

pub plains_meet : (p q : Plain) (b : Bool) → b ≡ equal_to p q → compare_step cmp.Eq (value.Plain p) (value.Plain q) ≡ tells b
plains_meet p q b is = compares_plain cmp.Eq p q ∙ ap (λ (c : Bool). tells c) (sym is)

abbrev found_by : Bool → Value → Value → Step
found_by b x e = elim b [ true ↦ tells true | false ↦ and_value (compare_step cmp.Eq x e) truth_step ]

pub same_found : (x e : Value) → same_object x e ≡ true → found_step x e ≡ tells true
same_found x e h = ap (λ (b : Bool). found_by b x e) h

pub apart_found : (x e : Value) → same_object x e ≡ false → found_step x e ≡ and_value (compare_step cmp.Eq x e) truth_step
apart_found x e h = ap (λ (b : Bool). found_by b x e) h

pub item_met : (x e : Value) (m : Meeting) → same_object x e ≡ false → MeetsStep (compare_step cmp.Eq x e) m → MeetsItem x e m
item_met x e (meeting.Told b) apart h = apart_found x e apart ∙ ap (λ (t : Step). and_value t truth_step) h
item_met x e meeting.Uneven apart h = apart_found x e apart ∙ ap (λ (t : Step). and_value t truth_step) h
item_met x e meeting.Asked apart h = absurd h
item_met x e (meeting.Deeper pairs) apart h = apart_found x e apart ∙ ap (λ (t : Step). and_value t truth_step) h

-- by the items of the left one, and of both
pub meets_as : (t u : Step) (m : Meeting) → t ≡ u → MeetsStep u m → MeetsStep t m
meets_as t u m e h = subst (λ (w : Step). MeetsStep w m) (sym e) h

-- ---- the pairs of two tuples, from their ends

pub pairs_pushed : (xs ys : List Value) (x y : Value) → length xs ≡ length ys → pairs_of (xs ++ x ∷ []) (ys ++ y ∷ []) ≡ pairs_of xs ys ++ record { left = x; right = y } ∷ []
pairs_pushed [] [] x y h = refl
pairs_pushed [] (z ∷ zs) x y h = cc
pairs_pushed (w ∷ ws) [] x y h = cc
pairs_pushed (w ∷ ws) (z ∷ zs) x y h = ap (λ (ps : List ValuePair). record { left = w; right = z } ∷ ps) (pairs_pushed ws zs x y (suc_same (length ws) (length zs) h))
  where
    suc_same : (m n : ℕ) → suc m ≡ suc n → m ≡ n
    suc_same m n e = omega arith

shorter : (xs ys xs' ys' : List Value) (x y : Value) → xs ≡ xs' ++ x ∷ [] → ys ≡ ys' ++ y ∷ [] → length xs ≡ length ys → length xs' ≡ length ys'
shorter xs ys xs' ys' x y h g e =
    let left : length xs ≡ length xs' + 1 = ap length h ∙ length-append xs' (x ∷ []) in
    let right : length ys ≡ length ys' + 1 = ap length g ∙ length-append ys' (y ∷ []) in
    omega arith

pub pair_taken : (xs ys xs' ys' : List Value) (x y : Value) (ps ps' all : List ValuePair) → xs ≡ xs' ++ x ∷ [] → ys ≡ ys' ++ y ∷ [] → ps' ≡ ps ++ record { left = x; right = y } ∷ []
    → length xs ≡ length ys → pairs_of xs ys ++ reverse ps ≡ all → (length xs' ≡ length ys') × (pairs_of xs' ys' ++ reverse ps' ≡ all)
pair_taken xs ys xs' ys' x y ps ps' all h g p e is =
    let even : length xs' ≡ length ys' = shorter xs ys xs' ys' x y h g e in
    let pair : ValuePair = record { left = x; right = y } in (
      even,
      ap (λ (qs : List ValuePair). pairs_of xs' ys' ++ qs) (ap (λ (qs : List ValuePair). reverse qs) p ∙ reverse-append ps (pair ∷ []))
          ∙ sym (append_assoc (pairs_of xs' ys') (pair ∷ []) (reverse ps))
          ∙ ap (λ (qs : List ValuePair). qs ++ reverse ps) (sym (pairs_pushed xs' ys' x y even))
          ∙ ap (λ (vs : List Value). pairs_of vs (ys' ++ y ∷ []) ++ reverse ps) (sym h)
          ∙ ap (λ (vs : List Value). pairs_of xs vs ++ reverse ps) (sym g)
          ∙ is,
    )

-- ---- values by what they are

pub plain_tuple_met : (l r : Value) (p : Plain) (ys : List Value) → l ≡ value.Plain p → r ≡ value.Tuple ys → compare_step cmp.Eq l r ≡ tuples_equal (tuple_items l) (tuple_items r)
plain_tuple_met l r p ys h g =
    subst (λ (a : Value). compare_step cmp.Eq a r ≡ tuples_equal (tuple_items a) (tuple_items r)) (sym h)
    (subst (λ (b : Value). compare_step cmp.Eq (value.Plain p) b ≡ tuples_equal (tuple_items (value.Plain p)) (tuple_items b)) (sym g) (plain_compared ys p))

pub plains_met : (l r : Value) (p q : Plain) (b : Bool) → l ≡ value.Plain p → r ≡ value.Plain q → b ≡ equal_to p q → compare_step cmp.Eq l r ≡ tells b
plains_met l r p q b h g is =
    subst (λ (a : Value). compare_step cmp.Eq a r ≡ tells b) (sym h)
    (subst (λ (a : Value). compare_step cmp.Eq (value.Plain p) a ≡ tells b) (sym g) (plains_meet p q b is))

pub tuple_met : (l r : Value) (vs : List Value) → l ≡ value.Tuple vs → (is_reference l || is_reference r) ≡ false → compare_step cmp.Eq l r ≡ tuples_equal (tuple_items l) (tuple_items r)
tuple_met l r vs h apart =
    let right : is_reference r ≡ false = subst (λ (a : Value). (is_reference a || is_reference r) ≡ false) h apart in
    subst (λ (a : Value). compare_step cmp.Eq a r ≡ tuples_equal (tuple_items a) (tuple_items r)) (sym h) (tuple_compared vs r right)

-- ---- comparisons of which one value is a tuple that holds an object

both_apart : (a b : Bool) → (a || b) ≡ false → (a ≡ false) × (b ≡ false)
both_apart true b h = cc
both_apart false b h = (refl, h)

abbrev NoObjects : Value → Value → Type 0
NoObjects a b = (is_reference a || is_reference b) ≡ false → same_object a b ≡ false

no_objects : (a b : Value) → NoObjects a b
no_objects a b =
    each_value (λ v. NoObjects v b) (λ p h. refl) (λ vs h. refl) (λ n h. cc) (λ id h. cc) a

unasked : (o : CmpOp) (a b : Value) → (is_reference a || is_reference b) ≡ false → operands_step o a b ≡ last_step o a b
unasked o a b h =
    let each : (is_reference a ≡ false) × (is_reference b ≡ false) = both_apart (is_reference a) (is_reference b) h in
    passed a b o (asks_operand b (swapped o) a (last_step o a b)) each.0 ∙ passed b a (swapped o) (last_step o a b) each.1

abbrev ByItems : CmpOp → Value → Value → Type 0
ByItems o a b = (is_plain a && is_plain b) ≡ false → compare_step o a b ≡ others_compared o a b (tuple_items a) (tuple_items b)

by_items_of : (o : CmpOp) → ((p : Plain) (b : Value) → ByItems o (value.Plain p) b) → ((vs : List Value) (b : Value) → ByItems o (value.Tuple vs) b) → (a b : Value) → (is_reference a || is_reference b) ≡ false → ByItems o a b
by_items_of o f g a b = each_value (λ v. (is_reference v || is_reference b) ≡ false → ByItems o v b) (λ p h. f p b) (λ vs h. g vs b) (λ n h. cc) (λ id h. cc) a

plain_by_items : (o : CmpOp) → ((p : Plain) (ys : List Value) → ByItems o (value.Plain p) (value.Tuple ys)) → ((p : Plain) (n : ℕ) → ByItems o (value.Plain p) (value.Own n)) → ((p : Plain) (id : IdPack) → ByItems o (value.Plain p) (value.Proxy id)) → (p : Plain) (b : Value) → ByItems o (value.Plain p) b
plain_by_items o f g h p = each_value (λ b. ByItems o (value.Plain p) b) (λ q e. cc) (λ ys. f p ys) (λ n. g p n) (λ id. h p id)

by_items : (o : CmpOp) (a b : Value) → is_equal o ≡ false → (is_reference a || is_reference b) ≡ false → ByItems o a b
by_items cmp.Eq a b e h = cc
by_items cmp.Ne a b e h = by_items_of cmp.Ne (plain_by_items cmp.Ne (λ p ys x. refl) (λ p n x. refl) (λ p id x. refl)) (λ vs c x. refl) a b h
by_items cmp.Lt a b e h = by_items_of cmp.Lt (plain_by_items cmp.Lt (λ p ys x. refl) (λ p n x. refl) (λ p id x. refl)) (λ vs c x. refl) a b h
by_items cmp.Le a b e h = by_items_of cmp.Le (plain_by_items cmp.Le (λ p ys x. refl) (λ p n x. refl) (λ p id x. refl)) (λ vs c x. refl) a b h
by_items cmp.Gt a b e h = by_items_of cmp.Gt (plain_by_items cmp.Gt (λ p ys x. refl) (λ p n x. refl) (λ p id x. refl)) (λ vs c x. refl) a b h
by_items cmp.Ge a b e h = by_items_of cmp.Ge (plain_by_items cmp.Ge (λ p ys x. refl) (λ p n x. refl) (λ p id x. refl)) (λ vs c x. refl) a b h

-- `==` by the items
abbrev EqualByItems : Value → Value → Type 0
EqualByItems a b = (is_plain a && is_plain b) ≡ false → compare_step cmp.Eq a b ≡ tuples_equal (tuple_items a) (tuple_items b)

equal_by_items : (a b : Value) → (is_reference a || is_reference b) ≡ false → EqualByItems a b
equal_by_items a b =
    each_value (λ v. (is_reference v || is_reference b) ≡ false → EqualByItems v b)
    (λ p. each_value (λ w. (is_reference (value.Plain p) || is_reference w) ≡ false → EqualByItems (value.Plain p) w) (λ q h e. cc) (λ ys h e. plain_compared ys p) (λ n h. cc) (λ id h. cc) b)
    (λ vs h e. tuple_compared vs b h) (λ n h. cc) (λ id h. cc) a

unequal_by : (a b : Value) (x y : Option (List Value)) → (is_reference a || is_reference b) ≡ false → compare_step cmp.Eq a b ≡ tuples_equal x y → others_compared cmp.Ne a b x y ≡ and_bool (compare_step cmp.Eq a b) (λ e. tells (not e))
unequal_by a b (Some xs) (Some ys) h e = refl
unequal_by a b (Some xs) None h e = unasked cmp.Ne a b h ∙ ap (λ (c : Bool). tells (not c)) (no_objects a b h) ∙ sym (ap (λ (t : Step). and_bool t (λ c. tells (not c))) e)
unequal_by a b None y h e = unasked cmp.Ne a b h ∙ ap (λ (c : Bool). tells (not c)) (no_objects a b h) ∙ sym (ap (λ (t : Step). and_bool t (λ c. tells (not c))) e)

pub unequal_compared : (a b : Value) → (is_reference a || is_reference b) ≡ false → (is_plain a && is_plain b) ≡ false → compare_step cmp.Ne a b ≡ and_bool (compare_step cmp.Eq a b) (λ e. tells (not e))
unequal_compared a b h e = by_items cmp.Ne a b refl h e ∙ unequal_by a b (tuple_items a) (tuple_items b) h (equal_by_items a b h e)

-- orders
abbrev Orders : CmpOp → Value → Value → Option (List Value) → Option (List Value) → Type 0
Orders o a b x y = others_compared o a b x y ≡ orders x y

order_by : (o : CmpOp) (a b : Value) (x y : Option (List Value)) → is_order o ≡ true → (is_reference a || is_reference b) ≡ false → Orders o a b x y
order_by cmp.Eq a b x y o h = cc
order_by cmp.Ne a b x y o h = cc
order_by cmp.Lt a b (Some xs) (Some ys) o h = refl
order_by cmp.Lt a b (Some xs) None o h = unasked cmp.Lt a b h
order_by cmp.Lt a b None y o h = unasked cmp.Lt a b h
order_by cmp.Le a b (Some xs) (Some ys) o h = refl
order_by cmp.Le a b (Some xs) None o h = unasked cmp.Le a b h
order_by cmp.Le a b None y o h = unasked cmp.Le a b h
order_by cmp.Gt a b (Some xs) (Some ys) o h = refl
order_by cmp.Gt a b (Some xs) None o h = unasked cmp.Gt a b h
order_by cmp.Gt a b None y o h = unasked cmp.Gt a b h
order_by cmp.Ge a b (Some xs) (Some ys) o h = refl
order_by cmp.Ge a b (Some xs) None o h = unasked cmp.Ge a b h
order_by cmp.Ge a b None y o h = unasked cmp.Ge a b h

order_apart : (o : CmpOp) → is_order o ≡ true → is_equal o ≡ false
order_apart cmp.Eq h = cc
order_apart cmp.Ne h = refl
order_apart cmp.Lt h = refl
order_apart cmp.Le h = refl
order_apart cmp.Gt h = refl
order_apart cmp.Ge h = refl

pub order_compared : (o p : CmpOp) (a b : Value) (r : Result Compared NoMemory) → o ≡ p → is_order p ≡ true → (is_reference a || is_reference b) ≡ false → (is_plain a && is_plain b) ≡ false
    → IfOk r (λ c. Compares (carry (orders (tuple_items a) (tuple_items b))) c) → IfOk r (λ c. Compares (carry (compare_step o a b)) c)
order_compared o p a b r is order h e m =
    subst (λ (t : Step). IfOk r (λ c. Compares (carry t) c))
    (sym (ap (λ (q : CmpOp). compare_step q a b) is ∙ by_items p a b (order_apart p order) h e ∙ order_by p a b (tuple_items a) (tuple_items b) order h)) m

-- ---- membership

abbrev TextRefused : List ℕ → Value → Type 0
TextRefused t x = is_plain x ≡ false → contains_within (value.Plain (plain.Text t)) x ≡ type_error (codes "text expected")

text_alone : (t : List ℕ) (x : Value) → TextRefused t x
text_alone t = each_value (TextRefused t) (λ p h. cc) (λ vs h. refl) (λ n h. refl) (λ id h. refl)

pub text_refused : (c x : Value) (p : Plain) (t : List ℕ) → c ≡ value.Plain p → p ≡ plain.Text t → is_plain x ≡ false → contains_within c x ≡ type_error (codes "text expected")
text_refused c x p t h g e = ap (λ (v : Value). contains_within v x) (h ∙ ap (λ (q : Plain). value.Plain q) g) ∙ text_alone t x e

pub bytes_left : (c x : Value) (p : Plain) (t : List ℕ) → c ≡ value.Plain p → p ≡ plain.Bytes t → contains_within c x ≡ Stop beyond.Compare
bytes_left c x p t h g = ap (λ (v : Value). contains_within v x) (h ∙ ap (λ (q : Plain). value.Plain q) g)

-- ---- links

pub compares_as : (r : Result Compared NoMemory) (t u : RuleTree) → t ≡ u → IfOk r (λ c. Compares t c) → IfOk r (λ c. Compares u c)
compares_as r t u e h = subst (λ (x : RuleTree). IfOk r (λ c. Compares x c)) e h

pub ordered : (c : Comparison) (o : CmpOp) (a b : Value) → c ≡ comparison.Order o → carry (compare_step o a b) ≡ link_rule c a b
unfolding link_rule
ordered c o a b e = ap (λ (x : Comparison). link_rule x a b) (sym e)

abbrev contained_by : Bool → Value → Value → RuleTree
contained_by r v x = if r then asked (operation.Special v special.Contains (x ∷ [])) else contains_within v x

pub contained : (c : Comparison) (a b : Value) → c ≡ comparison.In → asks_link c a b ≡ false → contains_within b a ≡ link_rule c a b
unfolding link_rule
contained c a b e h =
    let apart : is_reference b ≡ false = subst (λ (x : Comparison). asks_link x a b ≡ false) e h in
    sym (ap (λ (x : Comparison). link_rule x a b) e ∙ ap (λ (r : Bool). contained_by r b a) apart)

pub not_contained : (c : Comparison) (a b : Value) → c ≡ comparison.NotIn → asks_link c a b ≡ false → bind (contains_within b a) (on_value opposite) ≡ link_rule c a b
unfolding link_rule
not_contained c a b e h =
    let apart : is_reference b ≡ false = subst (λ (x : Comparison). asks_link x a b ≡ false) e h in
    sym (ap (λ (x : Comparison). link_rule x a b) e ∙ ap (λ (r : Bool). bind (contained_by r b a) (on_value opposite)) apart)

pub is_linked : (c : Comparison) (a b v : Value) (n : Bool) → c ≡ comparison.Is → v ≡ boolean n → n ≡ is_none_value a → link_rule c a b ≡ gives v
unfolding link_rule
is_linked c a b v n e h g = ap (λ (x : Comparison). link_rule x a b) e ∙ ap (λ (t : Bool). gives (boolean t)) (sym g) ∙ ap (λ (w : Value). gives w) (sym h)

pub is_not_linked : (c : Comparison) (a b v : Value) (n : Bool) → c ≡ comparison.IsNot → v ≡ boolean (not n) → n ≡ is_none_value a → link_rule c a b ≡ gives v
unfolding link_rule
is_not_linked c a b v n e h g = ap (λ (x : Comparison). link_rule x a b) e ∙ ap (λ (t : Bool). gives (boolean (not t))) (sym g) ∙ ap (λ (w : Value). gives w) (sym h)
