-- Comparisons of two plain values, and a plain value in a plain tuple.
use Rattle.std.proofs.Common.{◌≡◌, ℕ, Bool, true, false, ◌||◌, List, [], ◌∷◌, map, is_some, chars, Option, Some, None, Result, Ok, Err, refl, ◌∙◌, sym, ap, subst}
use Rattle.rp_base.specs.declared.ends.OpEnd.{OpEnd}
use Rattle.rp_base.specs.declared.operators.CmpOp.{CmpOp}
use Rattle.rp_base.specs.declared.operators.CmpOp.TheVariants as cmp
use Rattle.rp_base.specs.declared.plain.Plain.{Plain, out-Plain, roll-Plain}
use Rattle.rp_base.specs.declared.plain.Plain.TheOpen.{Plain-F}
use Rattle.rp_base.specs.declared.plain.Plain.TheVariants as plain
use Rattle.rp_base.specs.declared.plain.Plain.TheViews.{roll-out-Plain}
use Rattle.rp_base.specs.declared.value.Value.{Value}
use Rattle.rp_base.specs.declared.value.Value.TheVariants as value
use Rattle.rp_base.specs.PlainLaws.{gather_roll}
use Rattle.rp_base.specs.PlainValues.{equal_to}
use Rattle.py_plain.specs.Comparing.{compared}
use Rattle.py_plain.specs.Answers.{Answers, OrNoMemory}
use Rattle.py_plain.specs.declared.ends.PlainEnd.{PlainEnd}
use Rattle.py_plain.specs.declared.ends.PlainEnd.TheVariants as plain_end
use Rattle.py_strs.specs.Searching.{IsLeastPlace}
use Rattle.language_rules.specs.Answers.{gives}
use Rattle.language_rules.specs.TextFunctions.{least_place}
use Rattle.language_rules.specs.AtOnce.{ComputesUnlessAsked}
use Rattle.language_rules.specs.Codes.{Step}
use Rattle.language_rules.specs.Comparing.{plain_equal_step, plain_equals, equals_step, compare_step, found_step}
use Rattle.language_rules.specs.Going.{boolean, carry, and_value}
use Rattle.language_rules.specs.PlainItems.{contains_within, tuple_contains}
use Rattle.language_rules.specs.Searching.{search_tuple_step}
use Rattle.language_rules.specs.StepLaws.{items_of_a_plain_tuple}
use Rattle.language_rules.specs.Truth.{tells, tells_answer, truth_step, and_bool}
use Rattle.value_operators.specs.Answering.{end_given}
use Rattle.value_operators.proofs.AnswerLemmas.{or_no_memory}
use Rattle.value_operators.specs.Finding.{is_among}

-- ---- two plain values

layer_equals : (x : Plain-F Plain) (q : Plain) → plain_equals (roll-Plain x) (value.Plain q) ≡ tells (equal_to (roll-Plain x) q)
unfolding plain_equals
layer_equals x q = ap (λ (f : Plain → Value → Step). f (roll-Plain x) (value.Plain q)) (gather_roll (Plain → Value → Step) plain_equal_step x)

equals_plain : (p q : Plain) → equals_step (value.Plain p) (value.Plain q) ≡ tells (equal_to p q)
unfolding equals_step
equals_plain p q = subst (λ (x : Plain). plain_equals x (value.Plain q) ≡ tells (equal_to x q)) (roll-out-Plain p) (layer_equals (out-Plain p) q)

pub compares_plain : (o : CmpOp) (p q : Plain) → compare_step o (value.Plain p) (value.Plain q) ≡ tells_answer (compared o p q)
compares_plain cmp.Eq p q = equals_plain p q
compares_plain cmp.Ne p q = refl
compares_plain cmp.Lt p q = refl
compares_plain cmp.Le p q = refl
compares_plain cmp.Gt p q = refl
compares_plain cmp.Ge p q = refl

-- the answer of a comparison
abbrev bool_answer : Result Bool PlainEnd → Result (Option Value) OpEnd
bool_answer (Ok b) = Ok (Some (boolean b))
bool_answer (Err e) = Err (end_given e)

told : (wanted answer : Result Bool PlainEnd) → OrNoMemory wanted answer → ComputesUnlessAsked (carry (tells_answer wanted)) (bool_answer answer)
told wanted (Ok b) h = subst (λ (w : Result Bool PlainEnd). ComputesUnlessAsked (carry (tells_answer w)) (bool_answer (Ok b))) h refl
told wanted (Err (plain_end.Raise r)) h = subst (λ (w : Result Bool PlainEnd). ComputesUnlessAsked (carry (tells_answer w)) (bool_answer (Err (plain_end.Raise r)))) h refl
told wanted (Err (plain_end.Beyond b)) h = subst (λ (w : Result Bool PlainEnd). ComputesUnlessAsked (carry (tells_answer w)) (bool_answer (Err (plain_end.Beyond b)))) h refl
told wanted (Err plain_end.NoMemory) h = tt

ordered : (o : CmpOp) (p q : Plain) (answer : Result Bool PlainEnd) → Answers (compared o p q) answer → ComputesUnlessAsked (carry (compare_step o (value.Plain p) (value.Plain q))) (bool_answer answer)
ordered o p q answer h =
    subst (λ (t : Step). ComputesUnlessAsked (carry t) (bool_answer answer)) (sym (compares_plain o p q)) (told (compared o p q) answer (or_no_memory (compared o p q) answer h))

pub ordered_bool : (o : CmpOp) (p q : Plain) (answer : Result Bool PlainEnd) (b : Bool) (v : Value) → Answers (compared o p q) answer → answer ≡ Ok b → v ≡ boolean b
    → ComputesUnlessAsked (carry (compare_step o (value.Plain p) (value.Plain q))) (Ok (Some v))
ordered_bool o p q answer b v h is k =
    subst (λ (w : Value). ComputesUnlessAsked (carry (compare_step o (value.Plain p) (value.Plain q))) (Ok (Some w))) (sym k)
    (subst (λ (x : Result Bool PlainEnd). ComputesUnlessAsked (carry (compare_step o (value.Plain p) (value.Plain q))) (bool_answer x)) is (ordered o p q answer h))

pub ordered_end : (o : CmpOp) (p q : Plain) (answer : Result Bool PlainEnd) (e : PlainEnd) (r : OpEnd) → Answers (compared o p q) answer → answer ≡ Err e → r ≡ end_given e
    → ComputesUnlessAsked (carry (compare_step o (value.Plain p) (value.Plain q))) (Err r)
ordered_end o p q answer e r h is k =
    subst (λ (x : OpEnd). ComputesUnlessAsked (carry (compare_step o (value.Plain p) (value.Plain q))) (Err x)) (sym k)
    (subst (λ (x : Result Bool PlainEnd). ComputesUnlessAsked (carry (compare_step o (value.Plain p) (value.Plain q))) (bool_answer x)) is (ordered o p q answer h))

-- ---- in a tuple

found_plain : (p e : Plain) → found_step (value.Plain p) (value.Plain e) ≡ tells (equal_to p e)
found_plain p e = ap (λ (t : Step). and_value t truth_step) (equals_plain p e)

abbrev goes_on : Plain → List Plain → Bool → Step
goes_on x ps b = elim b [ true ↦ tells true | false ↦ search_tuple_step (map (λ p. value.Plain p) ps) (value.Plain x) ]

at_item : (x : Plain) (ps : List Plain) (b : Bool) → search_tuple_step (map (λ p. value.Plain p) ps) (value.Plain x) ≡ tells (is_among x ps) → goes_on x ps b ≡ tells (b || is_among x ps)
at_item x ps true h = refl
at_item x ps false h = h

searched : (x : Plain) (ps : List Plain) → search_tuple_step (map (λ p. value.Plain p) ps) (value.Plain x) ≡ tells (is_among x ps)
searched x [] = refl
searched x (p ∷ ps) = ap (λ (t : Step). and_bool t (goes_on x ps)) (found_plain x p) ∙ at_item x ps (equal_to x p) (searched x ps)

pub in_a_tuple : (c x : Plain) (ps : List Plain) → c ≡ plain.Tuple ps → contains_within (value.Plain c) (value.Plain x) ≡ carry (tells (is_among x ps))
in_a_tuple c x ps h =
    ap (λ (d : Plain). contains_within (value.Plain d) (value.Plain x)) h
    ∙ ap (λ (o : Option (List Value)). tuple_contains (value.Plain x) o) (items_of_a_plain_tuple ps)
    ∙ ap carry (searched x ps)

pub in_tuple : (c x : Plain) (ps qs : List Plain) (b : Bool) → c ≡ plain.Tuple ps → qs ≡ ps → b ≡ is_among x qs → contains_within (value.Plain c) (value.Plain x) ≡ gives (boolean b)
in_tuple c x ps qs b h k e = in_a_tuple c x ps h ∙ ap (λ (t : Bool). gives (boolean t)) (ap (is_among x) (sym k) ∙ sym e)

-- ---- in a text

pub same_found : (text part : List ℕ) (a b : Option ℕ) → IsLeastPlace text part a → IsLeastPlace text part b → is_some a ≡ is_some b
same_found text part None None h g = refl
same_found text part None (Some k) h g = absurd (h k g.0)
same_found text part (Some k) None h g = absurd (g k h.0)
same_found text part (Some j) (Some k) h g = refl

pub in_text : (c x : Plain) (t u text part : List ℕ) (found : Option ℕ) (b : Bool) → c ≡ plain.Text t → x ≡ plain.Text u → text ≡ t → part ≡ u
    → ((s p : List ℕ) → IsLeastPlace s p (least_place s p)) → IsLeastPlace (chars text) (chars part) found → b ≡ is_some found
    → contains_within (value.Plain c) (value.Plain x) ≡ gives (boolean b)
in_text c x t u text part found b h g k l least f e =
    ap (λ (d : Plain). contains_within (value.Plain d) (value.Plain x)) h
    ∙ ap (λ (y : Plain). contains_within (value.Plain (plain.Text t)) (value.Plain y)) g
    ∙ ap (λ (s : List ℕ). gives (boolean (is_some (least_place (chars s) (chars u))))) (sym k)
    ∙ ap (λ (p : List ℕ). gives (boolean (is_some (least_place (chars text) (chars p))))) (sym l)
    ∙ ap (λ (d : Bool). gives (boolean d)) (same_found (chars text) (chars part) (least_place (chars text) (chars part)) found (least (chars text) (chars part)) f ∙ sym e)
