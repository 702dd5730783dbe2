-- What the steps over values give at a tuple.
use Rattle.std.proofs.Common.{◌≡◌, List, [], ◌∷◌, map, Some, refl, ◌∙◌, ap}
use Rattle.rp_base.specs.declared.plain.Plain.{Plain}
use Rattle.rp_base.specs.declared.plain.Plain.TheOpen.{Plain-F}
use Rattle.rp_base.specs.declared.plain.Plain.TheVariants as plain
use Rattle.rp_base.specs.declared.value.Value.{Value}
use Rattle.rp_base.specs.declared.value.Value.TheOpen.{Value-F}
use Rattle.rp_base.specs.declared.value.Value.TheVariants as value
use Rattle.rp_base.specs.PlainValues.{gather}
use Rattle.rp_base.specs.PlainLaws.{gather_tuple, look_tuple}
use Rattle.rp_base.specs.Values.{gather_value}
use Rattle.rp_base.specs.ValueLaws.{gather_value_tuple, look_value_tuple}
use Rattle.language_rules.specs.Codes.{Step}
use Rattle.language_rules.specs.Comparing.{plain_items, value_items, tuple_items, tuple_against, with_plain_tests, with_tests, plain_against, plain_equal_step, plain_equals, value_against, value_equal_step, equals_step}
use Rattle.language_rules.specs.Printing.{tuple_text_step, repr_layer, repr_step}

-- ---- the items of a tuple

pub items_of_a_tuple : (vs : List Value) → tuple_items (value.Tuple vs) ≡ Some vs
items_of_a_tuple vs = ap value_items (look_value_tuple vs)

pub items_of_a_plain_tuple : (ps : List Plain) → tuple_items (value.Plain (plain.Tuple ps)) ≡ Some (map (λ p. value.Plain p) ps)
items_of_a_plain_tuple ps = ap plain_items (look_tuple ps)

-- ---- the text of a tuple that holds a reference

pub repr_tuple : (vs : List Value) → repr_step (value.Tuple vs) ≡ tuple_text_step (map repr_step vs)
unfolding repr_step
repr_tuple vs = gather_value_tuple Step repr_layer vs

-- ---- `==` with such a tuple on the left: each item stands with its own `==`

abbrev Compares : Type 0
Compares = Value → Value → Step

tests_are : (vs : List Value) → with_tests (map (gather_value Compares value_equal_step) vs) vs ≡ map (λ v. (v, equals_step v)) vs
unfolding equals_step
tests_are [] = refl
tests_are (v ∷ vs) = ap (λ (es : List (Value × (Value → Step))). (v, equals_step v) ∷ es) (tests_are vs)

pub equals_tuple : (vs : List Value) (b : Value) → equals_step (value.Tuple vs) b ≡ tuple_against (map (λ v. (v, equals_step v)) vs) (value.Tuple vs) b (tuple_items b)
unfolding equals_step
equals_tuple vs b =
    ap (λ (f : Compares). f (value.Tuple vs) b) (gather_value_tuple Compares value_equal_step vs)
    ∙ ap (λ (l : Value-F Value). value_against (Value-F.Tuple (map (gather_value Compares value_equal_step) vs)) l (value.Tuple vs) b) (look_value_tuple vs)
    ∙ ap (λ (es : List (Value × (Value → Step))). tuple_against es (value.Tuple vs) b (tuple_items b)) (tests_are vs)

-- ---- `==` with a plain tuple on the left

abbrev ComparesPlain : Type 0
ComparesPlain = Plain → Value → Step

with_plain_tests_is : (ps : List Plain) → with_plain_tests (map (gather ComparesPlain plain_equal_step) ps) ps ≡ map (λ p. (value.Plain p, plain_equals p)) ps
unfolding plain_equals
with_plain_tests_is [] = refl
with_plain_tests_is (p ∷ ps) = ap (λ (es : List (Value × (Value → Step))). (value.Plain p, plain_equals p) ∷ es) (with_plain_tests_is ps)

at_plain_layers : (ps : List Plain) (b : Value) → plain_equals (plain.Tuple ps) b ≡ plain_against (Plain-F.Tuple (map (gather ComparesPlain plain_equal_step) ps)) (Plain-F.Tuple ps) (plain.Tuple ps) b
unfolding plain_equals
at_plain_layers ps b =
    ap (λ (f : ComparesPlain). f (plain.Tuple ps) b) (gather_tuple ComparesPlain plain_equal_step ps)
    ∙ ap (λ (l : Plain-F Plain). plain_against (Plain-F.Tuple (map (gather ComparesPlain plain_equal_step) ps)) l (plain.Tuple ps) b) (look_tuple ps)

-- against a tuple that holds a reference
pub plain_equals_tuple : (ps : List Plain) (ys : List Value) → plain_equals (plain.Tuple ps) (value.Tuple ys) ≡ tuple_against (map (λ p. (value.Plain p, plain_equals p)) ps) (value.Plain (plain.Tuple ps)) (value.Tuple ys) (tuple_items (value.Tuple ys))
plain_equals_tuple ps ys =
    at_plain_layers ps (value.Tuple ys)
    ∙ ap (λ (es : List (Value × (Value → Step))). tuple_against es (value.Plain (plain.Tuple ps)) (value.Tuple ys) (tuple_items (value.Tuple ys))) (with_plain_tests_is ps)
