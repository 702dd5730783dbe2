-- What wires carry, step by step.
use Rattle.std.proofs.Common.{◌≡◌, ◌∙◌, ℕ, ◌++◌, List, [], ◌∷◌, ap, sym, refl, append-nil, append_assoc}
use Rattle.std.proofs.lemmas.List.{map-append}
use Rattle.rp_base.specs.declared.ends.Side.{Side}
use Rattle.rp_base.specs.declared.ends.Side.TheVariants as side
use Rattle.pair_run.specs.Talk.{sent_by, from_a, from_b, Carries, CarriesFront, CarriesPart}

from_a-append : (xs ys : List (Side × ℕ)) → from_a (xs ++ ys) ≡ from_a xs ++ from_a ys
from_a-append [] ys = refl
from_a-append ((side.A, b) ∷ xs) ys = ap (λ ms. b ∷ ms) (from_a-append xs ys)
from_a-append ((side.B, b) ∷ xs) ys = from_a-append xs ys

from_b-append : (xs ys : List (Side × ℕ)) → from_b (xs ++ ys) ≡ from_b xs ++ from_b ys
from_b-append [] ys = refl
from_b-append ((side.A, b) ∷ xs) ys = from_b-append xs ys
from_b-append ((side.B, b) ∷ xs) ys = ap (λ ms. b ∷ ms) (from_b-append xs ys)

a-from_a : (bytes : List ℕ) → from_a (sent_by side.A bytes) ≡ bytes
a-from_a [] = refl
a-from_a (b ∷ bytes) = ap (λ ms. b ∷ ms) (a-from_a bytes)

a-from_b : (bytes : List ℕ) → from_b (sent_by side.A bytes) ≡ []
a-from_b [] = refl
a-from_b (b ∷ bytes) = a-from_b bytes

b-from_b : (bytes : List ℕ) → from_b (sent_by side.B bytes) ≡ bytes
b-from_b [] = refl
b-from_b (b ∷ bytes) = ap (λ ms. b ∷ ms) (b-from_b bytes)

b-from_a : (bytes : List ℕ) → from_a (sent_by side.B bytes) ≡ []
b-from_a [] = refl
b-from_a (b ∷ bytes) = b-from_a bytes

nothing_more : (xs ys : List ℕ) → ys ≡ [] → xs ≡ xs ++ ys
nothing_more xs ys e = sym (ap (λ ms. xs ++ ms) e ∙ append-nil xs)

-- one message of A, and one of B
pub carries_a : (bytes ab ab_new ba : List ℕ) → ab_new ≡ ab ++ bytes → Carries (sent_by side.A bytes) ab ab_new ba ba
carries_a bytes ab ab_new ba e = (e ∙ ap (λ ms. ab ++ ms) (sym (a-from_a bytes)), nothing_more ba (from_b (sent_by side.A bytes)) (a-from_b bytes))

pub carries_b : (bytes ab ba ba_new : List ℕ) → ba_new ≡ ba ++ bytes → Carries (sent_by side.B bytes) ab ab ba ba_new
carries_b bytes ab ba ba_new e = (nothing_more ab (from_a (sent_by side.B bytes)) (b-from_a bytes), e ∙ ap (λ ms. ba ++ ms) (sym (b-from_b bytes)))

pub carries_none : (ab ba : List ℕ) → Carries [] ab ab ba ba
carries_none ab ba = (sym (append-nil ab), sym (append-nil ba))

one_after : (x y z p q : List ℕ) → y ≡ x ++ p → z ≡ y ++ q → z ≡ x ++ (p ++ q)
one_after x y z p q e f = f ∙ ap (λ ms. ms ++ q) e ∙ append_assoc x p q

pub carries_then : (s t : List (Side × ℕ)) (ab ab1 ab2 ba ba1 ba2 : List ℕ) → Carries s ab ab1 ba ba1 → Carries t ab1 ab2 ba1 ba2 → Carries (s ++ t) ab ab2 ba ba2
carries_then s t ab ab1 ab2 ba ba1 ba2 h k = (
  one_after ab ab1 ab2 (from_a s) (from_a t) h.0 k.0 ∙ ap (λ ms. ab ++ ms) (sym (from_a-append s t)),
  one_after ba ba1 ba2 (from_b s) (from_b t) h.1 k.1 ∙ ap (λ ms. ba ++ ms) (sym (from_b-append s t)),
)

pub front_then : (s t : List (Side × ℕ)) (ab ab1 ab2 ba ba1 ba2 : List ℕ) → Carries s ab ab1 ba ba1 → CarriesFront t ab1 ab2 ba1 ba2 → CarriesFront (s ++ t) ab ab2 ba ba2
front_then s t ab ab1 ab2 ba ba1 ba2 h k =
    (s ++ k.0, k.1, ap (λ ms. s ++ ms) k.2 ∙ sym (append_assoc s k.0 k.1), carries_then s k.0 ab ab1 ab2 ba ba1 ba2 h k.3)

pub front_more : (s t : List (Side × ℕ)) (ab ab_new ba ba_new : List ℕ) → CarriesFront s ab ab_new ba ba_new → CarriesFront (s ++ t) ab ab_new ba ba_new
front_more s t ab ab_new ba ba_new h = (h.0, h.1 ++ t, ap (λ ms. ms ++ t) h.2 ∙ append_assoc h.0 h.1 t, h.3)

pub front_of_whole : (s t : List (Side × ℕ)) (ab ab_new ba ba_new : List ℕ) → Carries s ab ab_new ba ba_new → CarriesFront (s ++ t) ab ab_new ba ba_new
front_of_whole s t ab ab_new ba ba_new h = (s, t, refl, h)

pub front_none : (s : List (Side × ℕ)) (ab ba : List ℕ) → CarriesFront s ab ab ba ba
front_none s ab ba = ([], s, refl, carries_none ab ba)

pub front_a : (bytes ab ab_new ba : List ℕ) → CarriesPart bytes ab ab_new → CarriesFront (sent_by side.A bytes) ab ab_new ba ba
front_a bytes ab ab_new ba h = (
  sent_by side.A h.0,
  sent_by side.A h.1,
  ap (sent_by side.A) h.2 ∙ map-append (λ b. (side.A, b)) h.0 h.1,
  carries_a h.0 ab ab_new ba h.3,
)

pub front_b : (bytes ab ba ba_new : List ℕ) → CarriesPart bytes ba ba_new → CarriesFront (sent_by side.B bytes) ab ab ba ba_new
front_b bytes ab ba ba_new h = (
  sent_by side.B h.0,
  sent_by side.B h.1,
  ap (sent_by side.B) h.2 ∙ map-append (λ b. (side.B, b)) h.0 h.1,
  carries_b h.0 ab ba ba_new h.3,
)

pub front_all : (s : List (Side × ℕ)) (ab ab_new ba ba_new : List ℕ) → Carries s ab ab_new ba ba_new → CarriesFront s ab ab_new ba ba_new
front_all s ab ab_new ba ba_new h = (s, [], sym (append-nil s), h)
