-- What is left of a text without the white space at both ends is one text.
use Rattle.std.proofs.Common.{◌≡◌, ℕ, Bool, true, false, not, if◌then◌else◌, List, [], ◌∷◌, ◌++◌, refl, sym, ap, ◌∙◌, subst, append-nil}
use Rattle.std.proofs.lemmas.Bool.{and_from, and_parts}
use Rattle.std.proofs.lemmas.List.{reverse-append, reverse-reverse}
use Rattle.std.specs.Prelude.{reverse}
use Rattle.py_strs.specs.Spaces.{is_space, all_spaces, begins_bare, ends_bare, IsStripped}
use Rattle.language_rules.specs.TextFunctions.{without_front, stripped}

-- white space in front is left out
pub skipped : (front rest : List ℕ) → all_spaces front ≡ true → without_front (front ++ rest) ≡ without_front rest
skipped [] rest h = refl
skipped (c ∷ cs) rest h =
    let parts = and_parts (is_space c) (all_spaces cs) h in
    ap (λ (b : Bool). if b then without_front (cs ++ rest) else c ∷ (cs ++ rest)) parts.0 ∙ skipped cs rest parts.1

off : (b : Bool) → not b ≡ true → b ≡ false
off false h = refl
off true h = cc

-- what begins with none stays
bare_stays : (cs : List ℕ) → begins_bare cs ≡ true → without_front cs ≡ cs
bare_stays [] h = refl
bare_stays (c ∷ cs) h = ap (λ (b : Bool). if b then without_front cs else c ∷ cs) (off (is_space c) h)

spaces_joined : (xs ys : List ℕ) → all_spaces xs ≡ true → all_spaces ys ≡ true → all_spaces (xs ++ ys) ≡ true
spaces_joined [] ys h k = k
spaces_joined (x ∷ xs) ys h k = let parts = and_parts (is_space x) (all_spaces xs) h in and_from (is_space x) (all_spaces (xs ++ ys)) parts.0 (spaces_joined xs ys parts.1 k)

spaces_reversed : (xs : List ℕ) → all_spaces xs ≡ true → all_spaces (reverse xs) ≡ true
spaces_reversed [] h = refl
spaces_reversed (x ∷ xs) h =
    let parts = and_parts (is_space x) (all_spaces xs) h in
    let joined = spaces_joined (reverse xs) (x ∷ []) (spaces_reversed xs parts.1) (and_from (is_space x) true parts.0 refl) in
    subst (λ (l : List ℕ). all_spaces l ≡ true) (sym (reverse-append (x ∷ []) xs)) joined

-- white space behind is left out too
cut : (part back : List ℕ) → all_spaces back ≡ true → begins_bare part ≡ true → ends_bare part ≡ true → reverse (without_front (reverse (without_front (part ++ back)))) ≡ part
cut [] back h starts stops =
    let none : without_front back ≡ [] = ap without_front (sym (append-nil back)) ∙ skipped back [] h in
    ap (λ (l : List ℕ). reverse (without_front (reverse l))) none
cut (c ∷ cs) back h starts stops =
    ap (λ (l : List ℕ). reverse (without_front (reverse l))) (bare_stays ((c ∷ cs) ++ back) starts)
    ∙ ap (λ (l : List ℕ). reverse (without_front l)) (reverse-append (c ∷ cs) back)
    ∙ ap reverse (skipped (reverse back) (reverse (c ∷ cs)) (spaces_reversed back h))
    ∙ ap reverse (bare_stays (reverse (c ∷ cs)) stops)
    ∙ reverse-reverse (c ∷ cs)

pub one_part : (text part : List ℕ) → IsStripped text part → part ≡ stripped text
one_part text part is =
    let front : without_front text ≡ without_front (part ++ is.back) = ap without_front is.split ∙ skipped is.front (part ++ is.back) is.front_spaces in
    sym (ap (λ (l : List ℕ). reverse (without_front (reverse l))) front ∙ cut part is.back is.back_spaces is.starts is.stops)
