-- A text has one list of pieces.
use Rattle.std.proofs.Common.{◌≡◌, ℕ, List, [], ◌∷◌, ◌++◌, Some, length, take, drop, sym, ap, subst, ◌∙◌, ⊎_elim}
use Rattle.std.proofs.Math.Seq.{drop-append_seam, take-append_seam}
use Rattle.std.proofs.lemmas.Bool.{cases_order}
use Rattle.py_strs.specs.Searching.{IsLeastPlace}
use Rattle.py_strs.specs.Splitting.{IsSplit}

one_place : (text sep : List ℕ) (a b : ℕ) → IsLeastPlace text sep (Some a) → IsLeastPlace text sep (Some b) → a ≡ b
one_place text sep a b h k = ⊎_elim (λ is. is) (λ other. ⊎_elim (λ less. absurd (k.1 a less h.0)) (λ less. absurd (h.1 b less k.0)) other) (cases_order a b)

front : (text p x : List ℕ) → text ≡ p ++ x → p ≡ take (length p) text
front text p x e = sym (take-append_seam p x) ∙ ap (take (length p)) (sym e)

back : (text p x : List ℕ) → text ≡ p ++ x → x ≡ drop (length p) text
back text p x e = sym (drop-append_seam p x) ∙ ap (drop (length p)) (sym e)

pub one_split : (sep text : List ℕ) (ps qs : List (List ℕ)) → IsSplit sep text ps → IsSplit sep text qs → ps ≡ qs
one_split sep text [] qs h k = absurd h
one_split sep text (p ∷ ps) [] h k = absurd k
one_split sep text (p ∷ []) (q ∷ []) h k = ap (λ (l : List ℕ). l ∷ []) (sym h.0 ∙ k.0)
one_split sep text (p ∷ []) (q ∷ r ∷ qs) h (rest, e, least, k) = absurd (h.1 (length q) least.0)
one_split sep text (p ∷ o ∷ ps) (q ∷ []) (rest, e, least, h) k = absurd (k.1 (length p) least.0)
one_split sep text (p ∷ o ∷ ps) (q ∷ r ∷ qs) (left, e, least, h) (rest, d, first, k) =
    let size : length p ≡ length q = one_place text sep (length p) (length q) least first in
    let same : p ≡ q = front text p (sep ++ left) e ∙ ap (λ (n : ℕ). take n text) size ∙ sym (front text q (sep ++ rest) d) in
    let tails : sep ++ left ≡ sep ++ rest = back text p (sep ++ left) e ∙ ap (λ (n : ℕ). drop n text) size ∙ sym (back text q (sep ++ rest) d) in
    let ends : left ≡ rest = sym (drop-append_seam sep left) ∙ ap (drop (length sep)) tails ∙ drop-append_seam sep rest in
    let others : o ∷ ps ≡ r ∷ qs = one_split sep rest (o ∷ ps) (r ∷ qs) (subst (λ (l : List ℕ). IsSplit sep l (o ∷ ps)) ends h) k in
    ap (λ (l : List ℕ). l ∷ o ∷ ps) same ∙ ap (λ (l : List (List ℕ)). q ∷ l) others
