-- Older ends of a list, told apart by their lengths.
use Rattle.std.proofs.Common.{◌≡◌, List, [], ◌∷◌, ◌++◌, ℕ, suc, ◌+◌, ◌<◌, ◌≤◌, refl, sym, ap, ◌∙◌, subst, arith}
use Rattle.std.specs.Prelude.{length}
use Rattle.std.proofs.lemmas.List.{length-append}
use Rattle.side_trees.specs.Growing.{Extends}
use Rattle.side_trees.proofs.Lists.{extends-one, extends-trans}

not-longer : (n k : ℕ) → n ≤ k + n
not-longer n k = omega arith

pub extends-length : {M : Type 0} (xs ys : List M) → Extends xs ys → length ys ≤ length xs
extends-length xs ys (m, e) = subst (λ n. length ys ≤ n) (sym (ap length e ∙ length-append m ys)) (not-longer (length ys) (length m))

abbrev tail-of : {M : Type 0} → List M → List M
tail-of [] = []
tail-of (x ∷ xs) = xs

too-long : {M : Type 0} (z : M) (p xs ys : List M) → z ∷ (p ++ xs) ≡ ys → length ys ≤ length xs → ⊥
too-long z p xs ys e h =
    let same : suc (length p + length xs) ≡ length ys = ap suc (sym (length-append p xs)) ∙ ap length e in
    absurd (omega arith)

-- of two older ends of one list the longer extends the other
meet : {M : Type 0} (p q xs ys : List M) → p ++ xs ≡ q ++ ys → length ys ≤ length xs → Extends xs ys
meet [] q xs ys e h = (q, e)
meet (z ∷ p) [] xs ys e h = absurd (too-long z p xs ys e h)
meet (z ∷ p) (v ∷ q) xs ys e h = meet p q xs ys (ap tail-of e) h

pub longer-extends : {M : Type 0} (whole xs ys : List M) → Extends whole xs → Extends whole ys → length ys ≤ length xs → Extends xs ys
longer-extends whole xs ys (p, e) (q, f) h = meet p q xs ys (sym e ∙ f) h

pub extends-equal : {M : Type 0} (xs ys : List M) → Extends xs ys → length xs ≤ length ys → xs ≡ ys
extends-equal xs ys ([], e) h = e
extends-equal xs ys (z ∷ p, e) h = absurd (too-long z p ys xs (sym e) h)

-- the next of a list over an older end that is not all of it
next-of : {M : Type 0} (z : M) (p ys : List M) → (y : M) × Extends ((z ∷ p) ++ ys) (y ∷ ys)
next-of z [] ys = (z, ([], refl))
next-of z (v ∷ p) ys = let (y, (q, e)) = next-of v p ys in (y, (z ∷ q, ap (λ l. z ∷ l) e))

pub next : {M : Type 0} (xs ys : List M) → Extends xs ys → length ys < length xs → (y : M) × Extends xs (y ∷ ys)
next xs ys ([], e) h = let same : length xs ≡ length ys = ap length e in absurd (omega arith)
next {M} xs ys (z ∷ p, e) h = subst (λ l. (y : M) × Extends l (y ∷ ys)) (sym e) (next-of z p ys)

-- it is one only
same-length : (n : ℕ) → n ≤ n
same-length n = omega arith

abbrev first-of : {M : Type 0} → M → List M → M
first-of d [] = d
first-of d (x ∷ xs) = x

pub next-same : {M : Type 0} (whole : List M) (x y : M) (zs : List M) → Extends whole (x ∷ zs) → Extends whole (y ∷ zs) → x ≡ y
next-same whole x y zs e f =
    ap (first-of x) (extends-equal (x ∷ zs) (y ∷ zs) (longer-extends whole (x ∷ zs) (y ∷ zs) e f (same-length (suc (length zs)))) (same-length (suc (length zs))))

pub extends-less : {M : Type 0} (xs : List M) (y : M) (ys : List M) → Extends xs (y ∷ ys) → Extends xs ys
extends-less xs y ys h = extends-trans xs (y ∷ ys) ys h (extends-one y ys)

pub extends-none : {M : Type 0} (xs : List M) → Extends xs []
extends-none [] = ([], refl)
extends-none (x ∷ xs) = let (m, e) = extends-none xs in (x ∷ m, ap (λ l. x ∷ l) e)

-- an older end is all of a list, or there is a next
pub data Unread {M : Type 0} (whole old : List M) : Type 0 where
  None : whole ≡ old → Unread whole old
  More : (m : M) → Extends whole (m ∷ old) → Unread whole old

more-of : {M : Type 0} (whole old : List M) → (m : M) × Extends whole (m ∷ old) → Unread whole old
more-of whole old (m, h) = More m h

pub unread : {M : Type 0} (whole old : List M) → Extends whole old → Unread whole old
unread whole old ([], e) = None e
unread {M} whole old (z ∷ p, e) = more-of whole old (subst (λ l. (y : M) × Extends l (y ∷ old)) (sym e) (next-of z p old))
