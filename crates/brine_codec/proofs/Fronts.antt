-- A list that was grown keeps its front.
use Rattle.std.proofs.Common.{◌≡◌, ℕ, List, [], ◌∷◌, ◌++◌, length, take, refl, subst, Result, Ok, Err}
use Rattle.std.specs.Prelude.{OnErr}

-- what keeps a front a ++ b keeps a
front_of : (a b c : List ℕ) → take (length (a ++ b)) c ≡ a ++ b → take (length a) c ≡ a
front_of [] b c h = refl
front_of (x ∷ a) b [] h = absurd cc
front_of (x ∷ a) b (y ∷ c) h =
    let head : y ≡ x = cc in
    let tail : take (length (a ++ b)) c ≡ a ++ b = cc in
    rw (head, front_of a b c tail) refl

pub front_within : (a b c whole : List ℕ) → whole ≡ a ++ b → take (length whole) c ≡ whole → take (length a) c ≡ a
front_within a b c whole e h = let P : List ℕ → Type 0 = λ w. take (length w) c ≡ w in front_of a b c (subst P e h)

pub on_err : {T E P : Type 0} (r : Result T E) → P → OnErr r P
on_err (Ok x) p = tt
on_err (Err e) p = p
