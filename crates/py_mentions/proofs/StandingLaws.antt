-- The walk finds what is found at the nodes that stand in the script, and nothing else.
use Rattle.std.proofs.Common.{◌≡◌, refl, sym, subst, ◌⊎◌, inl, inr, ℕ, zero, suc, ◌<◌, Bool, true, false, cond, nat_lt, List, [], ◌∷◌, ◌++◌, filter, flat_map, arith}
use Rattle.py_ast.specs.declared.program.Program.{Program}
use Rattle.py_mentions.specs.declared.place.Construct.{Construct}
use Rattle.py_mentions.specs.declared.place.Role.{Role}
use Rattle.py_mentions.specs.declared.place.Role.TheVariants as role
use Rattle.py_mentions.specs.declared.place.Part.{Part}
use Rattle.py_mentions.specs.Parts.{parts}
use Rattle.py_mentions.specs.Walks.{Finds, found_in, smaller, smaller_parts, walk, within}
use Rattle.py_mentions.specs.Worst.{IsIn}
use Rattle.py_mentions.specs.Standing.{Leads, IsFound}
use Rattle.py_mentions.proofs.WalkLaws.{from_part}

-- ---- lists

in_left : {A : Type 0} (x : A) (xs ys : List A) → IsIn x xs → IsIn x (xs ++ ys)
in_left x [] ys h = absurd h
in_left x (z ∷ xs) ys (inl h) = inl h
in_left x (z ∷ xs) ys (inr h) = inr (in_left x xs ys h)

in_right : {A : Type 0} (x : A) (xs ys : List A) → IsIn x ys → IsIn x (xs ++ ys)
in_right x [] ys h = h
in_right x (z ∷ xs) ys h = inr (in_right x xs ys h)

shifted : {A : Type 0} (x z : A) (xs ys : List A) → IsIn x xs ⊎ IsIn x ys → IsIn x (z ∷ xs) ⊎ IsIn x ys
shifted x z xs ys (inl h) = inl (inr h)
shifted x z xs ys (inr h) = inr h

in_either : {A : Type 0} (x : A) (xs ys : List A) → IsIn x (xs ++ ys) → IsIn x xs ⊎ IsIn x ys
in_either x [] ys h = inr h
in_either x (z ∷ xs) ys (inl h) = inl (inl h)
in_either x (z ∷ xs) ys (inr h) = shifted x z xs ys (in_either x xs ys h)

-- the part in which x is found
abbrev FoundAt : {A : Type 0} → A → (Part → List A) → List Part → ℕ → Type 0
FoundAt x f qs n = (q : Part) × IsIn q qs × (q.number < n) × IsIn x (f q)

later_part : {A : Type 0} (x : A) (f : Part → List A) (p : Part) (qs : List Part) (n : ℕ) → FoundAt x f qs n → FoundAt x f (p ∷ qs) n
later_part x f p qs n (q, at, below, found) = (q, inr at, below, found)

at_first : {A : Type 0} (x : A) (f : Part → List A) (p : Part) (qs : List Part) (n : ℕ) → p.number < n → IsIn x (f p) ⊎ FoundAt x f qs n → FoundAt x f (p ∷ qs) n
at_first x f p qs n below (inl h) = (p, inl refl, below, h)
at_first x f p qs n below (inr h) = later_part x f p qs n h

on_right : {A B C : Type 0} → (B → C) → A ⊎ B → A ⊎ C
on_right g (inl a) = inl a
on_right g (inr b) = inr (g b)

split_at : {A : Type 0} (x : A) (f : Part → List A) (p : Part) (qs kept : List Part) (n : ℕ) (b : Bool) → nat_lt p.number n ≡ b → (IsIn x (flat_map f kept) → FoundAt x f qs n)
    → IsIn x (flat_map f (cond b (p ∷ kept) kept)) → FoundAt x f (p ∷ qs) n
split_at x f p qs kept n true is rest h = at_first x f p qs n (grind arith) (on_right rest (in_either x (f p) (flat_map f kept) h))
split_at x f p qs kept n false is rest h = later_part x f p qs n (rest h)

found_at : {A : Type 0} (x : A) (f : Part → List A) (qs : List Part) (n : ℕ) → IsIn x (flat_map f (filter (smaller n) qs)) → FoundAt x f qs n
found_at x f [] n h = absurd h
found_at x f (p ∷ qs) n h = split_at x f p qs (filter (smaller n) qs) n (nat_lt p.number n) refl (found_at x f qs n) h

join_first : {A : Type 0} (x : A) (f : Part → List A) (p : Part) (kept : List Part) (n : ℕ) (b : Bool) → nat_lt p.number n ≡ b → p.number < n → IsIn x (f p) → IsIn x (flat_map f (cond b (p ∷ kept) kept))
join_first x f p kept n true is below h = in_left x (f p) (flat_map f kept) h
join_first x f p kept n false is below h = absurd (grind arith)

join_later : {A : Type 0} (x : A) (f : Part → List A) (p : Part) (kept : List Part) (b : Bool) → IsIn x (flat_map f kept) → IsIn x (flat_map f (cond b (p ∷ kept) kept))
join_later x f p kept true h = in_right x (f p) (flat_map f kept) h
join_later x f p kept false h = h

in_parts : {A : Type 0} (x : A) (f : Part → List A) (q : Part) (qs : List Part) (n : ℕ) → IsIn q qs → q.number < n → IsIn x (f q) → IsIn x (flat_map f (filter (smaller n) qs))
in_parts x f q [] n at below h = absurd at
in_parts x f q (p ∷ qs) n (inl same) below h =
    join_first x f p (filter (smaller n) qs) n (nat_lt p.number n) refl (subst (λ (s : Part). s.number < n) same below) (subst (λ (s : Part). IsIn x (f s)) same h)
in_parts x f q (p ∷ qs) n (inr at) below h = join_later x f p (filter (smaller n) qs) (nat_lt p.number n) (in_parts x f q qs n at below h)

-- ---- the walk

-- from here a path leads to where x is found
abbrev Reached : {A : Type 0} → Program → Finds A → A → List Construct → Role → ℕ → Type 0
Reached p here x cs r n = (path : List Part) × (ds : List Construct) × (s : Role) × (m : ℕ) × Leads p cs r n path ds s m × IsIn x (here ds s m)

one_step : {A : Type 0} (p : Program) (here : Finds A) (x : A) (cs : List Construct) (r : Role) (n : ℕ) (q : Part) → IsIn q (parts p r n) → q.number < n → Reached p here x (within cs q.around) q.role q.number → Reached p here x cs r n
one_step p here x cs r n q at below (path, ds, s, m, leads, h) = (q ∷ path, ds, s, m, (at, below, leads), h)

from_found : {A : Type 0} (p : Program) (here : Finds A) (x : A) (cs : List Construct) (r : Role) (n : ℕ) (f : Part → List A) → ((q : Part) → IsIn x (f q) → Reached p here x (within cs q.around) q.role q.number) → FoundAt x f (parts p r n) n → Reached p here x cs r n
from_found p here x cs r n f deeper (q, at, below, h) = one_step p here x cs r n q at below (deeper q h)

at_or_below : {A : Type 0} (p : Program) (here : Finds A) (x : A) (cs : List Construct) (r : Role) (n : ℕ) → IsIn x (here cs r n) ⊎ Reached p here x cs r n → Reached p here x cs r n
at_or_below p here x cs r n (inl h) = ([], cs, r, n, (refl, refl, refl), h)
at_or_below p here x cs r n (inr h) = h

pub reached : {A : Type 0} (p : Program) (here : Finds A) (x : A) (levels : ℕ) (cs : List Construct) (r : Role) (n : ℕ) → IsIn x (walk p here levels cs r n) → Reached p here x cs r n
unfolding walk
reached p here x zero cs r n h = absurd h
reached p here x (suc levels) cs r n h =
    at_or_below p here x cs r n
    (on_right (λ below. from_found p here x cs r n (from_part p here levels cs) (λ q found. reached p here x levels (within cs q.around) q.role q.number found) (found_at x (from_part p here levels cs) (parts p r n) n below))
    (in_either x (here cs r n) (flat_map (from_part p here levels cs) (smaller_parts p r n)) h))

none_below : (n : ℕ) → n < 0 → ⊥
none_below n h = omega arith

here_or_there : {A : Type 0} (here : Finds A) (x : A) (cs ds : List Construct) (r s : Role) (n m : ℕ) → cs ≡ ds → r ≡ s → n ≡ m → IsIn x (here ds s m) → IsIn x (here cs r n)
here_or_there here x cs ds r s n m c k e h = subst (λ es. IsIn x (here es r n)) (sym c) (subst (λ t. IsIn x (here ds t n)) (sym k) (subst (λ o. IsIn x (here ds s o)) (sym e) h))

pub walked : {A : Type 0} (p : Program) (here : Finds A) (x : A) (path : List Part) (levels : ℕ) (cs ds : List Construct) (r s : Role) (n m : ℕ) → n < levels → Leads p cs r n path ds s m → IsIn x (here ds s m) → IsIn x (walk p here levels cs r n)
unfolding walk
walked p here x path zero cs ds r s n m l leads h = absurd (none_below n l)
walked p here x [] (suc levels) cs ds r s n m l (c, k, e) h = in_left x (here cs r n) (flat_map (from_part p here levels cs) (smaller_parts p r n)) (here_or_there here x cs ds r s n m c k e h)
walked p here x (q ∷ path) (suc levels) cs ds r s n m l (at, below, leads) h =
    in_right x (here cs r n) (flat_map (from_part p here levels cs) (smaller_parts p r n))
    (in_parts x (from_part p here levels cs) q (parts p r n) n at below (walked p here x path levels (within cs q.around) ds q.role s q.number m (omega arith) leads h))

-- ---- the script

stands : {A : Type 0} (p : Program) (here : Finds A) (x : A) → Reached p here x [] role.Whole p.root → IsFound p here x
stands p here x (path, ds, s, m, leads, h) = (ds, s, m, (path, leads), h)

pub found_stands : {A : Type 0} (p : Program) (here : Finds A) (x : A) → IsIn x (found_in p here) → IsFound p here x
found_stands p here x h = stands p here x (reached p here x (suc p.root) [] role.Whole p.root h)

pub standing_found : {A : Type 0} (p : Program) (here : Finds A) (x : A) → IsFound p here x → IsIn x (found_in p here)
standing_found p here x (cs, r, n, (path, leads), h) = walked p here x path (suc p.root) [] cs role.Whole r p.root n (omega arith) leads h
