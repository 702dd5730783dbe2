-- Names by their places.
use Rattle.std.proofs.Common.{◌≡◌, ℕ, suc, ◌+◌, ◌<◌, Bool, true, false, not, cond, List, [], ◌∷◌, ◌++◌, length, Option, Some, None, option_map, slice_get, slice_set, remove, position, nat_lt, refl, sym, ◌∙◌, ap, subst, arith}
use Rattle.std.proofs.lemmas.Bool.{lt-ltb}
use Rattle.std.specs.Cmp.Lexicographic.{bytes_decides}
use Rattle.std.specs.List.{prefix_len}
use Rattle.std.specs.Str.{bytes_eq}
use Rattle.rp_base.specs.declared.value.Value.{Value}
use Rattle.py_store.specs.declared.cell.Binding.{Binding}
use Rattle.py_store.specs.Bindings.{binding_place, bound_value, with_binding, without_binding}

later_place : (n m : ℕ) → cond (nat_lt (1 + n) (suc m)) (Some (1 + n)) None ≡ option_map suc (cond (nat_lt n m) (Some n) None)
later_place n m =
    let next : 1 + n ≡ suc n = omega arith in
    let e : nat_lt (suc n) (suc m) ≡ nat_lt n m = grind arith in
    ap (λ k. cond (nat_lt k (suc m)) (Some k) None) next ∙ ap (λ b. cond b (Some (suc n)) None) e ∙ split (nat_lt n m)
  where
    split : (b : Bool) → cond b (Some (suc n)) None ≡ option_map suc (cond b (Some n) None)
    split true = refl
    split false = refl

place_first : {X : Type 0} (b : Bool) (n : ℕ) (xs : List X) → cond (nat_lt (cond (not b) (1 + n) 0) (suc (length xs))) (Some (cond (not b) (1 + n) 0)) None ≡ cond b (Some 0) (option_map suc (cond (nat_lt n (length xs)) (Some n) None))
place_first true n xs =
    let some : 0 < suc (length xs) = omega arith in
    ap (λ b. cond b (Some 0) None) (lt-ltb 0 (suc (length xs)) some)
place_first false n xs = later_place n (length xs)

-- the place in a longer list
place_in : {X : Type 0} (p : X → Bool) (x : X) (xs : List X) → position p (x ∷ xs) ≡ cond (p x) (Some 0) (option_map suc (position p xs))
place_in p x xs = place_first (p x) (prefix_len (λ y. not (p y)) xs) xs

-- what is at the place of a name, and what becomes of the names by it
pub record IsAt (name : List ℕ) (bs : List Binding) (at : ℕ) : Type 0 where
  pub bound : bound_value name bs ≡ option_map (λ b. b.value) (slice_get bs at)
  pub without : without_binding name bs ≡ remove bs at
  pub with : (value : Value) → with_binding name value bs ≡ slice_set bs at (record { name = name; value = value })

first_is : (name : List ℕ) (b : Binding) (bs : List Binding) → bytes_eq name b.name ≡ true → IsAt name (b ∷ bs) 0
first_is name b bs is =
    record {
      bound = ap (λ c. cond c (Some b.value) (bound_value name bs)) is;
      without = ap (λ c. cond c bs (b ∷ without_binding name bs)) is;
      with = λ value. ap (λ c. cond c (record b { value = value } ∷ bs) (b ∷ with_binding name value bs)) is ∙ ap (λ n. record { name = n; value = value } ∷ bs) (sym ((bytes_decides name b.name).0 is));
    }

later_is : (name : List ℕ) (b : Binding) (bs : List Binding) (at : ℕ) → bytes_eq name b.name ≡ false → IsAt name bs at → IsAt name (b ∷ bs) (suc at)
later_is name b bs at is rest =
    record {
      bound = ap (λ c. cond c (Some b.value) (bound_value name bs)) is ∙ rest.bound;
      without = ap (λ c. cond c bs (b ∷ without_binding name bs)) is ∙ ap (λ cs. b ∷ cs) rest.without;
      with = λ value. ap (λ c. cond c (record b { value = value } ∷ bs) (b ∷ with_binding name value bs)) is ∙ ap (λ cs. b ∷ cs) (rest.with value);
    }

is_first : (name : List ℕ) (b : Binding) (bs : List Binding) (c : Bool) (r : Option ℕ) (at : ℕ) → bytes_eq name b.name ≡ c → cond c (Some 0) (option_map suc r) ≡ Some at → ((j : ℕ) → r ≡ Some j → IsAt name bs j) → IsAt name (b ∷ bs) at
is_first name b bs true r at is h later = subst (IsAt name (b ∷ bs)) (the_same h) (first_is name b bs is)
  where
    the_same : Some 0 ≡ Some at → 0 ≡ at
    the_same e = cc
is_first name b bs false None at is h later = cc
is_first name b bs false (Some j) at is h later = subst (IsAt name (b ∷ bs)) (the_same h) (later_is name b bs j is (later j refl))
  where
    the_same : Some (suc j) ≡ Some at → suc j ≡ at
    the_same e = cc

pub name_is_at : (name : List ℕ) (bs : List Binding) (at : ℕ) → binding_place name bs ≡ Some at → IsAt name bs at
name_is_at name [] at h = cc
name_is_at name (b ∷ bs) at h = is_first name b bs (bytes_eq name b.name) (binding_place name bs) at refl (sym (place_in (λ c. bytes_eq name c.name) b bs) ∙ h) (λ j. name_is_at name bs j)

-- what becomes of names among which this one is not
pub record IsMissing (name : List ℕ) (bs : List Binding) : Type 0 where
  pub bound : bound_value name bs ≡ None
  pub without : without_binding name bs ≡ bs
  pub with : (value : Value) → with_binding name value bs ≡ bs ++ record { name = name; value = value } ∷ []

still_missing : (name : List ℕ) (b : Binding) (bs : List Binding) → bytes_eq name b.name ≡ false → IsMissing name bs → IsMissing name (b ∷ bs)
still_missing name b bs is rest =
    record {
      bound = ap (λ c. cond c (Some b.value) (bound_value name bs)) is ∙ rest.bound;
      without = ap (λ c. cond c bs (b ∷ without_binding name bs)) is ∙ ap (λ cs. b ∷ cs) rest.without;
      with = λ value. ap (λ c. cond c (record b { value = value } ∷ bs) (b ∷ with_binding name value bs)) is ∙ ap (λ cs. b ∷ cs) (rest.with value);
    }

is_not_first : (name : List ℕ) (b : Binding) (bs : List Binding) (c : Bool) (r : Option ℕ) → bytes_eq name b.name ≡ c → cond c (Some 0) (option_map suc r) ≡ None → (r ≡ None → IsMissing name bs) → IsMissing name (b ∷ bs)
is_not_first name b bs true r is h later = cc
is_not_first name b bs false None is h later = still_missing name b bs is (later refl)
is_not_first name b bs false (Some j) is h later = cc

pub name_is_missing : (name : List ℕ) (bs : List Binding) → binding_place name bs ≡ None → IsMissing name bs
name_is_missing name [] h = record { bound = refl; without = refl; with = λ value. refl }
name_is_missing name (b ∷ bs) h = is_not_first name b bs (bytes_eq name b.name) (binding_place name bs) refl (sym (place_in (λ c. bytes_eq name c.name) b bs) ∙ h) (name_is_missing name bs)
