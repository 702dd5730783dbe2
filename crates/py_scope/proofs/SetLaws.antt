-- Sets of names, and one set for each function.
use Rattle.std.proofs.Common.{◌≡◌, ◌∙◌, sym, ap, refl, ℕ, zero, suc, ◌+◌, ◌<◌, ◌≤◌, ◌==◌, Bool, true, false, ◌||◌, List, [], ◌∷◌, ◌++◌, map, filter, take, get_or, length, slice_get, Option, Some, None, option_map, Bor, arith, set, length-set, true≢false}
use Rattle.std.specs.Prelude.{if◌then◌else◌}
use Rattle.std.specs.List.{list_any}
use Rattle.std.specs.Str.{bytes_eq}
use Rattle.std.proofs.lemmas.Grind.{take_at_read, fold-append}
use Rattle.std.proofs.lemmas.List.{map-append}
use Rattle.std.proofs.lemmas.Bool.{eqb-true, eq-eqb}
use Rattle.std.proofs.lemmas.Option.{slice_get_past}
use Rattle.std.specs.Cmp.Lexicographic.{bytes_decides}
use Rattle.std.proofs.lemmas.List.Elements.{filter-append}
use Rattle.indexmap.specs.IndexSet.{insert_key}
use Rattle.py_mentions.specs.declared.mention.Mention.{Mention}
use Rattle.py_scope.specs.Names.{with_name, once, names_where, Sets, added_if, Added, Each}

-- ---- one set

any_text : (n : List ℕ) (ks : List (Bor (List ℕ))) → list_any (λ k. bytes_eq n k.now) ks ≡ list_any (bytes_eq n) (map (λ k. k.now) ks)
any_text n [] = refl
any_text n (k ∷ ks) = ap (λ b. bytes_eq n k.now || b) (any_text n ks)

pub added_key : (ks : List (Bor (List ℕ))) (k : Bor (List ℕ)) → map (λ j. j.now) (insert_key (λ x y. bytes_eq x.now y.now) ks k) ≡ with_name (map (λ j. j.now) ks) k.now
added_key ks k =
    by (list_any (λ j. bytes_eq k.now j.now) ks)
    ∙ ap (λ b. if b then map (λ j. j.now) ks else map (λ j. j.now) ks ++ k.now ∷ []) (any_text k.now ks)
  where
    by : (b : Bool) → map (λ j. j.now) (if b then ks else ks ++ k ∷ []) ≡ (if b then map (λ j. j.now) ks else map (λ j. j.now) ks ++ k.now ∷ [])
    by true = refl
    by false = map-append (λ (j : Bor (List ℕ)). j.now) ks (k ∷ [])

-- ---- one mention more

module _ (p : Mention → Bool) where
  last : (some : List Mention) (m : Mention) → names_where p (some ++ m ∷ []) ≡ added_if (p m) m.name (names_where p some)
  unfolding names_where
  last some m = ap (λ ms. once (map (λ m. m.name) ms)) (filter-append p some (m ∷ [])) ∙ by (p m)
    where
      by : (b : Bool) → once (map (λ m. m.name) (filter p some ++ (if b then m ∷ [] else []))) ≡ added_if b m.name (once (map (λ m. m.name) (filter p some)))
      by true = ap once (map-append (λ (m : Mention). m.name) (filter p some) (m ∷ [])) ∙ fold-append with_name [] (map (λ m. m.name) (filter p some)) (m.name ∷ [])
      by false = ap once (map-append (λ (m : Mention). m.name) (filter p some) []) ∙ fold-append with_name [] (map (λ m. m.name) (filter p some)) []

  pub names_more : (ms : List Mention) (i : ℕ) (m d : Mention) → i < length ms → get_or ms i d ≡ m → names_where p (take (i + 1) ms) ≡ added_if (p m) m.name (names_where p (take i ms))
  names_more ms i m d within at = ap (names_where p) ((take_at_read ms i d within).1 ∙ ap (λ x. take i ms ++ x ∷ []) at) ∙ last (take i ms) m

  pub names_none : names_where p [] ≡ []
  unfolding names_where
  names_none = refl

-- ---- many sets

pub each_start : (count : ℕ) (p : ℕ → Mention → Bool) (sets : Sets) → Each count (λ g. []) sets → Each count (λ g. names_where (p g) []) sets
each_start count p sets h = (h.0, λ g s at. h.1 g s at ∙ sym (names_none (p g)))

pub each_more : (count : ℕ) (p : ℕ → Mention → Bool) (ms : List Mention) (i : ℕ) (m d : Mention) (old new : Sets) → i < length ms → get_or ms i d ≡ m
    → Each count (λ g. names_where (p g) (take i ms)) old → Added (λ g. p g m) m.name old new → Each count (λ g. names_where (p g) (take (i + 1) ms)) new
each_more count p ms i m d old new within at each added =
    (added.0 ∙ each.0, λ g s is. by g s (slice_get old g) refl (sym (added.1 g) ∙ is))
  where
    by : (g : ℕ) (s : List (List ℕ)) (o : Option (List (List ℕ))) → slice_get old g ≡ o → option_map (added_if (p g m) m.name) (slice_get old g) ≡ Some s → s ≡ names_where (p g) (take (i + 1) ms)
    by g s None e is = let no : None ≡ Some s = sym (ap (option_map (added_if (p g m) m.name)) e) ∙ is in cc
    by g s (Some t) e is =
        let now : Some (added_if (p g m) m.name t) ≡ Some s = sym (ap (option_map (added_if (p g m) m.name)) e) ∙ is in
        let same : added_if (p g m) m.name t ≡ s = cc in
        sym same ∙ ap (added_if (p g m) m.name) (each.1 g t e) ∙ sym (names_more (p g) ms i m d within at)

-- ---- a set among many

at_same : {X : Type 0} (xs : List X) (i : ℕ) (y : X) → i < length xs → slice_get (set xs i y) i ≡ Some y
at_same [] i y h = absurd (omega arith)
at_same (x ∷ xs) zero y h = refl
at_same (x ∷ xs) (suc i) y h = let within : i < length xs = omega arith in at_same xs i y within

at_other : {X : Type 0} (xs : List X) (i : ℕ) (y : X) (g : ℕ) → (i ≡ g → ⊥) → slice_get (set xs i y) g ≡ slice_get xs g
at_other [] i y g ne = refl
at_other (x ∷ xs) zero y zero ne = absurd (ne refl)
at_other (x ∷ xs) zero y (suc g) ne = refl
at_other (x ∷ xs) (suc i) y zero ne = refl
at_other (x ∷ xs) (suc i) y (suc g) ne = at_other xs i y g (λ e. ne (ap (λ k. suc k) e))

pub kept : (n : List ℕ) (o : Option (List (List ℕ))) → option_map (added_if false n) o ≡ o
kept n None = refl
kept n (Some s) = refl

pub added_at : (old new : Sets) (f : ℕ) (n : List ℕ) (s t : List (List ℕ)) → f < length old → slice_get old f ≡ Some s → t ≡ with_name s n → new ≡ set old f t → Added (λ g. f == g) n old new
added_at old new f n s t within at is now = (ap (λ (xs : Sets). length xs) now ∙ length-set old f t, λ g. ap (λ (xs : Sets). slice_get xs g) now ∙ by (f == g) g refl)
  where
    by : (b : Bool) (g : ℕ) → f == g ≡ b → slice_get (set old f t) g ≡ option_map (added_if b n) (slice_get old g)
    by true g e =
        let same : f ≡ g = eqb-true f g e in
        sym (ap (slice_get (set old f t)) same) ∙ at_same old f t within ∙ ap Some is ∙ ap (option_map (added_if true n)) (sym (sym (ap (slice_get old) same) ∙ at))
    by false g e = at_other old f t g (λ is_same. true≢false (sym (eq-eqb f g is_same) ∙ e)) ∙ sym (kept n (slice_get old g))

pub added_past : (old : Sets) (f : ℕ) (n : List ℕ) → length old ≤ f → Added (λ g. f == g) n old old
added_past old f n past = (refl, λ g. by (f == g) g refl)
  where
    by : (b : Bool) (g : ℕ) → f == g ≡ b → slice_get old g ≡ option_map (added_if b n) (slice_get old g)
    by true g e =
        let same : f ≡ g = eqb-true f g e in
        let none : slice_get old g ≡ None = slice_get_past old g (omega (arith, same)) in
        none ∙ ap (option_map (added_if true n)) (sym none)
    by false g e = sym (kept n (slice_get old g))

pub added_nowhere : (p : ℕ → Bool) (n : List ℕ) (old : Sets) → ((g : ℕ) → p g ≡ false) → Added p n old old
added_nowhere p n old never = (refl, λ g. sym (kept n (slice_get old g)) ∙ ap (λ b. option_map (added_if b n) (slice_get old g)) (sym (never g)))

-- the test may be written otherwise
pub added_same : (p q : ℕ → Bool) (n : List ℕ) (old new : Sets) → ((g : ℕ) → q g ≡ p g) → Added q n old new → Added p n old new
added_same p q n old new same h = (h.0, λ g. h.1 g ∙ ap (λ b. option_map (added_if b n) (slice_get old g)) (same g))

itself : (n : List ℕ) → bytes_eq n n ≡ true
itself n = (bytes_decides n n).1 refl

has_it : (s : List (List ℕ)) (n : List ℕ) → list_any (bytes_eq n) (s ++ n ∷ []) ≡ true
has_it [] n = ap (λ b. b || false) (itself n)
has_it (t ∷ s) n = ap (λ b. bytes_eq n t || b) (has_it s n) ∙ or_true (bytes_eq n t)
  where
    or_true : (b : Bool) → b || true ≡ true
    or_true true = refl
    or_true false = refl

-- a name that is added twice is there once
twice : (s : List (List ℕ)) (n : List ℕ) → with_name (with_name s n) n ≡ with_name s n
twice s n = by (list_any (bytes_eq n) s) refl
  where
    by : (b : Bool) → list_any (bytes_eq n) s ≡ b → with_name (if b then s else s ++ n ∷ []) n ≡ (if b then s else s ++ n ∷ [])
    by true e = ap (λ b. if b then s else s ++ n ∷ []) e
    by false e = ap (λ b. if b then s ++ n ∷ [] else (s ++ n ∷ []) ++ n ∷ []) (has_it s n)

both_added : (a b : Bool) (n : List ℕ) (s : List (List ℕ)) → added_if (a || b) n s ≡ added_if b n (added_if a n s)
both_added true true n s = sym (twice s n)
both_added true false n s = refl
both_added false b n s = refl

pub either_added : (a b : Bool) (n : List ℕ) (o p : Option (List (List ℕ))) → p ≡ option_map (added_if a n) o → option_map (added_if (a || b) n) o ≡ option_map (added_if b n) p
either_added a b n o p e = by o ∙ ap (option_map (added_if b n)) (sym e)
  where
    by : (o : Option (List (List ℕ))) → option_map (added_if (a || b) n) o ≡ option_map (added_if b n) (option_map (added_if a n) o)
    by None = refl
    by (Some s) = ap Some (both_added a b n s)
