-- Reading under other limits tells which rule a refused token breaks.
use Rattle.std.proofs.Common.{◌≡◌, ◌∙◌, sym, refl, ap, subst, ℕ, zero, suc, ◌<◌, ◌≤◌, Bool, true, false, List, [], ◌∷◌, ◌++◌, append_assoc, append-nil, arith, ltb-true, ltb-false, not-suc-le-zero, le_of_suc-le-suc}
use Rattle.py_grammar.specs.declared.symbol.Limits.{Limits}
use Rattle.py_grammar.specs.declared.symbol.Symbol.{Symbol}
use Rattle.py_grammar.specs.Building.{Lexeme, Builder}
use Rattle.py_grammar.specs.Deriving.{Derives, CanBegin}
use Rattle.py_grammar.specs.Reading.{in_reach, Outcome, Done, Stuck, run}
use Rattle.py_grammar.specs.Refusals.{leading, IsAt, any_depth, unlimited, belongs_to_left_out, Breaks, IsRefused, passed, rule_of}
use Rattle.py_grammar.proofs.SetLaws.{no}
use Rattle.py_grammar.proofs.TakenLaws.{done-derives}
use Rattle.py_grammar.proofs.ExactLaws.{Good}
use Rattle.py_grammar.proofs.RefusalLaws.{stuck-fits, stuck-stops, nowhere}

-- ---- places

front-of : (n : ℕ) (ts : List Lexeme) (u : Lexeme) → IsAt n ts u → leading n ts ++ (u ∷ []) ≡ leading (suc n) ts
front-of n [] u i = absurd (nowhere n u i)
front-of zero (v ∷ vs) u i = ap (λ x. x ∷ []) (sym i)
front-of (suc n) (v ∷ vs) u i = ap (λ x. v ∷ x) (front-of n vs u i)

rest-of : (n : ℕ) (ts : List Lexeme) → (rest : List Lexeme) × (leading n ts ++ rest ≡ ts)
rest-of zero ts = (ts, refl)
rest-of (suc n) [] = ([], refl)
rest-of (suc n) (u ∷ us) = let y = rest-of n us in (y.0, ap (λ x. u ∷ x) y.1)

-- a shorter front of a front
front-front : (k n : ℕ) (ts : List Lexeme) → k ≤ n → leading k (leading n ts) ≡ leading k ts
front-front zero n ts h = refl
front-front (suc k) zero ts h = absurd (not-suc-le-zero h)
front-front (suc k) (suc n) [] h = refl
front-front (suc k) (suc n) (u ∷ us) h = ap (λ x. u ∷ x) (front-front k n us (le_of_suc-le-suc h))

at-before : (k n : ℕ) (ts : List Lexeme) (u : Lexeme) → k ≤ n → IsAt n ts u → (v : Lexeme) × IsAt k ts v
at-before k n [] u h i = absurd (nowhere n u i)
at-before zero n (v ∷ vs) u h i = (v, refl)
at-before (suc k) zero (v ∷ vs) u h i = absurd (not-suc-le-zero h)
at-before (suc k) (suc n) (v ∷ vs) u h i = at-before k n vs u (le_of_suc-le-suc h) i

-- a front of what can begin a text can begin one
shorter : (B : Type 0) (m : Builder B) (lim : Limits) (ss : List Symbol) (b : B) (ts rest : List Lexeme) → CanBegin B m lim ss b (ts ++ rest) → CanBegin B m lim ss b ts
shorter B m lim ss b ts rest c = (rest ++ c.0, c.1, subst (λ x. Derives B m lim ss b x c.1) (append_assoc ts rest c.0) c.2)

fronts-begin : (B : Type 0) (m : Builder B) (lim : Limits) (ss : List Symbol) (b : B) (ts : List Lexeme) (k n : ℕ) → k ≤ n → CanBegin B m lim ss b (leading n ts) → CanBegin B m lim ss b (leading k ts)
fronts-begin B m lim ss b ts k n h c =
    let y = rest-of k (leading n ts) in
    let z = shorter B m lim ss b (leading k (leading n ts)) y.0 (subst (λ x. CanBegin B m lim ss b x) (sym y.1) c) in
    subst (λ x. CanBegin B m lim ss b x) (front-front k n ts h) z

module _ (B : Type 0) (m : Builder B) (lim : Limits) (ss : List Symbol) (b : B) (ts : List Lexeme) (n : ℕ) (u : Lexeme) where
  pub passed-of : (o : Outcome B) → in_reach lim ss ≡ true → run B m lim ss b ts ≡ o → IsAt n ts u → passed B n o ≡ true → CanBegin B m lim ss b (leading n ts ++ (u ∷ []))
  passed-of (Done out) r e i h =
      let y = rest-of (suc n) ts in
      let whole : CanBegin B m lim ss b (leading (suc n) ts ++ y.0) = ([], out, subst (λ x. Derives B m lim ss b x out) (sym (append-nil (leading (suc n) ts ++ y.0) ∙ y.1)) (done-derives B m lim ts ss b out e)) in
      subst (λ x. CanBegin B m lim ss b x) (sym (front-of n ts u i)) (shorter B m lim ss b (leading (suc n) ts) y.0 whole)
  passed-of (Stuck k) r e i h =
      subst (λ x. CanBegin B m lim ss b x) (sym (front-of n ts u i)) (fronts-begin B m lim ss b ts (suc n) k (let lt : n < k = ltb-true n k h in omega (arith)) (stuck-fits B m lim ts ss b k r e))

  stopped-of : (o : Outcome B) → Good ss → run B m lim ss b ts ≡ o → IsAt n ts u → passed B n o ≡ false → CanBegin B m lim ss b (leading n ts ++ (u ∷ [])) → ⊥
  stopped-of (Done out) g e i h c = no (sym h)
  stopped-of (Stuck k) g e i h c =
      let le : k ≤ n = ltb-false n k h in
      let v = at-before k n ts u le i in
      let long : CanBegin B m lim ss b (leading (suc n) ts) = subst (λ x. CanBegin B m lim ss b x) (front-of n ts u i) c in
      stuck-stops B m lim ts ss b k v.0 g e v.1
      (subst (λ x. CanBegin B m lim ss b x) (sym (front-of k ts v.0 v.1)) (fronts-begin B m lim ss b ts (suc k) (suc n) (omega arith) long))

module _ (B : Type 0) (m : Builder B) (lim : Limits) (ss : List Symbol) (b : B) (ts : List Lexeme) (n : ℕ) (u : Lexeme) where
  breaks-of : (x y z : Bool) → Good ss → in_reach (any_depth lim) ss ≡ true → in_reach unlimited ss ≡ true → IsAt n ts u
      → passed B n (run B m (any_depth lim) ss b ts) ≡ x → passed B n (run B m unlimited ss b ts) ≡ y → belongs_to_left_out (leading n ts) u ≡ z → Breaks B m lim ss b (leading n ts) u (rule_of x y z)
  breaks-of true y z g r s i h j k = passed-of B m (any_depth lim) ss b ts n u (run B m (any_depth lim) ss b ts) r refl i h
  breaks-of false true z g r s i h j k =
      (stopped-of B m (any_depth lim) ss b ts n u (run B m (any_depth lim) ss b ts) g refl i h, passed-of B m unlimited ss b ts n u (run B m unlimited ss b ts) s refl i j)
  breaks-of false false true g r s i h j k =
      (stopped-of B m (any_depth lim) ss b ts n u (run B m (any_depth lim) ss b ts) g refl i h, stopped-of B m unlimited ss b ts n u (run B m unlimited ss b ts) g refl i j, k)
  breaks-of false false false g r s i h j k =
      (stopped-of B m (any_depth lim) ss b ts n u (run B m (any_depth lim) ss b ts) g refl i h, stopped-of B m unlimited ss b ts n u (run B m unlimited ss b ts) g refl i j, k)

  -- the rule that the readings under other limits give is the one that the token breaks
  pub is-refused : Good ss → in_reach lim ss ≡ true → in_reach (any_depth lim) ss ≡ true → in_reach unlimited ss ≡ true → run B m lim ss b ts ≡ Stuck n → IsAt n ts u
      → IsRefused B m lim ss b ts n u (rule_of (passed B n (run B m (any_depth lim) ss b ts)) (passed B n (run B m unlimited ss b ts)) (belongs_to_left_out (leading n ts) u))
  is-refused g q r s e i = (
    i,
    stuck-fits B m lim ts ss b n q e,
    stuck-stops B m lim ts ss b n u g e i,
    breaks-of (passed B n (run B m (any_depth lim) ss b ts)) (passed B n (run B m unlimited ss b ts)) (belongs_to_left_out (leading n ts) u) g r s i refl refl refl,
  )
