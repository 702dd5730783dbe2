-- From a function outwards, one function after another.
use Rattle.std.proofs.Common.{◌≡◌, ◌∙◌, sym, ap, refl, ℕ, zero, suc, ◌-◌, ◌+◌, ◌<◌, ◌≤◌, Bool, true, false, ◌&&◌, ◌==◌, List, [], ◌∷◌, Option, Some, None, arith}
use Rattle.std.specs.Prelude.{if◌then◌else◌}
use Rattle.py_ast.specs.declared.program.FunctionInfo.{FunctionInfo}
use Rattle.py_mentions.specs.declared.mention.Mention.{Mention}
use Rattle.py_scope.specs.declared.holding.Holding.{Holding}
use Rattle.std.proofs.lemmas.Bool.{eqb-true}
use Rattle.py_scope.specs.Forms.{binds, is_number}
use Rattle.py_scope.specs.Tables.{local_facts}
use Rattle.py_scope.specs.Finished.{is_plain, binds_local}
use Rattle.py_scope.specs.Scopes.{parent_of, outwards, holding_of, decided, is_kept, passing, passes}

module _ (ms : List Mention) (fs : List FunctionInfo) (n : List ℕ) where
  nowhere : (most : ℕ) → is_kept ms (outwards most fs None) n ≡ false
  unfolding outwards is_kept
  nowhere zero = refl
  nowhere (suc most) = refl

  pub kept_none : (o : Option ℕ) (most : ℕ) → o ≡ None → is_kept ms (outwards most fs o) n ≡ false
  kept_none o most e = ap (λ x. is_kept ms (outwards most fs x) n) e ∙ nowhere most

  done : (o : Option ℕ) → is_kept ms (outwards 0 fs o) n ≡ false
  unfolding outwards is_kept
  done o = refl

  pub kept_end : (o : Option ℕ) (len i : ℕ) → len ≤ i → is_kept ms (outwards (len - i) fs o) n ≡ false
  kept_end o len i h =
      let past : len - i ≡ 0 = omega arith in
      ap (λ k. is_kept ms (outwards k fs o) n) past ∙ done o

  here : (most f : ℕ) → is_kept ms (outwards (suc most) fs (Some f)) n ≡ decided (holding_of ms f n) (is_kept ms (outwards most fs (parent_of fs f)) n)
  unfolding outwards is_kept
  here most f = refl

  pub kept_step : (o : Option ℕ) (f len i : ℕ) (h : Holding) → o ≡ Some f → i < len → h ≡ holding_of ms f n
      → is_kept ms (outwards (len - i) fs o) n ≡ decided h (is_kept ms (outwards (len - (i + 1)) fs (parent_of fs f)) n)
  kept_step o f len i h is within holds =
      let one_less : len - i ≡ suc (len - (i + 1)) = omega arith in
      (λ j. is_kept ms (outwards (one_less j) fs (is j)) n) ∙ here (len - (i + 1)) f
      ∙ ap (λ x. decided x (is_kept ms (outwards (len - (i + 1)) fs (parent_of fs f)) n)) (sym holds)

  pub kept_start : (o : Option ℕ) (len : ℕ) → is_kept ms (outwards len fs o) n ≡ is_kept ms (outwards (len - 0) fs o) n
  kept_start o len = let same : len ≡ len - 0 = omega arith in ap (λ k. is_kept ms (outwards k fs o) n) same

  -- ---- the functions that pass a name on

  no_one : (most : ℕ) → passing ms (outwards most fs None) n ≡ []
  unfolding outwards passing
  no_one zero = refl
  no_one (suc most) = refl

  pub pass_none : (o : Option ℕ) (most : ℕ) → o ≡ None → passing ms (outwards most fs o) n ≡ []
  pass_none o most e = ap (λ x. passing ms (outwards most fs x) n) e ∙ no_one most

  pass_done : (o : Option ℕ) → passing ms (outwards 0 fs o) n ≡ []
  unfolding outwards passing
  pass_done o = refl

  pub pass_end : (o : Option ℕ) (len i : ℕ) → len ≤ i → passing ms (outwards (len - i) fs o) n ≡ []
  pass_end o len i h =
      let past : len - i ≡ 0 = omega arith in
      ap (λ k. passing ms (outwards k fs o) n) past ∙ pass_done o

  pass_here : (most f : ℕ) → passing ms (outwards (suc most) fs (Some f)) n ≡ (if passes (holding_of ms f n) then f ∷ passing ms (outwards most fs (parent_of fs f)) n else [])
  unfolding outwards passing
  pass_here most f = refl

  pub pass_step : (o : Option ℕ) (f len i : ℕ) (b : Bool) → o ≡ Some f → i < len → b ≡ passes (holding_of ms f n)
      → passing ms (outwards (len - i) fs o) n ≡ (if b then f ∷ passing ms (outwards (len - (i + 1)) fs (parent_of fs f)) n else [])
  pass_step o f len i b is within holds =
      let one_less : len - i ≡ suc (len - (i + 1)) = omega arith in
      (λ j. passing ms (outwards (one_less j) fs (is j)) n) ∙ pass_here (len - (i + 1)) f
      ∙ ap (λ x. if x then f ∷ passing ms (outwards (len - (i + 1)) fs (parent_of fs f)) n else []) (sym holds)

  pub pass_start : (o : Option ℕ) (len : ℕ) → passing ms (outwards len fs o) n ≡ passing ms (outwards (len - 0) fs o) n
  pass_start o len = let same : len ≡ len - 0 = omega arith in ap (λ k. passing ms (outwards k fs o) n) same

-- ---- which functions a mention concerns

pub local_test : (ms : List Mention) (m : Mention) (f : ℕ) (a b : Bool) → m.function ≡ Some f → a ≡ binds m.form → b ≡ is_plain (local_facts ms f m.name) → a ≡ true → b ≡ true
    → (g : ℕ) → f == g ≡ binds_local ms g m
local_test ms m f a b at bound plain h k g = by (f == g) refl ∙ ap (λ o. is_number g o && (binds m.form && is_plain (local_facts ms g m.name))) (sym at)
  where
    by : (x : Bool) → f == g ≡ x → x ≡ x && (binds m.form && is_plain (local_facts ms g m.name))
    by false e = refl
    by true e =
        let same : f ≡ g = eqb-true f g e in
        let plain_here : is_plain (local_facts ms f m.name) ≡ is_plain (local_facts ms g m.name) = ap (λ k. is_plain (local_facts ms k m.name)) same in
        (λ j. (sym h ∙ bound) j && (sym k ∙ plain ∙ plain_here) j)

pub free_test : (a b c x y : Bool) → a ≡ c → b ≡ y → a ≡ true → b ≡ true → x ≡ (c && y) && x
free_test a b c x y e f h k = (λ j. ((sym h ∙ e) j && (sym k ∙ f) j) && x)
