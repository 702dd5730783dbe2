-- Nothing precedes the worst of some refusals, which is one of them.
use Rattle.std.proofs.Common.{◌≡◌, ◌⊎◌, refl, sym, subst, inl, inr, ℕ, Bool, true, false, ◌==◌, ◌&&◌, ◌||◌, nat_lt, List, [], ◌∷◌, Some, None, arith}
use Rattle.std.specs.Prelude.{if◌then◌else◌}
use Rattle.rp_base.specs.declared.rules.Refused.{Refused}
use Rattle.py_mentions.specs.Worst.{IsIn, IsWorst, precedes, rank, worse, worst, worst_with}

-- ---- the order, on lines a, b, c and ranks i, j, k

abbrev before : ℕ → ℕ → ℕ → ℕ → Bool
before a i b j = nat_lt a b || ((a == b) && nat_lt i j)

not_before_itself : (a i : ℕ) → before a i a i ≡ false
not_before_itself a i = grind arith

not_before_less : (a i b j c k : ℕ) → before a i b j ≡ true → before a i c k ≡ false → before b j c k ≡ false
not_before_less a i b j c k h l = grind arith

not_before_either : (a i b j c k : ℕ) → before a i b j ≡ false → before b j c k ≡ false → before a i c k ≡ false
not_before_either a i b j c k h l = grind arith

-- ---- the worst of v and these

record IsLeast (v : Refused) (rs : List Refused) (w : Refused) : Type 0 where
  one : (w ≡ v) ⊎ IsIn w rs
  first : precedes v w ≡ false
  rest : (r : Refused) → IsIn r rs → precedes r w ≡ false

behind : (v r w : Refused) (rs : List Refused) → (w ≡ r) ⊎ IsIn w rs → (w ≡ v) ⊎ IsIn w (r ∷ rs)
behind v r w rs h = inr h

past : (v r w : Refused) (rs : List Refused) → (w ≡ v) ⊎ IsIn w rs → (w ≡ v) ⊎ IsIn w (r ∷ rs)
past v r w rs (inl h) = inl h
past v r w rs (inr h) = inr (inr h)

each : (r w : Refused) (rs : List Refused) → precedes r w ≡ false → ((s : Refused) → IsIn s rs → precedes s w ≡ false) → (s : Refused) → IsIn s (r ∷ rs) → precedes s w ≡ false
each r w rs h rest s (inl same) = subst (λ (t : Refused). precedes t w ≡ false) (sym same) h
each r w rs h rest s (inr at) = rest s at

chosen : (v r w : Refused) (rs : List Refused) (b : Bool) → precedes r v ≡ b → IsLeast (if b then r else v) rs w → IsLeast v (r ∷ rs) w
chosen v r w rs true is l = record {
  one = behind v r w rs l.one;
  first = not_before_less r.line (rank r.rule) v.line (rank v.rule) w.line (rank w.rule) is l.first;
  rest = each r w rs l.first l.rest;
}
chosen v r w rs false is l = record {
  one = past v r w rs l.one;
  first = l.first;
  rest = each r w rs (not_before_either r.line (rank r.rule) v.line (rank v.rule) w.line (rank w.rule) is l.first) l.rest;
}

same_some : (v w : Refused) → Some v ≡ Some w → w ≡ v
same_some v w e = cc

least : (v : Refused) (rs : List Refused) (w : Refused) → worst_with (Some v) rs ≡ Some w → IsLeast v rs w
least v [] w e =
    let same : w ≡ v = same_some v w e in
    record {
      one = inl same;
      first = subst (λ (t : Refused). precedes v t ≡ false) (sym same) (not_before_itself v.line (rank v.rule));
      rest = λ r at. absurd at;
    }
least v (r ∷ rs) w e = chosen v r w rs (precedes r v) refl (least (worse (Some v) r) rs w e)

pub is_worst : (rs : List Refused) (w : Refused) → worst rs ≡ Some w → IsWorst rs w
is_worst [] w e = absurd cc
is_worst (r ∷ rs) w e =
    let l : IsLeast r rs w = least r rs w e in
    record { one = l.one; first = each r w rs l.first l.rest }

some_stays : (v : Refused) (rs : List Refused) → worst_with (Some v) rs ≡ None → ⊥
some_stays v [] e = absurd cc
some_stays v (r ∷ rs) e = some_stays (worse (Some v) r) rs e

pub no_worst : (rs : List Refused) → worst rs ≡ None → rs ≡ []
no_worst [] e = refl
no_worst (r ∷ rs) e = absurd (some_stays r rs e)
