-- The worst of several refusals: that of least line, and then of least rule.
use Rattle.std.specs.Prelude.{◌≡◌, ◌⊎◌, false, refl, ◌++◌, ℕ, Bool, ◌==◌, ◌&&◌, ◌||◌, nat_lt, List, [], ◌∷◌, Option, Some, None, if◌then◌else◌}
use Rattle.rp_base.specs.declared.rules.Rule.{Rule}
use Rattle.rp_base.specs.declared.rules.Rule.TheVariants as rule
use Rattle.rp_base.specs.declared.rules.Refused.{Refused}

-- the place of a rule in their order
abbrev pub rank : Rule → ℕ
rank rule.L1 = 1
rank rule.L2 = 2
rank rule.L3 = 3
rank rule.L4 = 4
rank rule.L5 = 5
rank rule.L6 = 6
rank rule.P1 = 7
rank rule.P2 = 8
rank rule.P3 = 9
rank rule.P4 = 10
rank rule.S1 = 11
rank rule.S2 = 12
rank rule.S3 = 13
rank rule.S4 = 14
rank rule.S5 = 15
rank rule.S6 = 16
rank rule.S7 = 17
rank rule.S8 = 18
rank rule.S9 = 19
rank rule.S10 = 20
rank rule.S11 = 21
rank rule.S12 = 22
rank rule.NotYet = 23

abbrev pub precedes : Refused → Refused → Bool
precedes a b = nat_lt a.line b.line || ((a.line == b.line) && nat_lt (rank a.rule) (rank b.rule))

abbrev pub worse : Option Refused → Refused → Refused
worse None r = r
worse (Some w) r = if precedes r w then r else w

-- the worst of one and these
abbrev pub worst_with : Option Refused → List Refused → Option Refused
worst_with w [] = w
worst_with w (r ∷ rs) = worst_with (Some (worse w r)) rs

-- the worst of these
abbrev pub worst : List Refused → Option Refused
worst rs = worst_with None rs

-- the worst of two lists, one after the other
pub worst_more : (w : Option Refused) (rs ss : List Refused) → worst_with w (rs ++ ss) ≡ worst_with (worst_with w rs) ss
worst_more w [] ss = refl
worst_more w (r ∷ rs) ss = worst_more (Some (worse w r)) rs ss

-- ---- the same, said without an order of steps

-- x is one of the list
abbrev pub IsIn : {A : Type 0} → A → List A → Type 0
IsIn x [] = ⊥
IsIn x (y ∷ ys) = (x ≡ y) ⊎ IsIn x ys

-- w is one of these, and none of these precedes it
pub record IsWorst (rs : List Refused) (w : Refused) : Type 0 where
  pub one : IsIn w rs
  pub first : (r : Refused) → IsIn r rs → precedes r w ≡ false
