-- Of some refusals one is the worst.
use Rattle.std.proofs.Common.{◌≡◌, ◌∙◌, sym, ap, refl, ℕ, Bool, false, ◌==◌, ◌&&◌, ◌||◌, nat_lt, List, [], ◌∷◌, Some, slice_get, arith}
use Rattle.rp_base.specs.declared.rules.Rule.{Rule}
use Rattle.rp_base.specs.declared.rules.Rule.TheVariants as rule
use Rattle.rp_base.specs.declared.rules.Refused.{Refused}
use Rattle.py_mentions.specs.Worst.{rank, IsWorst}

abbrev before : ℕ → ℕ → ℕ → ℕ → Bool
before l k m n = nat_lt l m || ((l == m) && nat_lt k n)

alike : (l k m n : ℕ) → before l k m n ≡ false → before m n l k ≡ false → (l ≡ m) × (k ≡ n)
alike l k m n h j = (grind arith, grind arith)

abbrev rules : List Rule
rules = rule.L1 ∷ rule.L1 ∷ rule.L2 ∷ rule.L3 ∷ rule.L4 ∷ rule.L5 ∷ rule.L6 ∷ rule.P1 ∷ rule.P2 ∷ rule.P3 ∷ rule.P4 ∷ rule.S1 ∷ rule.S2 ∷ rule.S3 ∷ rule.S4 ∷ rule.S5 ∷ rule.S6 ∷ rule.S7 ∷ rule.S8 ∷ rule.S9 ∷ rule.S10 ∷ rule.S11 ∷ rule.S12 ∷ rule.NotYet ∷ []

ranked : (r : Rule) → slice_get rules (rank r) ≡ Some r
ranked rule.L1 = refl
ranked rule.L2 = refl
ranked rule.L3 = refl
ranked rule.L4 = refl
ranked rule.L5 = refl
ranked rule.L6 = refl
ranked rule.P1 = refl
ranked rule.P2 = refl
ranked rule.P3 = refl
ranked rule.P4 = refl
ranked rule.S1 = refl
ranked rule.S2 = refl
ranked rule.S3 = refl
ranked rule.S4 = refl
ranked rule.S5 = refl
ranked rule.S6 = refl
ranked rule.S7 = refl
ranked rule.S8 = refl
ranked rule.S9 = refl
ranked rule.S10 = refl
ranked rule.S11 = refl
ranked rule.S12 = refl
ranked rule.NotYet = refl

same_rank : (a b : Rule) → rank a ≡ rank b → a ≡ b
same_rank a b e =
    let both : Some a ≡ Some b = sym (ranked a) ∙ ap (slice_get rules) e ∙ ranked b in
    cc

pub one_worst : (rs : List Refused) (a b : Refused) → IsWorst rs a → IsWorst rs b → a ≡ b
one_worst rs a b this other =
    let both = alike a.line (rank a.rule) b.line (rank b.rule) (other.first a this.one) (this.first b other.one) in
    let same = same_rank a.rule b.rule both.1 in
    λ j. record { line = both.0 j; rule = same j }
