-- Lengths that a method gave.
use Rattle.std.proofs.Common.{◌≡◌, ◌<◌, ◌≤◌, ℕ, Bool, true, false, ℤ, pos, negsuc, ◌<ℤ◌, ◌≤ℤ◌, nat_lt, List, codes, Some, Result, Ok, Err, IfOk, refl, sym, ◌∙◌, ap, subst, if◌then◌else◌, arith}
use Rattle.std.proofs.lemmas.Int.{ints}
use Rattle.rp_base.specs.declared.exceptions.Beyond.TheVariants as beyond
use Rattle.rp_base.specs.declared.exceptions.ExcKind.TheVariants as exception
use Rattle.side_trees.specs.Trees.{Stop}
use Rattle.language_rules.specs.Going.{RuleTree, fails}
use Rattle.language_rules.specs.Lengths.{on_counted}
use Rattle.eval_frames.specs.declared.next.Next.{Next}
use Rattle.eval_ranges.proofs.SpecialLemmas.{Plainly}

pub negative : (f : ℕ → RuleTree) (z : ℤ) → z <ℤ pos 0 → on_counted f (Some z) ≡ fails exception.ValueError (codes "negative length")
negative f (pos n) h = absurd (omega (arith, ints, h))
negative f (negsuc n) h = refl

too_great : (n : ℕ) → 9223372036854775808 ≤ n → nat_lt n 9223372036854775808 ≡ false
too_great n h = grind arith

fits : (n : ℕ) → n < 9223372036854775808 → nat_lt n 9223372036854775808 ≡ true
fits n h = grind arith

pub too_long : (f : ℕ → RuleTree) (z : ℤ) → pos 9223372036854775808 ≤ℤ z → on_counted f (Some z) ≡ Stop beyond.Int
too_long f (pos n) h = ap (λ (b : Bool). if b then f n else Stop beyond.Int) (too_great n (omega (arith, ints, h)))
too_long f (negsuc n) h = absurd (omega (arith, ints, h))

pub counted : (f : ℕ → RuleTree) (z : ℤ) (next : Next) → pos 0 ≤ℤ z → z <ℤ pos 9223372036854775808 → ((n : ℕ) → z ≡ pos n → Plainly (f n) next) → Plainly (on_counted f (Some z)) next
counted f (pos n) next l b h = subst (λ (t : Bool). Plainly (if t then f n else Stop beyond.Int) next) (sym (fits n (omega (arith, ints, b)))) (h n refl)
counted f (negsuc n) next l b h = absurd (omega (arith, ints, l))
