-- Items of ranges lie between the start and the stop.
use Rattle.std.proofs.Common.{◌≡◌, ℕ, zero, suc, ◌+◌, ◌-◌, ◌*◌, ◌^◌, ◌<◌, ◌≤◌, ℤ, pos, negsuc, ◌+ℤ◌, ◌-ℤ◌, ◌≤ℤ◌, FitsSigned, to_z, of_z, Option, Some, None, option_map, refl, ap, subst, arith}
use Rattle.std.specs.Int.{div_ceil, w128}
use Rattle.std.specs.Option.{SomeIff, IsSome}
use Rattle.std.proofs.lemmas.Grind.{div_ceil_times}
use Rattle.std.proofs.lemmas.Int.{ints, to_z-of_z}
use Rattle.std.proofs.lemmas.Nat.{mul-le}
use Rattle.py_plain.specs.Arithmetic.{count_of}
use Rattle.language_rules.specs.Ranges.{above, range_item, range_length}
use Rattle.language_rules.specs.Items.{item_of_range}
use Rattle.language_rules.specs.TextFunctions.{place_among}
use Rattle.rp_base.specs.declared.plain.Plain.TheVariants as plain
use Rattle.rp_base.specs.declared.value.Value.TheVariants as value

-- fewer steps than begin within the distance do not lead out of it
pub inside : (a w k : ℕ) → k < div_ceil a w → k * w < a
inside a zero k h = grind arith
inside a (suc w) k h =
    let t : div_ceil a (suc w) * suc w < a + suc w = (div_ceil_times a (suc w) (omega arith)).1 in
    let m : (k + 1) * suc w ≤ div_ceil a (suc w) * suc w = mul-le (k + 1) (suc w) (div_ceil a (suc w)) (suc w) (omega (arith, h)) (omega arith) in
    grind arith

below_top : (z : ℤ) (n : ℕ) → z ≤ℤ pos n → count_of z ≤ n
below_top (pos m) n h = omega (arith, ints)
below_top (negsuc m) n h = omega (arith, ints)

pub distance_fits : (high low : ℤ) → FitsSigned w128 high → FitsSigned w128 low → above high low ≤ 2 ^ 128 - 1
distance_fits high low f g = below_top (high -ℤ low) (2 ^ 128 - 1) (omega (arith, ints, f, g))

-- what lies between two numbers that fit
pub between : (z low high : ℤ) → FitsSigned w128 low → FitsSigned w128 high → low ≤ℤ z → z ≤ℤ high → FitsSigned w128 z
between (pos n) low (pos m) f g h k = record { sfits = omega (arith, ints, g.sfits) }
between (pos n) low (negsuc m) f g h k = absurd (omega (arith, ints))
between (negsuc n) (negsuc m) high f g h k = record { sfits = omega (arith, ints, f.sfits) }
between (negsuc n) (pos m) high f g h k = absurd (omega (arith, ints))

up_from : (z start stop : ℤ) (d : ℕ) → z ≡ stop -ℤ start → d < count_of z → (start +ℤ pos d) ≤ℤ stop
up_from (pos n) start stop d e h = omega (arith, ints, e)
up_from (negsuc n) start stop d e h = absurd (omega (arith, h))

down_from : (z start stop : ℤ) (d : ℕ) → z ≡ start -ℤ stop → d < count_of z → stop ≤ℤ (start -ℤ pos d)
down_from (pos n) start stop d e h = omega (arith, ints, e)
down_from (negsuc n) start stop d e h = absurd (omega (arith, h))

there : (o : Option ℤ) (P : Type 0) (v : ℤ) → SomeIff o P v → P → IsSome o
there None P v h p = absurd (h p)
there (Some x) P v h p = refl

pub up_is_there : (o : Option ℤ) (start stop : ℤ) (d : ℕ) → FitsSigned w128 start → FitsSigned w128 stop → SomeIff o (FitsSigned w128 (start +ℤ pos d)) (start +ℤ pos d) → d < above stop start → IsSome o
up_is_there o start stop d f g h w =
    there o (FitsSigned w128 (start +ℤ pos d)) (start +ℤ pos d) h (between (start +ℤ pos d) start stop f g (omega (arith, ints)) (up_from (stop -ℤ start) start stop d refl w))

pub down_is_there : (o : Option ℤ) (start stop : ℤ) (d : ℕ) → FitsSigned w128 start → FitsSigned w128 stop → SomeIff o (FitsSigned w128 (start -ℤ pos d)) (start -ℤ pos d) → d < above start stop → IsSome o
down_is_there o start stop d f g h w =
    there o (FitsSigned w128 (start -ℤ pos d)) (start -ℤ pos d) h (between (start -ℤ pos d) stop start g f (down_from (start -ℤ stop) start stop d refl w) (omega (arith, ints)))

-- the three numbers of a range, which fit, as they are handed on
pub same_range : (P : ℤ → ℤ → ℤ → Type 0) (a b e : ℤ) → FitsSigned w128 a → FitsSigned w128 b → FitsSigned w128 e
    → P (to_z w128 (of_z w128 a)) (to_z w128 (of_z w128 b)) (to_z w128 (of_z w128 e)) → P a b e
same_range P a b e f g h p =
    subst (λ (z : ℤ). P a b z) (to_z-of_z w128 e h) (subst (λ (z : ℤ). P a z (to_z w128 (of_z w128 e))) (to_z-of_z w128 b g) (subst (λ (z : ℤ). P z (to_z w128 (of_z w128 b)) (to_z w128 (of_z w128 e))) (to_z-of_z w128 a f) p))

pub no_item : (start stop step position : ℤ) → None ≡ place_among (range_length start stop step) position → None ≡ item_of_range start stop step position
no_item start stop step position h = ap (option_map (λ k. value.Plain (plain.Int (range_item start step k)))) h
