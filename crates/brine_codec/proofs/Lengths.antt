-- How long a spelling is at most.
use Rattle.std.proofs.Common.{◌≡◌, ℕ, ◌+◌, ◌*◌, ◌≤◌, Bool, true, false, cond, ltb, eqb, List, [], ◌∷◌, ◌++◌, length, map, sum, refl, ap, arith, ℤ}
use Rattle.std.specs.List.{flat_map, AllByRecursion}
use Rattle.std.specs.Fmt.{signed_decimal}
use Rattle.std.specs.Int.{w32, to_be_bytes}
use Rattle.std.proofs.lemmas.List.{length-append}
use Rattle.std.proofs.lemmas.List.Sums.{sum_by-cons}
use Rattle.rp_base.specs.declared.plain.Plain.{Plain}
use Rattle.rp_base.specs.declared.plain.Plain.TheVariants as plain
use Rattle.rp_base.specs.PlainValues.{plain_weight}
use Rattle.rp_base.specs.PlainLaws.{weight_tuple}
use Rattle.py_ints.specs.IntTexts.{fits}
use Rattle.py_ints.specs.IntLaws.{few_bytes}
use Rattle.brine_codec.specs.Spelling.{spelling, spellable, is_small_int, int_tag, int_spelling, size_spelling, bytes_spelling, count_spelling}
use Rattle.brine_codec.proofs.Values.{by_cases, tuple_parts, spelling_tuple}

abbrev Short : Plain → Type 0
Short v = spellable v ≡ true → length (spelling v) ≤ 21 * plain_weight v

size_short : (empty base n : ℕ) → length (size_spelling empty base n) ≤ 5
size_short empty base n = by_tests (eqb n 0) (ltb n 5) (ltb n 256)
  where
    by_tests : (x y z : Bool) → length (cond x (empty ∷ []) (cond y ((base + n) ∷ []) (cond z ((base + 5) ∷ n ∷ []) ((base + 6) ∷ to_be_bytes w32 n)))) ≤ 5
    by_tests true y z = omega arith
    by_tests false true z = omega arith
    by_tests false false true = omega arith
    by_tests false false false = omega arith

int_short : (z : ℤ) → fits z ≡ true → length (int_spelling z) ≤ 42
int_short z fit = by_range (is_small_int z)
  where
    by_range : (small : Bool) → length (cond small (int_tag z ∷ []) (22 ∷ length (signed_decimal z) ∷ signed_decimal z)) ≤ 42
    by_range true = omega arith
    by_range false = omega (arith, few_bytes z fit)

bytes_short : (t : List ℕ) → length (bytes_spelling t) ≤ 5 + length t
bytes_short t = omega (arith, size_short 1 9 (length t), length-append (size_spelling 1 9 (length t)) t)

items_short : (xs : List Plain) → AllByRecursion Short xs → AllByRecursion (λ v. spellable v ≡ true) xs → length (flat_map spelling xs) ≤ 21 * sum (map plain_weight xs)
items_short [] short spelled = omega arith
items_short (x ∷ xs) short spelled =
    let here : length (spelling x) ≤ 21 * plain_weight x = short.0 spelled.0 in
    omega (arith, here, items_short xs short.1 spelled.1, length-append (spelling x) (flat_map spelling xs), sum_by-cons (λ n. n) (plain_weight x) (map plain_weight xs))

tuple_short : (xs : List Plain) → AllByRecursion Short xs → Short (plain.Tuple xs)
tuple_short xs short h =
    let parts = tuple_parts (plain.Tuple xs) xs refl h in
    let whole : length (spelling (plain.Tuple xs)) ≡ length (count_spelling (length xs) ++ flat_map spelling xs) = ap (λ (x : List ℕ). length x) (spelling_tuple xs) in
    omega (arith, whole, length-append (count_spelling (length xs)) (flat_map spelling xs), size_short 2 15 (length xs), items_short xs short parts.1, weight_tuple xs)

-- a value of weight w is spelled in at most 21 w bytes
pub spelling_short : (v : Plain) → spellable v ≡ true → length (spelling v) ≤ 21 * plain_weight v
unfolding spelling spellable plain_weight
spelling_short = by_cases Short (record {
  none = λ h. omega arith;
  bool = λ b h. omega arith;
  int = λ z h. omega (arith, int_short z h);
  text = λ t h. omega (arith, bytes_short t);
  bytes = λ t h. omega (arith, bytes_short t);
  not_impl = λ h. omega arith;
  ellipsis = λ h. omega arith;
  tuple = tuple_short;
})
