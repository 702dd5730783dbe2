-- The text that an int is written as: it spells the int, it is the shortest such text, and how long it is.
use Rattle.std.proofs.Common.{◌≡◌, ◌≢◌, ℕ, zero, suc, ◌+◌, ◌-◌, ◌*◌, ◌/◌, ◌%◌, ◌^◌, ◌<◌, ◌≤◌, ℤ, pos, negsuc, Bool, true, false, not, ◌&&◌, eqb, cond, List, [], ◌∷◌, ◌++◌, length, get_or, Some, option_map, refl, sym, ap, append_assoc, append-nil, ◌∙◌, subst, arith, rules}
use Rattle.std.proofs.lemmas.Bool.{ltb-true, eqb-true, ne_eqb, and_parts, and_from}
use Rattle.std.proofs.lemmas.Fmt.{decimal_is_IsNumeral_wide, decimal_by_steps_wide, length-decimal-le_wide, decimal_digit, decimal_step_wide, IsAscii-decimal_wide}
use Rattle.std.proofs.lemmas.Str.Ascii.{IsAscii-cons}
use Rattle.std.proofs.lemmas.Str.Parse.{IsNumeralModel, numerals_by_weight, tells_all_ascii_digits}
use Rattle.std.proofs.Math.Nat.{pow-suc, pow-succ', mul_assoc, add-mul}
use Rattle.std.specs.Fmt.{decimal, signed_decimal}
use Rattle.std.specs.Str.{all_ascii_digits, IsAscii}
use Rattle.py_ints.specs.IntTexts.{natural, natural_value, int_value, below_zero, fits, is_positive_text, is_shortest}

-- the place values here are those of the library's reader
own : IsNumeralModel (λ ds. all_ascii_digits ds ≡ true) natural
own = numerals_by_weight _ tells_all_ascii_digits natural (search rules)

shifted : (d k n e : ℕ) → d * 10 ^ suc k + (n * 10 + e) ≡ (d * 10 ^ k + n) * 10 + e
shifted d k n e = let one_more : d * 10 ^ suc k ≡ d * 10 ^ k * 10 = ap (λ (x : ℕ). d * x) (pow-suc 10 k) ∙ sym (mul_assoc d (10 ^ k) 10) in omega (arith, one_more)

length_push : (xs : List ℕ) (b : ℕ) → length (xs ++ (b ∷ [])) ≡ suc (length xs)
length_push [] b = refl
length_push (x ∷ xs) b = ap suc (length_push xs b)

-- one digit more counts units, and all before it ten times as much
pub natural_push : (xs : List ℕ) (b : ℕ) → natural (xs ++ (b ∷ [])) ≡ natural xs * 10 + (b - 48)
natural_push [] b = omega arith
natural_push (x ∷ xs) b =
    ap (λ (k : ℕ). (x - 48) * 10 ^ k + natural (xs ++ (b ∷ []))) (length_push xs b)
    ∙ ap (λ (n : ℕ). (x - 48) * 10 ^ suc (length xs) + n) (natural_push xs b)
    ∙ shifted (x - 48) (length xs) (natural xs) (b - 48)

-- ---- digits

-- a digit is no sign
pub first_digit : (b : ℕ) (bs : List ℕ) → all_ascii_digits (b ∷ bs) ≡ true → (48 ≤ b) × (b ≤ 57)
first_digit b bs h = (tells_all_ascii_digits.parts b bs h).0

pub natural_of_digits : (ds : List ℕ) → 0 < length ds → all_ascii_digits ds ≡ true → natural_value ds ≡ Some (natural ds)
natural_of_digits [] some h = absurd (omega arith)
natural_of_digits (b ∷ bs) some h = rw h refl

int_of_digits : (ds : List ℕ) → 0 < length ds → all_ascii_digits ds ≡ true → int_value ds ≡ Some (pos (natural ds))
int_of_digits [] some h = absurd (omega arith)
int_of_digits (b ∷ bs) some h =
    let range = first_digit b bs h in
    let no_minus : eqb b 45 ≡ false = ne_eqb b 45 (λ e. omega (arith, range.0)) in
    let no_plus : eqb b 43 ≡ false = ne_eqb b 43 (λ e. omega (arith, range.0)) in
    rw (no_minus, no_plus, h) refl

-- ---- the text of a number is digits, which spell it

pub decimal_digits : (n : ℕ) → n < 10 ^ 64 → all_ascii_digits (decimal n) ≡ true
decimal_digits n small = own.from (decimal n) (decimal_is_IsNumeral_wide n small).0.1

decimal_some : (n : ℕ) → n < 10 ^ 64 → 0 < length (decimal n)
decimal_some n small = (decimal_is_IsNumeral_wide n small).0.0

natural_decimal : (n : ℕ) → n < 10 ^ 64 → natural (decimal n) ≡ n
natural_decimal n small = let k = decimal_is_IsNumeral_wide n small in own.same (decimal n) k.0.1 ∙ k.1

-- the bounds of 128 bits, as bounds on sizes
pos_small : (n : ℕ) → fits (pos n) ≡ true → n < 10 ^ 64
pos_small n h = let low : n < 2 ^ 127 = ltb-true n (2 ^ 127) h in omega arith

neg_small : (n : ℕ) → fits (negsuc n) ≡ true → suc n < 10 ^ 64
neg_small n h = let low : n < 2 ^ 127 = ltb-true n (2 ^ 127) h in omega arith

pub read_back : (z : ℤ) → fits z ≡ true → int_value (signed_decimal z) ≡ Some z
read_back (pos n) h =
    let small = pos_small n h in
    int_of_digits (decimal n) (decimal_some n small) (decimal_digits n small) ∙ ap (λ (m : ℕ). Some (pos m)) (natural_decimal n small)
read_back (negsuc n) h =
    let small = neg_small n h in
    ap (option_map below_zero) (natural_of_digits (decimal (suc n)) (decimal_some (suc n) small) (decimal_digits (suc n) small)) ∙ ap (λ (m : ℕ). Some (below_zero m)) (natural_decimal (suc n) small)

-- ---- the shortest text

first_decimal : (n : ℕ) → 0 < n → n < 10 ^ 64 → 48 < get_or (decimal n) 0 0
first_decimal n some small = (decimal_by_steps_wide (λ m ds. (0 < length ds) × (0 < m → 48 < get_or ds 0 0)) (λ m l. (omega arith, λ a. omega arith))
    (λ m ds l h. (omega (arith, length_push ds (48 + m % 10)), λ a. later ds (48 + m % 10) h.0 (h.1 (omega arith)))) n small).1 some
  where
    later : (ds : List ℕ) (b : ℕ) → 0 < length ds → 48 < get_or ds 0 0 → 48 < get_or (ds ++ (b ∷ [])) 0 0
    later [] b some h = absurd (omega arith)
    later (d ∷ ds) b some h = h

positive_text : (ds : List ℕ) → 48 < get_or ds 0 0 → all_ascii_digits ds ≡ true → is_positive_text ds ≡ true
positive_text [] more h = absurd (omega arith)
positive_text (b ∷ bs) more h = let no_zero : eqb b 48 ≡ false = ne_eqb b 48 (λ e. omega arith) in rw (no_zero, h) refl

positive_decimal : (n : ℕ) → 0 < n → n < 10 ^ 64 → is_positive_text (decimal n) ≡ true
positive_decimal n some small = positive_text (decimal n) (first_decimal n some small) (decimal_digits n small)

pub positive_shortest : (ds : List ℕ) → is_positive_text ds ≡ true → is_shortest ds ≡ true
positive_shortest [] h = cc
positive_shortest (b ∷ []) h = (and_parts _ _ h).1
positive_shortest (b ∷ c ∷ bs) h =
    let all : all_ascii_digits (b ∷ c ∷ bs) ≡ true = (and_parts (not (eqb b 48)) (all_ascii_digits (b ∷ c ∷ bs)) h).1 in
    let range = first_digit b (c ∷ bs) all in
    let no_minus : eqb b 45 ≡ false = ne_eqb b 45 (λ e. omega (arith, range.0)) in
    rw no_minus h

minus_shortest : (ds : List ℕ) → is_positive_text ds ≡ true → is_shortest (45 ∷ ds) ≡ true
minus_shortest [] h = cc
minus_shortest (b ∷ bs) h = h

pub shortest : (z : ℤ) → fits z ≡ true → is_shortest (signed_decimal z) ≡ true
shortest (pos zero) h = ap is_shortest (decimal_digit 0 (omega arith))
shortest (pos (suc n)) h = positive_shortest (decimal (suc n)) (positive_decimal (suc n) (omega arith) (pos_small (suc n) h))
shortest (negsuc n) h = minus_shortest (decimal (suc n)) (positive_decimal (suc n) (omega arith) (neg_small n h))

-- ---- a shortest text is what its number is written as

-- the number that digits spell behind those of a number
abbrev after : ℕ → List ℕ → ℕ
after n [] = n
after n (b ∷ bs) = after (n * 10 + (b - 48)) bs

least : (n : ℕ) (ds : List ℕ) → n ≤ after n ds
least n [] = omega arith
least n (b ∷ bs) = omega (arith, least (n * 10 + (b - 48)) bs)

more_digits : (n : ℕ) (ds : List ℕ) → 0 < n → all_ascii_digits ds ≡ true → after n ds < 10 ^ 64 → decimal (after n ds) ≡ decimal n ++ ds
more_digits n [] some d small = sym (append-nil (decimal n))
more_digits n (b ∷ bs) some d small =
    let parts = tells_all_ascii_digits.parts b bs d in
    let low : 48 ≤ b = parts.0.0 in
    let high : b ≤ 57 = parts.0.1 in
    let m : ℕ = n * 10 + (b - 48) in
    let front : m / 10 ≡ n = omega arith in
    let end : 48 + m % 10 ≡ b = omega arith in
    more_digits m bs (omega arith) parts.1 small
    ∙ ap (λ (x : List ℕ). x ++ bs) (decimal_step_wide m (omega arith) (omega (arith, least m bs)) ∙ (λ i. decimal (front i) ++ (end i ∷ [])))
    ∙ append_assoc (decimal n) (b ∷ []) bs

after_place : (n : ℕ) (ds : List ℕ) → after n ds ≡ n * 10 ^ length ds + natural ds
after_place n [] = omega arith
after_place n (b ∷ bs) = after_place (n * 10 + (b - 48)) bs ∙ sym (spread n (b - 48) (length bs) (natural bs))
  where
    spread : (n d k r : ℕ) → n * 10 ^ suc k + (d * 10 ^ k + r) ≡ (n * 10 + d) * 10 ^ k + r
    spread n d k r =
        let one_more : n * 10 ^ suc k ≡ n * 10 * 10 ^ k = ap (λ (x : ℕ). n * x) (pow-succ' 10 k) ∙ sym (mul_assoc n 10 (10 ^ k)) in
        let sum : (n * 10 + d) * 10 ^ k ≡ n * 10 * 10 ^ k + d * 10 ^ k = add-mul (n * 10) d (10 ^ k) in
        omega (arith, one_more, sum)

-- digits with no 0 in front
pub positive_written : (ds : List ℕ) → is_positive_text ds ≡ true → natural ds < 10 ^ 64 → decimal (natural ds) ≡ ds
positive_written [] h small = cc
positive_written (b ∷ bs) h small =
    let halves = and_parts (not (eqb b 48)) (all_ascii_digits (b ∷ bs)) h in
    let parts = tells_all_ascii_digits.parts b bs halves.1 in
    let low : 48 ≤ b = parts.0.0 in
    let high : b ≤ 57 = parts.0.1 in
    let no_zero : b ≢ 48 = λ e. eq_not b e halves.0 in
    let place : after (b - 48) bs ≡ natural (b ∷ bs) = after_place (b - 48) bs in
    let is : 48 + (b - 48) ≡ b = omega arith in
    ap decimal (sym place)
    ∙ more_digits (b - 48) bs (omega (arith, no_zero)) parts.1 (omega arith)
    ∙ ap (λ (x : List ℕ). x ++ bs) (decimal_digit (b - 48) (omega arith) ∙ ap (λ (x : ℕ). x ∷ []) is)
  where
    eq_not : (b : ℕ) → b ≡ 48 → not (eqb b 48) ≡ true → ⊥
    eq_not b e h = let same : not (eqb 48 48) ≡ true = subst (λ (x : ℕ). not (eqb x 48) ≡ true) e h in cc

some_is : {A : Type 0} (x y : A) → Some x ≡ Some y → x ≡ y
some_is x y e = cc

-- digits behind a `-`
minus_written : (ds : List ℕ) (z : ℤ) → is_positive_text ds ≡ true → fits z ≡ true → option_map below_zero (natural_value ds) ≡ Some z → 45 ∷ ds ≡ signed_decimal z
minus_written [] z h f e = cc
minus_written (b ∷ bs) z h f e = split (natural (b ∷ bs)) refl
  where
    halves : (not (eqb b 48) ≡ true) × (all_ascii_digits (b ∷ bs) ≡ true)
    halves = and_parts (not (eqb b 48)) (all_ascii_digits (b ∷ bs)) h

    is : below_zero (natural (b ∷ bs)) ≡ z
    is = some_is (below_zero (natural (b ∷ bs))) z (sym (ap (option_map below_zero) (natural_of_digits (b ∷ bs) (omega arith) halves.1)) ∙ e)

    no_zero : natural (b ∷ bs) ≡ 0 → ⊥
    no_zero none =
        let same : 48 ∷ [] ≡ b ∷ bs = sym (decimal_digit 0 (omega arith)) ∙ ap decimal (sym none) ∙ positive_written (b ∷ bs) h (omega arith) in
        let wrong : not (eqb 48 48) ≡ true = ap (λ (x : List ℕ). not (eqb (get_or x 0 0) 48)) same ∙ halves.0 in
        cc

    split : (n : ℕ) → natural (b ∷ bs) ≡ n → 45 ∷ b ∷ bs ≡ signed_decimal z
    split zero none = absurd (no_zero none)
    split (suc m) more =
        let same : negsuc m ≡ z = ap below_zero (sym more) ∙ is in
        let small : suc m < 10 ^ 64 = neg_small m (ap fits same ∙ f) in
        ap (λ (x : List ℕ). 45 ∷ x) (sym (positive_written (b ∷ bs) h (omega arith)) ∙ ap decimal more) ∙ ap signed_decimal same

-- digits with no sign
plain_written : (ds : List ℕ) (z : ℤ) → 0 < length ds → all_ascii_digits ds ≡ true → (natural ds < 10 ^ 64 → decimal (natural ds) ≡ ds) → fits z ≡ true → int_value ds ≡ Some z → ds ≡ signed_decimal z
plain_written ds z some all again f e =
    let is : pos (natural ds) ≡ z = some_is (pos (natural ds)) z (sym (int_of_digits ds some all) ∙ e) in
    sym (again (pos_small (natural ds) (ap fits is ∙ f))) ∙ ap signed_decimal is

one_written : (b : ℕ) → all_ascii_digits (b ∷ []) ≡ true → decimal (natural (b ∷ [])) ≡ b ∷ []
one_written b h =
    let range = first_digit b [] h in
    let low : 48 ≤ b = range.0 in
    let high : b ≤ 57 = range.1 in
    let units : natural (b ∷ []) ≡ b - 48 = omega arith in
    let is : 48 + (b - 48) ≡ b = omega arith in
    ap decimal units ∙ decimal_digit (b - 48) (omega arith) ∙ ap (λ (x : ℕ). x ∷ []) is

pub written : (t : List ℕ) (z : ℤ) → is_shortest t ≡ true → fits z ≡ true → int_value t ≡ Some z → t ≡ signed_decimal z
written [] z h f e = cc
written (b ∷ []) z h f e = plain_written (b ∷ []) z (omega arith) h (λ _. one_written b h) f e
written (b ∷ c ∷ bs) z h f e = split (eqb b 45) refl
  where
    split : (t : Bool) → eqb b 45 ≡ t → b ∷ c ∷ bs ≡ signed_decimal z
    split true minus =
        let is : b ≡ 45 = eqb-true b 45 minus in
        let behind : is_positive_text (c ∷ bs) ≡ true = sym (ap (λ (t : Bool). cond t (is_positive_text (c ∷ bs)) (is_positive_text (b ∷ c ∷ bs))) minus) ∙ h in
        let spelled : option_map below_zero (natural_value (c ∷ bs)) ≡ Some z = ap (λ (x : ℕ). int_value (x ∷ c ∷ bs)) (sym is) ∙ e in
        ap (λ (x : ℕ). x ∷ c ∷ bs) is ∙ minus_written (c ∷ bs) z behind f spelled
    split false plain =
        let digits : is_positive_text (b ∷ c ∷ bs) ≡ true = sym (ap (λ (t : Bool). cond t (is_positive_text (c ∷ bs)) (is_positive_text (b ∷ c ∷ bs))) plain) ∙ h in
        plain_written (b ∷ c ∷ bs) z (omega arith) (and_parts (not (eqb b 48)) (all_ascii_digits (b ∷ c ∷ bs)) digits).1 (positive_written (b ∷ c ∷ bs) digits) f e

-- ---- how long it is

pub some_bytes : (z : ℤ) → fits z ≡ true → 0 < length (signed_decimal z)
some_bytes (pos n) h = decimal_some n (pos_small n h)
some_bytes (negsuc n) h = omega arith

pub few_bytes : (z : ℤ) → fits z ≡ true → length (signed_decimal z) ≤ 40
few_bytes (pos n) h = let low : n < 2 ^ 127 = ltb-true n (2 ^ 127) h in omega (arith, length-decimal-le_wide 39 n (omega arith) (omega arith) (omega arith))
few_bytes (negsuc n) h = let low : n < 2 ^ 127 = ltb-true n (2 ^ 127) h in omega (arith, length-decimal-le_wide 39 (suc n) (omega arith) (omega arith) (omega arith))

pub ascii_bytes : (z : ℤ) → fits z ≡ true → IsAscii (signed_decimal z)
ascii_bytes (pos n) h = IsAscii-decimal_wide n (pos_small n h)
ascii_bytes (negsuc n) h = IsAscii-cons 45 (decimal (suc n)) (omega arith) (IsAscii-decimal_wide (suc n) (neg_small n h))
