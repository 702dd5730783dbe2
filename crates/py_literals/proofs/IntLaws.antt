-- The decimal text of a number is an int literal.
use Rattle.std.proofs.Common.{◌≡◌, ◌∙◌, ◌<◌, ◌≤◌, ◌^◌, ◌==◌, ◌&&◌, nat_lt, ℕ, pos, List, [], ◌∷◌, codes, Bool, true, false, Some, refl, ap, subst, arith}
use Rattle.std.specs.Prelude.{if◌then◌else◌, Ok, Err}
use Rattle.py_ints.specs.declared.reading.IntText.TheVariants as int_text
use Rattle.std.specs.Int.{is_in_range}
use Rattle.std.specs.Str.{all_ascii_digits}
use Rattle.std.specs.Fmt.{decimal}
use Rattle.std.proofs.lemmas.Bool.Decides.{nat_tests}
use Rattle.py_ints.specs.IntLaws.{first_digit, decimal_digits, shortest, read_back}
use Rattle.py_ints.specs.IntTexts.{natural, int_value, is_shortest, within}
use Rattle.py_lexer.specs.Spellings.{is_zero_int, begins, is_int, reads}
use Rattle.py_literals.specs.IntValues.{int_literal_value}

-- a digit from 1 to 9 in front
digits_value : (b : ℕ) (bs : List ℕ) → 48 ≤ b → b ≤ 57 → all_ascii_digits (b ∷ bs) ≡ true → int_value (b ∷ bs) ≡ Some (pos (natural (b ∷ bs)))
digits_value b bs low high d =
    let minus : (b == 45) ≡ false = grind arith in
    let plus : (b == 43) ≡ false = grind arith in
    rw (minus, plus, d) refl

positive_is_int : (b : ℕ) (bs : List ℕ) (n : ℕ) → (b == 48) ≡ false → is_in_range 49 57 b ≡ true → int_value (b ∷ bs) ≡ Some (pos n) → nat_lt n (2 ^ 127) ≡ true → is_int (b ∷ bs) ≡ true
unfolding is_int
positive_is_int b bs n other range v fits =
    ap (λ (t : Bool). if t then is_zero_int bs else is_in_range 49 57 b && reads (within (int_value (b ∷ bs)))) other ∙ ap (λ (t : Bool). t && reads (within (int_value (b ∷ bs)))) range
    ∙ ap (λ z. reads (within z)) v ∙ ap (λ (t : Bool). reads (if t then Ok (pos n) else Err int_text.Wide)) fits

no_prefix : (b : ℕ) (bs : List ℕ) → (b == 48) ≡ false → begins (b ∷ bs) (codes "0x") ≡ false
no_prefix b bs other = let flipped : (48 == b) ≡ false = grind arith in rw flipped refl

value_by : (ds : List ℕ) (n : ℕ) → is_int ds ≡ true → begins ds (codes "0x") ≡ false → natural ds ≡ n → int_literal_value ds ≡ Some (pos n)
unfolding int_literal_value
value_by ds n whole plain is = rw (whole, plain, is) refl

zero_alone : (b : ℕ) (bs : List ℕ) → (b == 48) ≡ true → is_shortest (b ∷ bs) ≡ true → b ∷ bs ≡ 48 ∷ []
zero_alone b [] e s = let is : b ≡ 48 = grind arith in ap (λ (d : ℕ). d ∷ []) is
zero_alone b (c ∷ cs) e s =
    let is : b ≡ 48 = grind arith in
    let alone : is_shortest (48 ∷ c ∷ cs) ≡ true = subst (λ (d : ℕ). is_shortest (d ∷ c ∷ cs) ≡ true) is s in
    cc

zero_is_int : is_int (48 ∷ []) ≡ true
unfolding is_int
zero_is_int = refl

pub spelled_value : (ds : List ℕ) (n : ℕ) → all_ascii_digits ds ≡ true → is_shortest ds ≡ true → int_value ds ≡ Some (pos n) → nat_lt n (2 ^ 127) ≡ true → int_literal_value ds ≡ Some (pos n)
spelled_value [] n d s v fits = cc
spelled_value (b ∷ bs) n d s v fits =
    let range = first_digit b bs d in
    let spelled = digits_value b bs range.0 range.1 d in
    let same : natural (b ∷ bs) ≡ n = cc in
    by_zero (b == 48) refl range.0 range.1 same
  where
    by_zero : (t : Bool) → (b == 48) ≡ t → 48 ≤ b → b ≤ 57 → natural (b ∷ bs) ≡ n → int_literal_value (b ∷ bs) ≡ Some (pos n)
    by_zero false e low high same = let digit : is_in_range 49 57 b ≡ true = grind (arith, nat_tests) in value_by (b ∷ bs) n (positive_is_int b bs n e digit v fits) (no_prefix b bs e) same
    by_zero true e low high same =
        let whole = zero_alone b bs e s in
        value_by (b ∷ bs) n (ap is_int whole ∙ zero_is_int) (ap (λ (t : List ℕ). begins t (codes "0x")) whole) same

pub decimal_value : (n : ℕ) → n < 2 ^ 127 → int_literal_value (decimal n) ≡ Some (pos n)
decimal_value n low =
    let fits : nat_lt n (2 ^ 127) ≡ true = grind arith in
    spelled_value (decimal n) n (decimal_digits n (small n low)) (shortest (pos n) fits) (read_back (pos n) fits) fits
  where
    small : (n : ℕ) → n < 2 ^ 127 → n < 10 ^ 64
    small n low = omega (arith, low)
