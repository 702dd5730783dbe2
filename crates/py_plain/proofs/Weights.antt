-- What is judged before a result is made is the weight of the result.
use Rattle.std.proofs.Common.{◌≡◌, ℕ, zero, suc, ◌+◌, ◌-◌, ◌*◌, ◌^◌, min, ℤ, Bool, true, false, nat_lt, List, [], ◌∷◌, ◌++◌, length, map, sum, Result, Ok, Err, refl, sym, ◌∙◌, ap, subst, append-nil, append_assoc, arith, if◌then◌else◌, IsErrAnd}
use Rattle.std.proofs.lemmas.Bool.Decides.{nat_tests}
use Rattle.std.proofs.lemmas.List.{length-append}
use Rattle.std.proofs.lemmas.List.Sums.{sum-map, sum_by-append}
use Rattle.std.specs.List.{repeat}
use Rattle.std.specs.Bool.{⊤}
use Rattle.rp_base.specs.declared.plain.Plain.{Plain}
use Rattle.rp_base.specs.declared.plain.Plain.TheVariants as plain
use Rattle.rp_base.specs.declared.exceptions.Beyond.{Beyond}
use Rattle.rp_base.specs.declared.exceptions.Beyond.TheVariants as beyond
use Rattle.rp_base.specs.PlainValues.{plain_weight}
use Rattle.rp_base.specs.PlainLaws.{weight_tuple}
use Rattle.rp_base.specs.Values.{heaviest_value}
use Rattle.py_plain.specs.Answers.{OrNoMemory}
use Rattle.py_plain.specs.Arithmetic.{limited, counted, is_count, count_of}
use Rattle.py_plain.specs.Judging.{judged, count}
use Rattle.py_plain.specs.declared.ends.PlainEnd.{PlainEnd}
use Rattle.py_plain.specs.declared.ends.PlainEnd.TheVariants as end

-- an answer that is the wanted one
pub given : (wanted answer : Result Plain PlainEnd) → answer ≡ wanted → OrNoMemory wanted answer
given wanted (Ok p) e = e
given wanted (Err end.NoMemory) e = tt
given wanted (Err (end.Raise r)) e = e
given wanted (Err (end.Beyond b)) e = e

handed_on : {A : Type 0} (r : Result A PlainEnd) (e : PlainEnd) → IsErrAnd r (λ x. x ≡ e) → r ≡ Err e
handed_on (Ok x) e h = absurd h
handed_on (Err x) e h = ap Err h

-- a weight that is too large for a value
abbrev pub is_heavy : ℕ → Bool
is_heavy weight = nat_lt heaviest_value weight

heavy : (b : Bool) (x : Beyond) (p : Plain) (e : PlainEnd) (j : Result ⊤ PlainEnd) → j ≡ (if b then Err (end.Beyond x) else Ok tt) → Err e ≡ j → Err e ≡ (if b then Err (end.Beyond x) else Ok p)
heavy true x p e j is h = cc
heavy false x p e j is h = cc

light : (b : Bool) (x : Beyond) (p : Plain) (t : ⊤) → Ok t ≡ (if b then Err (end.Beyond x) else Ok tt) → Ok p ≡ (if b then Err (end.Beyond x) else Ok p)
light true x p t h = cc
light false x p t h = refl

abbrev by_weight : Bool → Result ⊤ PlainEnd
by_weight b = if b then Err (end.Beyond beyond.Size) else Ok tt

-- judged too heavy
too_heavy : (p : Plain) (weight : ℕ) (e : PlainEnd) → is_heavy (plain_weight p) ≡ is_heavy weight → Err e ≡ judged weight → Err e ≡ limited p
too_heavy p weight e is h = heavy (is_heavy (plain_weight p)) beyond.Size p e (judged weight) (ap by_weight (sym is)) h

pub passes : (p : Plain) (weight : ℕ) (e : PlainEnd) (r : Result Plain PlainEnd) → is_heavy (plain_weight p) ≡ is_heavy weight → Err e ≡ judged weight → IsErrAnd r (λ x. x ≡ e) → OrNoMemory (limited p) r
passes p weight e r is h g = given (limited p) r (handed_on r e g ∙ too_heavy p weight e is h)

-- judged as not too heavy
pub keeps : (p made : Plain) (weight : ℕ) (t : ⊤) → is_heavy (plain_weight p) ≡ is_heavy weight → Ok t ≡ judged weight → made ≡ p → Ok made ≡ limited p
keeps p made weight t is h e = ap Ok e ∙ light (is_heavy (plain_weight p)) beyond.Size p t (h ∙ ap by_weight (sym is))

-- ---- counts

not_counted : (b : Bool) (x : Beyond) (n : ℕ) (e : PlainEnd) (q : Result Plain PlainEnd) → Err e ≡ (if b then Ok n else Err (end.Beyond x)) → Err e ≡ (if b then q else Err (end.Beyond x))
not_counted true x n e q h = cc
not_counted false x n e q h = cc

some_count : (b : Bool) (x : Beyond) (n m : ℕ) (q : Result Plain PlainEnd) → Ok m ≡ (if b then Ok n else Err (end.Beyond x)) → (m ≡ n) × ((if b then q else Err (end.Beyond x)) ≡ q)
some_count true x n m q h = (cc, refl)
some_count false x n m q h = cc

pub uncounted : (z : ℤ) (p : Plain) (e : PlainEnd) (r : Result Plain PlainEnd) → Err e ≡ count z → IsErrAnd r (λ x. x ≡ e) → OrNoMemory (counted z p) r
uncounted z p e r h g = given (counted z p) r (handed_on r e g ∙ not_counted (is_count z) beyond.Int (count_of z) e (limited p) h)

is_count_of : (z : ℤ) (n : ℕ) → Ok n ≡ count z → n ≡ count_of z
is_count_of z n c = (some_count (is_count z) beyond.Int (count_of z) n (Err end.NoMemory) c).0

pub passes_counted : (z : ℤ) (n : ℕ) (copies : ℕ → Plain) (weight : ℕ) (e : PlainEnd) (r : Result Plain PlainEnd)
    → Ok n ≡ count z → is_heavy (plain_weight (copies n)) ≡ is_heavy weight → Err e ≡ judged weight → IsErrAnd r (λ x. x ≡ e) → OrNoMemory (counted z (copies (count_of z))) r
passes_counted z n copies weight e r c is h g =
    subst (λ (k : ℕ). OrNoMemory (counted z (copies k)) r) (is_count_of z n c)
    (given (counted z (copies n)) r (handed_on r e g ∙ too_heavy (copies n) weight e is h ∙ sym (some_count (is_count z) beyond.Int (count_of z) n (limited (copies n)) c).1))

pub keeps_counted : (z : ℤ) (n : ℕ) (copies : ℕ → Plain) (made : Plain) (weight : ℕ) (t : ⊤)
    → Ok n ≡ count z → is_heavy (plain_weight (copies n)) ≡ is_heavy weight → Ok t ≡ judged weight → made ≡ copies n → Ok made ≡ counted z (copies (count_of z))
keeps_counted z n copies made weight t c is h e =
    subst (λ (k : ℕ). Ok made ≡ counted z (copies k)) (is_count_of z n c)
    (keeps (copies n) made weight t is h e ∙ sym (some_count (is_count z) beyond.Int (count_of z) n (limited (copies n)) c).1)

-- ---- one behind the other

pub texts_weigh : (s t : List ℕ) → plain_weight (plain.Text (s ++ t)) ≡ 1 + (length s + length t)
unfolding plain_weight
texts_weigh s t = ap (λ (n : ℕ). 1 + n) (length-append s t)

pub bytes_weigh : (s t : List ℕ) → plain_weight (plain.Bytes (s ++ t)) ≡ 1 + (length s + length t)
unfolding plain_weight
bytes_weigh s t = ap (λ (n : ℕ). 1 + n) (length-append s t)

abbrev items_weigh : List Plain → ℕ
items_weigh xs = sum (map plain_weight xs)

behind : (xs ys : List Plain) → items_weigh (xs ++ ys) ≡ items_weigh xs + items_weigh ys
behind xs ys = sum-map plain_weight (xs ++ ys) ∙ sum_by-append plain_weight xs ys ∙ sym (λ i. sum-map plain_weight xs i + sum-map plain_weight ys i)

at_most : (a b m n : ℕ) → m ≡ min a (2 ^ 64 - 1) → n ≡ min b (2 ^ 64 - 1) → is_heavy (1 + (a + b)) ≡ is_heavy (1 + (m + n))
at_most a b m n e f = grind (arith, nat_tests)

pub tuples_weigh : (xs ys : List Plain) (m n : ℕ) → m ≡ min (items_weigh xs) (2 ^ 64 - 1) → n ≡ min (items_weigh ys) (2 ^ 64 - 1) → is_heavy (plain_weight (plain.Tuple (xs ++ ys))) ≡ is_heavy (1 + (m + n))
tuples_weigh xs ys m n e f = ap is_heavy (weight_tuple (xs ++ ys) ∙ ap (λ (w : ℕ). 1 + w) (behind xs ys)) ∙ at_most (items_weigh xs) (items_weigh ys) m n e f

-- ---- copies in a row

one_more : (n k : ℕ) → k + n * k ≡ suc n * k
one_more n k = grind arith

repeat_long : {A : Type 0} (n : ℕ) (xs : List A) → length (repeat n xs) ≡ n * length xs
repeat_long zero xs = omega arith
repeat_long (suc n) xs = length-append xs (repeat n xs) ∙ ap (λ (k : ℕ). length xs + k) (repeat_long n xs) ∙ one_more n (length xs)

repeat_weigh : (n : ℕ) (xs : List Plain) → items_weigh (repeat n xs) ≡ n * items_weigh xs
repeat_weigh zero xs = omega arith
repeat_weigh (suc n) xs = behind xs (repeat n xs) ∙ ap (λ (k : ℕ). items_weigh xs + k) (repeat_weigh n xs) ∙ one_more n (items_weigh xs)

pub text_copies_weigh : (n : ℕ) (t : List ℕ) → plain_weight (plain.Text (repeat n t)) ≡ 1 + n * length t
unfolding plain_weight
text_copies_weigh n t = ap (λ (k : ℕ). 1 + k) (repeat_long n t)

pub bytes_copies_weigh : (n : ℕ) (t : List ℕ) → plain_weight (plain.Bytes (repeat n t)) ≡ 1 + n * length t
unfolding plain_weight
bytes_copies_weigh n t = ap (λ (k : ℕ). 1 + k) (repeat_long n t)

many : (n a m : ℕ) → m ≡ min a (2 ^ 64 - 1) → is_heavy (1 + n * a) ≡ is_heavy (1 + n * m)
many zero a m e = grind (arith, nat_tests)
many (suc n) a m e = grind (arith, nat_tests)

pub tuple_copies_weigh : (n : ℕ) (xs : List Plain) (m : ℕ) → m ≡ min (items_weigh xs) (2 ^ 64 - 1) → is_heavy (plain_weight (plain.Tuple (repeat n xs))) ≡ is_heavy (1 + n * m)
tuple_copies_weigh n xs m e = ap is_heavy (weight_tuple (repeat n xs) ∙ ap (λ (w : ℕ). 1 + w) (repeat_weigh n xs)) ∙ many n (items_weigh xs) m e

-- one more copy behind the others
behind_copies : {A : Type 0} (n : ℕ) (xs : List A) → repeat n xs ++ xs ≡ repeat (suc n) xs
behind_copies {A = A} zero xs = sym (append-nil xs)
behind_copies {A = A} (suc n) xs = append_assoc xs (repeat n xs) xs ∙ ap (λ (l : List A). xs ++ l) (behind_copies n xs)

pub repeat_push : {A : Type 0} (n : ℕ) (xs : List A) → repeat n xs ++ xs ≡ repeat (n + 1) xs
repeat_push {A = A} n xs = let more : suc n ≡ n + 1 = omega arith in behind_copies n xs ∙ ap (λ (k : ℕ). repeat k xs) more

pub repeat_none : {A : Type 0} (n : ℕ) → repeat {A = A} n [] ≡ []
repeat_none zero = refl
repeat_none (suc n) = repeat_none n

pub repeat_empty : {A : Type 0} (n : ℕ) (xs : List A) → length xs ≡ 0 → [] ≡ repeat n xs
repeat_empty {A = A} n [] e = sym (repeat_none {A = A} n)
repeat_empty {A = A} n (x ∷ xs) e = absurd (omega arith)
