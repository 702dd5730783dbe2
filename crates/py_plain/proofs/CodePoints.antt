-- The order of UTF-8 bytes is that of the code points.
use Rattle.std.proofs.Common.{◌≡◌, ℕ, ◌+◌, ◌/◌, ◌%◌, ◌<◌, ◌≤◌, ◌⊎◌, inl, inr, Bool, true, false, ◌==◌, nat_lt, List, [], ◌∷◌, ◌++◌, Some, Ordering, Less, Equal, Greater, nat_cmp, refl, sym, ◌∙◌, ap, arith, encode_utf8_all, cond}
use Rattle.std.proofs.lemmas.Bool.{ltb-true, ltb-false, lt-ltb, le-ltb, and_parts}
use Rattle.std.proofs.lemmas.Bool.Decides.{nat_tests}
use Rattle.std.proofs.lemmas.Cmp.{nat_list_cmp_total}
use Rattle.std.specs.Ordering.{ordering_then, ordering_reverse}
use Rattle.std.specs.Str.{all_scalars}
use Rattle.rp_base.specs.declared.plain.Plain.TheVariants as plain
use lib.Utf8.{encode, scalar, scalar_cases}
use Rattle.py_plain.specs.Comparing.{bytes_order, order_of}

-- ---- one character

abbrev next : ℕ → ℕ
next bits = 128 + bits % 64

one : (c : ℕ) → c < 128 → encode c ≡ c ∷ []
unfolding encode
one c h = rw (lt-ltb c 128 h) refl

two : (c : ℕ) → 128 ≤ c → c < 2048 → encode c ≡ (192 + c / 64) ∷ next c ∷ []
unfolding encode
two c l h = rw (le-ltb c 128 l, lt-ltb c 2048 h) refl

three : (c : ℕ) → 2048 ≤ c → c < 65536 → encode c ≡ (224 + c / 4096) ∷ next (c / 64) ∷ next c ∷ []
unfolding encode
three c l h = let more : 128 ≤ c = omega arith in rw (le-ltb c 128 more, le-ltb c 2048 l, lt-ltb c 65536 h) refl

four : (c : ℕ) → 65536 ≤ c → encode c ≡ (240 + c / 262144) ∷ next (c / 4096) ∷ next (c / 64) ∷ next c ∷ []
unfolding encode
four c l = let more : 128 ≤ c = omega arith in let most : 2048 ≤ c = omega arith in rw (le-ltb c 128 more, le-ltb c 2048 most, le-ltb c 65536 l) refl

abbrev Length : ℕ → Type 0
Length c = (c < 128) ⊎ (((128 ≤ c) × (c < 2048)) ⊎ (((2048 ≤ c) × (c < 65536)) ⊎ (65536 ≤ c)))

length_of : (c : ℕ) → Length c
length_of c = first (nat_lt c 128) refl
  where
    third : (b : Bool) → nat_lt c 65536 ≡ b → 2048 ≤ c → Length c
    third true e l = inr (inr (inl (l, ltb-true c 65536 e)))
    third false e l = inr (inr (inr (ltb-false c 65536 e)))

    second : (b : Bool) → nat_lt c 2048 ≡ b → 128 ≤ c → Length c
    second true e l = inr (inl (l, ltb-true c 2048 e))
    second false e l = third (nat_lt c 65536) refl (ltb-false c 2048 e)

    first : (b : Bool) → nat_lt c 128 ≡ b → Length c
    first true e = inl (ltb-true c 128 e)
    first false e = second (nat_lt c 2048) refl (ltb-false c 128 e)

-- ---- lists

before : (x y : ℕ) (xs ys : List ℕ) → x < y → bytes_order (x ∷ xs) (y ∷ ys) ≡ Less
before x y xs ys h = ap (λ (b : Bool). ordering_then (cond b Less (cond (x == y) Equal Greater)) (bytes_order xs ys)) (lt-ltb x y h)

same_cmp : (x : ℕ) → nat_cmp x x ≡ Equal
same_cmp x = grind (arith, nat_tests)

level : (x y : ℕ) (xs ys : List ℕ) → x ≡ y → bytes_order (x ∷ xs) (y ∷ ys) ≡ bytes_order xs ys
level x y xs ys e = (λ i. ordering_then (nat_cmp (e i) y) (bytes_order xs ys)) ∙ ap (λ (o : Ordering). ordering_then o (bytes_order xs ys)) (same_cmp y)

step : (x y : ℕ) (xs ys : List ℕ) → x ≤ y → (x ≡ y → bytes_order xs ys ≡ Less) → bytes_order (x ∷ xs) (y ∷ ys) ≡ Less
step x y xs ys h next = split (nat_lt x y) refl
  where
    split : (b : Bool) → nat_lt x y ≡ b → bytes_order (x ∷ xs) (y ∷ ys) ≡ Less
    split true e = before x y xs ys (ltb-true x y e)
    split false e = let back : y ≤ x = ltb-false x y e in let same : x ≡ y = omega arith in level x y xs ys same ∙ next same

fronts : (ps xs ys : List ℕ) → bytes_order (ps ++ xs) (ps ++ ys) ≡ bytes_order xs ys
fronts [] xs ys = refl
fronts (p ∷ ps) xs ys = level p p (ps ++ xs) (ps ++ ys) refl ∙ fronts ps xs ys

-- ---- a smaller character stands before a greater one

two_bytes : (c d : ℕ) (xs ys : List ℕ) → c < d → bytes_order ((192 + c / 64) ∷ next c ∷ xs) ((192 + d / 64) ∷ next d ∷ ys) ≡ Less
two_bytes c d xs ys h = step (192 + c / 64) (192 + d / 64) (next c ∷ xs) (next d ∷ ys) (omega arith) (λ e. before (next c) (next d) xs ys (omega arith))

three_bytes : (c d : ℕ) (xs ys : List ℕ) → c < d → bytes_order ((224 + c / 4096) ∷ next (c / 64) ∷ next c ∷ xs) ((224 + d / 4096) ∷ next (d / 64) ∷ next d ∷ ys) ≡ Less
three_bytes c d xs ys h =
    let p : c / 4096 ≡ c / 64 / 64 = omega arith in
    let q : d / 4096 ≡ d / 64 / 64 = omega arith in
    step (224 + c / 4096) (224 + d / 4096) (next (c / 64) ∷ next c ∷ xs) (next (d / 64) ∷ next d ∷ ys) (omega arith)
    (λ e. step (next (c / 64)) (next (d / 64)) (next c ∷ xs) (next d ∷ ys) (omega arith) (λ f. before (next c) (next d) xs ys (omega arith)))

four_bytes : (c d : ℕ) (xs ys : List ℕ) → c < d → bytes_order ((240 + c / 262144) ∷ next (c / 4096) ∷ next (c / 64) ∷ next c ∷ xs) ((240 + d / 262144) ∷ next (d / 4096) ∷ next (d / 64) ∷ next d ∷ ys) ≡ Less
four_bytes c d xs ys h =
    let p : c / 4096 ≡ c / 64 / 64 = omega arith in
    let q : d / 4096 ≡ d / 64 / 64 = omega arith in
    let r : c / 262144 ≡ c / 64 / 64 / 64 = omega arith in
    let s : d / 262144 ≡ d / 64 / 64 / 64 = omega arith in
    step (240 + c / 262144) (240 + d / 262144) (next (c / 4096) ∷ next (c / 64) ∷ next c ∷ xs) (next (d / 4096) ∷ next (d / 64) ∷ next d ∷ ys) (omega arith)
    (λ e. step (next (c / 4096)) (next (d / 4096)) (next (c / 64) ∷ next c ∷ xs) (next (d / 64) ∷ next d ∷ ys) (omega arith)
    (λ f. step (next (c / 64)) (next (d / 64)) (next c ∷ xs) (next d ∷ ys) (omega arith) (λ g. before (next c) (next d) xs ys (omega arith))))

less : (c d : ℕ) (xs ys : List ℕ) → c < d → d < 1114112 → bytes_order (encode c ++ xs) (encode d ++ ys) ≡ Less
less c d xs ys h top = go (length_of c) (length_of d)
  where
    go : Length c → Length d → bytes_order (encode c ++ xs) (encode d ++ ys) ≡ Less
    go (inl a) (inl b) = (λ i. bytes_order (one c a i ++ xs) (one d b i ++ ys)) ∙ before c d xs ys h
    go (inl a) (inr (inl b)) = (λ i. bytes_order (one c a i ++ xs) (two d b.0 b.1 i ++ ys)) ∙ before c (192 + d / 64) xs (next d ∷ ys) (omega (arith, a))
    go (inl a) (inr (inr (inl b))) = (λ i. bytes_order (one c a i ++ xs) (three d b.0 b.1 i ++ ys)) ∙ before c (224 + d / 4096) xs (next (d / 64) ∷ next d ∷ ys) (omega (arith, a))
    go (inl a) (inr (inr (inr b))) = (λ i. bytes_order (one c a i ++ xs) (four d b i ++ ys)) ∙ before c (240 + d / 262144) xs (next (d / 4096) ∷ next (d / 64) ∷ next d ∷ ys) (omega (arith, a))
    go (inr (inl a)) (inl b) = absurd (omega (arith, a.0, b))
    go (inr (inl a)) (inr (inl b)) = (λ i. bytes_order (two c a.0 a.1 i ++ xs) (two d b.0 b.1 i ++ ys)) ∙ two_bytes c d xs ys h
    go (inr (inl a)) (inr (inr (inl b))) = (λ i. bytes_order (two c a.0 a.1 i ++ xs) (three d b.0 b.1 i ++ ys)) ∙ before (192 + c / 64) (224 + d / 4096) (next c ∷ xs) (next (d / 64) ∷ next d ∷ ys) (omega (arith, a.1))
    go (inr (inl a)) (inr (inr (inr b))) = (λ i. bytes_order (two c a.0 a.1 i ++ xs) (four d b i ++ ys)) ∙ before (192 + c / 64) (240 + d / 262144) (next c ∷ xs) (next (d / 4096) ∷ next (d / 64) ∷ next d ∷ ys) (omega (arith, a.1))
    go (inr (inr (inl a))) (inl b) = absurd (omega (arith, a.0, b))
    go (inr (inr (inl a))) (inr (inl b)) = absurd (omega (arith, a.0, b.1))
    go (inr (inr (inl a))) (inr (inr (inl b))) = (λ i. bytes_order (three c a.0 a.1 i ++ xs) (three d b.0 b.1 i ++ ys)) ∙ three_bytes c d xs ys h
    go (inr (inr (inl a))) (inr (inr (inr b))) = (λ i. bytes_order (three c a.0 a.1 i ++ xs) (four d b i ++ ys)) ∙ before (224 + c / 4096) (240 + d / 262144) (next (c / 64) ∷ next c ∷ xs) (next (d / 4096) ∷ next (d / 64) ∷ next d ∷ ys) (omega (arith, a.1))
    go (inr (inr (inr a))) (inl b) = absurd (omega (arith, a, b))
    go (inr (inr (inr a))) (inr (inl b)) = absurd (omega (arith, a, b.1))
    go (inr (inr (inr a))) (inr (inr (inl b))) = absurd (omega (arith, a, b.1))
    go (inr (inr (inr a))) (inr (inr (inr b))) = (λ i. bytes_order (four c a i ++ xs) (four d b i ++ ys)) ∙ four_bytes c d xs ys h

-- one character against another
character : (c d : ℕ) (xs ys : List ℕ) → c < 1114112 → d < 1114112 → bytes_order (encode c ++ xs) (encode d ++ ys) ≡ ordering_then (nat_cmp c d) (bytes_order xs ys)
character c d xs ys f g = split (nat_lt c d) refl (nat_lt d c) refl
  where
    split : (b : Bool) → nat_lt c d ≡ b → (a : Bool) → nat_lt d c ≡ a → bytes_order (encode c ++ xs) (encode d ++ ys) ≡ ordering_then (nat_cmp c d) (bytes_order xs ys)
    split true e a k =
        less c d xs ys (ltb-true c d e) g ∙ ap (λ (b : Bool). ordering_then (cond b Less (cond (c == d) Equal Greater)) (bytes_order xs ys)) (sym e)
    split false e true k =
        let after : d < c = ltb-true d c k in
        let greater : nat_cmp c d ≡ Greater = grind (arith, nat_tests) in
        nat_list_cmp_total.antisymm (encode c ++ xs) (encode d ++ ys) ∙ ap ordering_reverse (less d c ys xs after f) ∙ ap (λ (o : Ordering). ordering_then o (bytes_order xs ys)) (sym greater)
    split false e false k =
        let down : d ≤ c = ltb-false c d e in
        let up : c ≤ d = ltb-false d c k in
        let same : c ≡ d = omega arith in
        (λ i. bytes_order (encode (same i) ++ xs) (encode d ++ ys)) ∙ fronts (encode d) xs ys ∙ ap (λ (o : Ordering). ordering_then o (bytes_order xs ys)) (sym (same_cmp d)) ∙ (λ i. ordering_then (nat_cmp (sym same i) d) (bytes_order xs ys))

some_bytes : (d : ℕ) (ys : List ℕ) → bytes_order [] (encode d ++ ys) ≡ Less
some_bytes d ys = go (length_of d)
  where
    go : Length d → bytes_order [] (encode d ++ ys) ≡ Less
    go (inl b) = λ i. bytes_order [] (one d b i ++ ys)
    go (inr (inl b)) = λ i. bytes_order [] (two d b.0 b.1 i ++ ys)
    go (inr (inr (inl b))) = λ i. bytes_order [] (three d b.0 b.1 i ++ ys)
    go (inr (inr (inr b))) = λ i. bytes_order [] (four d b i ++ ys)

below : (c : ℕ) → scalar c ≡ true → c < 1114112
below c h = go (scalar_cases c h)
  where
    go : (c < 55296) ⊎ ((57344 ≤ c) × (c < 1114112)) → c < 1114112
    go (inl a) = omega (arith, a)
    go (inr a) = a.1

pub by_code_points : (cs ds : List ℕ) → all_scalars cs ≡ true → all_scalars ds ≡ true → bytes_order (encode_utf8_all cs) (encode_utf8_all ds) ≡ bytes_order cs ds
by_code_points [] [] f g = refl
by_code_points [] (d ∷ ds) f g = some_bytes d (encode_utf8_all ds)
by_code_points (c ∷ cs) [] f g = nat_list_cmp_total.antisymm (encode c ++ encode_utf8_all cs) [] ∙ ap ordering_reverse (some_bytes c (encode_utf8_all cs))
by_code_points (c ∷ cs) (d ∷ ds) f g =
    let a = and_parts (scalar c) (all_scalars cs) f in
    let b = and_parts (scalar d) (all_scalars ds) g in
    character c d (encode_utf8_all cs) (encode_utf8_all ds) (below c a.0) (below d b.0) ∙ ap (λ (o : Ordering). ordering_then (nat_cmp c d) o) (by_code_points cs ds a.1 b.1)

pub texts_stand : (cs ds : List ℕ) → all_scalars cs ≡ true → all_scalars ds ≡ true → order_of (plain.Text (encode_utf8_all cs)) (plain.Text (encode_utf8_all ds)) ≡ Some (bytes_order cs ds)
unfolding order_of
texts_stand cs ds f g = ap Some (by_code_points cs ds f g)
