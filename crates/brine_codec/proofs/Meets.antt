-- The reader finds what is spelled, and what is spelled is found.
use Rattle.std.proofs.Common.{◌≡◌, ℕ, zero, suc, ◌<◌, ◌≤◌, ◌^◌, max, Bool, true, false, cond, ltb, ◌&&◌, List, [], ◌∷◌, ◌++◌, length, map, Option, Some, None, Result, Ok, Err, refl, sym, ap, subst, ◌∙◌, append_assoc, arith, ℤ, pos, negsuc}
use Rattle.std.specs.List.{flat_map, AllByRecursion}
use Rattle.std.specs.Int.{w32, from_be_bytes}
use Rattle.std.specs.Str.{is_utf8}
use Rattle.std.specs.Fmt.{signed_decimal}
use Rattle.std.proofs.lemmas.Bool.{ltb-true, ltb-false, lt-ltb, le-ltb}
use Rattle.rp_base.specs.declared.plain.Plain.{Plain}
use Rattle.rp_base.specs.declared.plain.Plain.TheVariants as plain
use Rattle.rp_base.specs.PlainValues.{plain_depth}
use Rattle.rp_base.specs.PlainLaws.{depth_tuple}
use Rattle.py_ints.specs.IntTexts.{int_value, is_shortest, fits}
use Rattle.py_ints.specs.IntLaws.{read_back, shortest, written, few_bytes}
use Rattle.brine_codec.specs.declared.tag.Tag.{Tag}
use Rattle.brine_codec.specs.declared.tag.Tag.TheVariants as tags
use Rattle.brine_codec.specs.declared.tag.Size.{Size}
use Rattle.brine_codec.specs.declared.tag.Size.TheVariants as sizes
use Rattle.brine_codec.specs.declared.ends.BrineKind.{BrineKind}
use Rattle.brine_codec.specs.declared.ends.BrineKind.TheVariants as kinds
use Rattle.brine_codec.specs.Spelling.{IsBytes, spelling, spellable, all_true, is_size, is_small_int, int_tag, int_spelling, count_spelling}
use Rattle.brine_codec.specs.Reading.{◌>>=◌, Read, Fault, tag_at, size_at, first_bytes, bytes_at, int_of_value, int_of_text, int_or_fault, int_at, text_by, text_at, items_at, value_by, value_in, tuple_within, value_at}
use Rattle.brine_codec.proofs.Tags.{Means, IsSize, tag_means, int_again}
use Rattle.brine_codec.proofs.Sizes.{done, ok_is, bind_ok, kept, passed, bytes_behind, size_takes, first_take, first_again, bytes_take, bytes_are_again, count_again}
use Rattle.brine_codec.proofs.Values.{by_cases, both, joined, tuple_parts, spelling_tuple, spellable_tuple, greatest_within, each_within}

pub record Found (levels : ℕ) (bytes : List ℕ) (v : Plain) (rest : List ℕ) : Type 0 where
  pub parts : bytes ≡ spelling v ++ rest
  pub spelled : spellable v ≡ true
  pub deep : plain_depth v ≤ levels

-- ---- ints as texts

abbrev int_found : ℤ → Result ℤ BrineKind
int_found z = Ok z

record TextOfInt (text : List ℕ) (z : ℤ) : Type 0 where
  same : text ≡ signed_decimal z
  fit : fits z ≡ true
  large : is_small_int z ≡ false

by_tests : (f s : Bool) (y z : ℤ) → cond f (cond s (Err kinds.B4) (Ok y)) (Err kinds.B6) ≡ int_found z → (f ≡ true) × (s ≡ false) × (y ≡ z)
by_tests true false y z e = (refl, refl, cc)
by_tests true true y z e = absurd cc
by_tests false s y z e = absurd cc

by_shape : (s : Bool) (r : Result ℤ BrineKind) (z : ℤ) → cond s r (Err kinds.B5) ≡ int_found z → (s ≡ true) × (r ≡ Ok z)
by_shape true r z e = (refl, e)
by_shape false r z e = absurd cc

by_value : (text : List ℕ) (value : Option ℤ) (z : ℤ) → is_shortest text ≡ true → int_value text ≡ value → int_of_value value ≡ int_found z → TextOfInt text z
by_value text None z short is e = absurd cc
by_value text (Some y) z short is e =
    let g = by_tests (fits y) (is_small_int y) y z e in
    subst (λ (x : ℤ). TextOfInt text x) g.2 (record { same = written text y short g.0 is; fit = g.0; large = g.1 })

text_takes_int : (text : List ℕ) (z : ℤ) → int_of_text text ≡ Ok z → TextOfInt text z
unfolding int_of_text
text_takes_int text z e = let g = by_shape (is_shortest text) (int_of_value (int_value text)) z e in by_value text (int_value text) z g.0 refl g.1

text_gives_int : (z : ℤ) → fits z ≡ true → is_small_int z ≡ false → int_of_text (signed_decimal z) ≡ Ok z
unfolding int_of_text
text_gives_int z fit large = rw (shortest z fit, read_back z fit, fit, large) refl

large_spelling : (z : ℤ) → is_small_int z ≡ false → int_spelling z ≡ 22 ∷ length (signed_decimal z) ∷ signed_decimal z
large_spelling z large = rw large refl

or_fault : (left : ℕ) (rest : List ℕ) (r : Result ℤ BrineKind) (v : Plain) (after : List ℕ) → int_or_fault left rest r ≡ Ok (v, after) → (z : ℤ) × (r ≡ Ok z) × (plain.Int z ≡ v) × (rest ≡ after)
or_fault left rest (Ok z) v after e =
    let same = ok_is (plain.Int z, rest) (v, after) e in
    (z, refl, ap (λ (p : Plain × List ℕ). p.0) same, ap (λ (p : Plain × List ℕ). p.1) same)
or_fault left rest (Err what) v after e = absurd cc

-- the text of an int behind its length
record IntFound (size : Size) (left : ℕ) (bytes : List ℕ) (v : Plain) (rest : List ℕ) : Type 0 where
  n : ℕ
  more : List ℕ
  z : ℤ
  there : size_at 0 size left bytes ≡ Ok (n, more)
  parts : more ≡ signed_decimal z ++ rest
  length_is : length (signed_decimal z) ≡ n
  fit : fits z ≡ true
  large : is_small_int z ≡ false
  value : plain.Int z ≡ v

int_found_at : (size : Size) (left : ℕ) (bytes : List ℕ) (v : Plain) (rest : List ℕ) → int_at size left bytes ≡ Ok (v, rest) → IntFound size left bytes v rest
unfolding int_at bytes_at
int_found_at size left bytes v rest e =
    let a = bind_ok (bytes_at 0 size left bytes) (λ text. int_or_fault left text.1 (int_of_text text.0)) (v, rest) e in
    let text = a.0.0 in
    let after = a.0.1 in
    let b = bind_ok (size_at 0 size left bytes) (λ n. first_bytes n.0 n.1) (text, after) a.1 in
    let f = first_take b.0.0 b.0.1 text after b.2 in
    let g = or_fault left after (int_of_text text) v rest a.2 in
    let t = text_takes_int text g.0 g.1 in
    record {
      n = b.0.0;
      more = b.0.1;
      z = g.0;
      there = b.1;
      parts = f.0 ∙ ap (λ (x : List ℕ). x ++ after) t.same ∙ ap (λ (x : List ℕ). signed_decimal g.0 ++ x) g.3;
      length_is = ap (λ (x : List ℕ). length x) (sym t.same) ∙ f.1;
      fit = t.fit;
      large = t.large;
      value = g.2;
    }

int_takes : (levels b : ℕ) (size : Size) (left : ℕ) (bytes : List ℕ) (v : Plain) (rest : List ℕ) → Means b (tags.IntText size) → int_at size left bytes ≡ Ok (v, rest) → Found levels (b ∷ bytes) v rest
unfolding size_at spelling spellable plain_depth
int_takes levels b (sizes.Of n) left bytes v rest m e = absurd m
int_takes levels b sizes.Byte left [] v rest m e = let f = int_found_at sizes.Byte left [] v rest e in absurd (not_there f.n f.more f.there)
  where
    not_there : (n : ℕ) (more : List ℕ) → size_at 0 sizes.Byte left [] ≡ Ok (n, more) → ⊥
    not_there n more h = cc
int_takes levels b sizes.Byte left (k ∷ bytes) v rest m e =
    let f = int_found_at sizes.Byte left (k ∷ bytes) v rest e in
    let same = (passed (ltb k 0) (k, bytes) (f.n, f.more) _ f.there).1 in
    let field : k ≡ length (signed_decimal f.z) = ap (λ (p : ℕ × List ℕ). p.0) same ∙ sym f.length_is in
    let behind : bytes ≡ signed_decimal f.z ++ rest = ap (λ (p : ℕ × List ℕ). p.1) same ∙ f.parts in
    let parts : b ∷ k ∷ bytes ≡ int_spelling f.z ++ rest =
    ap (λ (x : ℕ). x ∷ k ∷ bytes) m ∙ ap (λ (x : ℕ). 22 ∷ x ∷ bytes) field ∙ ap (λ (x : List ℕ). 22 ∷ length (signed_decimal f.z) ∷ x) behind ∙ sym (ap (λ (x : List ℕ). x ++ rest) (large_spelling f.z f.large)) in
    subst (λ (x : Plain). Found levels (b ∷ k ∷ bytes) x rest) f.value (record { parts = parts; spelled = f.fit; deep = omega arith })
int_takes levels b sizes.FourBytes left bytes v rest m e =
    let f = int_found_at sizes.FourBytes left bytes v rest e in
    let long : 256 ≤ f.n = four_long left bytes f.n f.more f.there in
    let short : length (signed_decimal f.z) ≤ 40 = few_bytes f.z f.fit in
    absurd (omega (arith, f.length_is))
  where
    four_long : (left : ℕ) (bytes : List ℕ) (n : ℕ) (more : List ℕ) → size_at 0 sizes.FourBytes left bytes ≡ Ok (n, more) → 256 ≤ n
    four_long left (p ∷ q ∷ r ∷ s ∷ bytes) n more h =
        let k = from_be_bytes w32 (p ∷ q ∷ r ∷ s ∷ []) in
        let g = passed (ltb k 256) (k, bytes) (n, more) _ h in
        let low : 256 ≤ k = ltb-false k 256 g.0 in
        subst (λ (x : ℕ × List ℕ). 256 ≤ x.0) g.1 low
    four_long left [] n more h = absurd cc
    four_long left (p ∷ []) n more h = absurd cc
    four_long left (p ∷ q ∷ []) n more h = absurd cc
    four_long left (p ∷ q ∷ r ∷ []) n more h = absurd cc

large_again : (z : ℤ) (left : ℕ) (rest : List ℕ) → fits z ≡ true → is_small_int z ≡ false → int_at sizes.Byte left (length (signed_decimal z) ∷ signed_decimal z ++ rest) ≡ Ok (plain.Int z, rest)
unfolding int_at bytes_at size_at
large_again z left rest fit large =
    let low : ltb (length (signed_decimal z)) 0 ≡ false = le-ltb _ _ (omega arith) in
    rw (low, first_again (signed_decimal z) rest, text_gives_int z fit large) refl

-- ---- texts

text_takes : (levels left : ℕ) (bytes : List ℕ) (v : Plain) (rest : List ℕ) → IsBytes bytes → text_at left bytes ≡ Ok (v, rest) → Found levels (8 ∷ bytes) v rest
unfolding text_at spelling spellable plain_depth
text_takes levels left [] v rest fit e = absurd cc
text_takes levels left (b ∷ bytes) v rest fit e = by_tag (tag_at b) (tag_means b) e
  where
    by_tag : (tag : Tag) → Means b tag → text_by tag left (length (b ∷ bytes)) bytes ≡ Ok (v, rest) → Found levels (8 ∷ b ∷ bytes) v rest
    by_tag (tags.Bytes size) m e =
        let a = bind_ok (bytes_at 5 size (length (b ∷ bytes)) bytes) (λ text. cond (is_utf8 text.0) (Ok (plain.Text text.0, text.1)) (Err (left, kinds.B7))) (v, rest) e in
        let t = a.0.0 in
        let more = a.0.1 in
        let g = kept (is_utf8 t) (plain.Text t, more) (v, rest) _ a.2 in
        let f = bytes_take b size (length (b ∷ bytes)) bytes t more m (λ i. fit (suc i)) a.1 in
        let spelled : (is_size (length t) && is_utf8 t) ≡ true = joined _ _ (lt-ltb (length t) (2 ^ 32) f.high) g.0 in
        subst (λ (x : Plain × List ℕ). Found levels (8 ∷ b ∷ bytes) x.0 x.1) g.1 (record { parts = ap (λ (x : List ℕ). 8 ∷ x) f.parts; spelled = spelled; deep = omega arith })
    by_tag tags.None m e = absurd cc
    by_tag (tags.Bool x) m e = absurd cc
    by_tag tags.NotImpl m e = absurd cc
    by_tag tags.Ellipsis m e = absurd cc
    by_tag (tags.Int z) m e = absurd cc
    by_tag (tags.IntText size) m e = absurd cc
    by_tag tags.Text m e = absurd cc
    by_tag (tags.Tuple size) m e = absurd cc
    by_tag tags.LeftOut m e = absurd cc
    by_tag tags.Unknown m e = absurd cc

-- ---- values

pub record ItemsFound (levels count : ℕ) (bytes : List ℕ) (vs : List Plain) (rest : List ℕ) : Type 0 where
  pub parts : bytes ≡ flat_map spelling vs ++ rest
  pub spelled : all_true (map spellable vs) ≡ true
  pub deep : AllByRecursion (λ k. k ≤ levels) (map plain_depth vs)
  pub size : length vs ≡ count

abbrev Takes : ℕ → (List ℕ → Read Plain) → Type 0
Takes levels item = (bytes : List ℕ) (v : Plain) (rest : List ℕ) → IsBytes bytes → item bytes ≡ Ok (v, rest) → Found levels bytes v rest

items_take : (levels : ℕ) (item : List ℕ → Read Plain) → Takes levels item → (count : ℕ) (bytes : List ℕ) (vs : List Plain) (rest : List ℕ) → IsBytes bytes → items_at item count bytes ≡ Ok (vs, rest)
    → ItemsFound levels count bytes vs rest
unfolding items_at
items_take levels item one zero bytes vs rest fit e =
    subst (λ (x : List Plain × List ℕ). ItemsFound levels zero bytes x.0 x.1) (ok_is ([], bytes) (vs, rest) e) (record { parts = refl; spelled = refl; deep = tt; size = refl })
items_take levels item one (suc n) bytes vs rest fit e =
    let a = bind_ok (item bytes) (λ first. items_at item n first.1 >>= λ others. Ok (first.0 ∷ others.0, others.1)) (vs, rest) e in
    let v = a.0.0 in
    let after = a.0.1 in
    let b = bind_ok (items_at item n after) (λ others. Ok (v ∷ others.0, others.1)) (vs, rest) a.2 in
    let ws = b.0.0 in
    let end = b.0.1 in
    let first = one bytes v after fit a.1 in
    let fit_after : IsBytes after = bytes_behind (spelling v) after (subst (λ (x : List ℕ). IsBytes x) first.parts fit) in
    let others = items_take levels item one n after ws end fit_after b.1 in
    let whole : bytes ≡ (spelling v ++ flat_map spelling ws) ++ end = first.parts ∙ ap (λ (x : List ℕ). spelling v ++ x) others.parts ∙ sym (append_assoc (spelling v) (flat_map spelling ws) end) in
    subst (λ (x : List Plain × List ℕ). ItemsFound levels (suc n) bytes x.0 x.1) (ok_is (v ∷ ws, end) (vs, rest) b.2)
    (record { parts = whole; spelled = joined _ _ first.spelled others.spelled; deep = (first.deep, others.deep); size = ap suc others.size })

-- what a reader of tuples has to keep, so that a reader of values keeps it
abbrev TupleTakes : ℕ → (Size → ℕ → List ℕ → Read Plain) → Type 0
TupleTakes levels tuple = (b : ℕ) (size : Size) (left : ℕ) (bytes : List ℕ) (v : Plain) (rest : List ℕ) → IsSize 2 15 b size → IsBytes bytes → tuple size left bytes ≡ Ok (v, rest) → Found levels (b ∷ bytes) v rest

leaf_takes : (levels b : ℕ) (bytes : List ℕ) (w v : Plain) (rest front : List ℕ) → done {A = Plain × List ℕ} (w, bytes) ≡ done (v, rest) → b ∷ [] ≡ front → spelling w ≡ front → spellable w ≡ true → plain_depth w ≡ 0
    → Found levels (b ∷ bytes) v rest
leaf_takes levels b bytes w v rest front e tag spelled has flat =
    subst (λ (x : Plain × List ℕ). Found levels (b ∷ bytes) x.0 x.1) (ok_is (w, bytes) (v, rest) e)
    (record { parts = ap (λ (x : List ℕ). x ++ bytes) (tag ∙ sym spelled); spelled = has; deep = omega (arith, flat) })

small_spelling : (z : ℤ) → is_small_int z ≡ true → int_spelling z ≡ int_tag z ∷ []
small_spelling z small = rw small refl

small_fits : (z : ℤ) → is_small_int z ≡ true → fits z ≡ true
small_fits (pos n) h = let low : n < 160 = ltb-true n 160 h in lt-ltb n (2 ^ 127) (omega arith)
small_fits (negsuc n) h = let low : n < 48 = ltb-true n 48 h in lt-ltb n (2 ^ 127) (omega arith)

by_takes : (levels b : ℕ) (tuple : Size → ℕ → List ℕ → Read Plain) → TupleTakes levels tuple → (tag : Tag) (left : ℕ) (bytes : List ℕ) (v : Plain) (rest : List ℕ)
    → Means b tag → IsBytes bytes → value_by tuple b tag left bytes ≡ Ok (v, rest) → Found levels (b ∷ bytes) v rest
unfolding spelling spellable plain_depth
by_takes levels b tuple inner tags.None left bytes v rest m fit e = leaf_takes levels b bytes plain.None v rest (0 ∷ []) e (ap (λ (x : ℕ). x ∷ []) m) refl refl refl
by_takes levels b tuple inner (tags.Bool true) left bytes v rest m fit e = leaf_takes levels b bytes (plain.Bool true) v rest (3 ∷ []) e (ap (λ (x : ℕ). x ∷ []) m) refl refl refl
by_takes levels b tuple inner (tags.Bool false) left bytes v rest m fit e = leaf_takes levels b bytes (plain.Bool false) v rest (4 ∷ []) e (ap (λ (x : ℕ). x ∷ []) m) refl refl refl
by_takes levels b tuple inner tags.NotImpl left bytes v rest m fit e = leaf_takes levels b bytes plain.NotImpl v rest (5 ∷ []) e (ap (λ (x : ℕ). x ∷ []) m) refl refl refl
by_takes levels b tuple inner tags.Ellipsis left bytes v rest m fit e = leaf_takes levels b bytes plain.Ellipsis v rest (6 ∷ []) e (ap (λ (x : ℕ). x ∷ []) m) refl refl refl
by_takes levels b tuple inner (tags.Int z) left bytes v rest m fit e =
    leaf_takes levels b bytes (plain.Int z) v rest (int_tag z ∷ []) e (ap (λ (x : ℕ). x ∷ []) m.0) (small_spelling z m.1) (small_fits z m.1) refl
by_takes levels b tuple inner (tags.IntText size) left bytes v rest m fit e = int_takes levels b size left bytes v rest m e
by_takes levels b tuple inner tags.Text left bytes v rest m fit e = subst (λ (x : ℕ). Found levels (x ∷ bytes) v rest) (sym m) (text_takes levels left bytes v rest fit e)
by_takes levels b tuple inner (tags.Bytes size) left bytes v rest m fit e =
    let a = bind_ok (bytes_at 5 size left bytes) (λ x. Ok (plain.Bytes x.0, x.1)) (v, rest) e in
    let f = bytes_take b size left bytes a.0.0 a.0.1 m fit a.1 in
    subst (λ (x : Plain × List ℕ). Found levels (b ∷ bytes) x.0 x.1) (ok_is (plain.Bytes a.0.0, a.0.1) (v, rest) a.2)
    (record { parts = f.parts; spelled = lt-ltb (length a.0.0) (2 ^ 32) f.high; deep = omega arith })
by_takes levels b tuple inner (tags.Tuple size) left bytes v rest m fit e = inner b size left bytes v rest m fit e
by_takes levels b tuple inner tags.LeftOut left bytes v rest m fit e = absurd cc
by_takes levels b tuple inner tags.Unknown left bytes v rest m fit e = absurd cc

in_takes : (levels : ℕ) (tuple : Size → ℕ → List ℕ → Read Plain) → TupleTakes levels tuple → Takes levels (value_in tuple)
unfolding value_in
in_takes levels tuple inner [] v rest fit e = absurd cc
in_takes levels tuple inner (b ∷ bytes) v rest fit e = by_takes levels b tuple inner (tag_at b) (length (b ∷ bytes)) bytes v rest (tag_means b) (λ i. fit (suc i)) e

tuple_takes : (levels : ℕ) → TupleTakes levels (tuple_within levels)
unfolding tuple_within
tuple_takes zero b size left bytes v rest m fit e = absurd cc
tuple_takes (suc n) b size left bytes v rest m fit e =
    let a = bind_ok (size_at 5 size left bytes) (λ count. items_at (value_at n) count.0 count.1 >>= λ items. Ok (plain.Tuple items.0, items.1)) (v, rest) e in
    let count = a.0.0 in
    let more = a.0.1 in
    let c = bind_ok (items_at (value_at n) count more) (λ items. Ok (plain.Tuple items.0, items.1)) (v, rest) a.2 in
    let vs = c.0.0 in
    let end = c.0.1 in
    let s = size_takes 2 15 b size left bytes count more m fit a.1 in
    let g = count_again count s.high in
    let behind : bytes ≡ g.field ++ more = tail_is b g.tag bytes (g.field ++ more) (s.parts ∙ ap (λ (x : List ℕ). x ++ more) g.parts) in
    let fit_more : IsBytes more = bytes_behind g.field more (subst (λ (x : List ℕ). IsBytes x) behind fit) in
    let f = items_take n (value_at n) (in_takes n (tuple_within n) (tuple_takes n)) count more vs end fit_more c.1 in
    let parts : b ∷ bytes ≡ spelling (plain.Tuple vs) ++ end =
    s.parts ∙ ap (λ (x : List ℕ). count_spelling count ++ x) f.parts ∙ sym (append_assoc (count_spelling count) (flat_map spelling vs) end)
    ∙ ap (λ (k : ℕ). (count_spelling k ++ flat_map spelling vs) ++ end) (sym f.size) ∙ ap (λ (x : List ℕ). x ++ end) (sym (spelling_tuple vs)) in
    let few : length vs < 2 ^ 32 = omega (arith, f.size, s.high) in
    subst (λ (x : Plain × List ℕ). Found (suc n) (b ∷ bytes) x.0 x.1) (ok_is (plain.Tuple vs, end) (v, rest) c.2)
    (record {
      parts = parts;
      spelled = spellable_tuple vs ∙ joined _ _ (lt-ltb (length vs) (2 ^ 32) few) f.spelled;
      deep = omega (arith, depth_tuple vs, greatest_within 0 (map plain_depth vs) n (omega arith) f.deep);
    })
  where
    tail_is : (x y : ℕ) (xs ys : List ℕ) → x ∷ xs ≡ y ∷ ys → xs ≡ ys
    tail_is x y xs ys e = cc

pub value_takes : (levels : ℕ) → Takes levels (value_at levels)
value_takes levels = in_takes levels (tuple_within levels) (tuple_takes levels)

-- ---- what is spelled is found

abbrev pub Again : Plain → Type 0
Again v = spellable v ≡ true → (levels : ℕ) → plain_depth v ≤ levels → (rest : List ℕ) → value_at levels (spelling v ++ rest) ≡ Ok (v, rest)

int_is_again : (z : ℤ) → Again (plain.Int z)
unfolding spelling spellable value_in
int_is_again z h levels deep rest = by_range (is_small_int z) refl
  where
    by_range : (small : Bool) → is_small_int z ≡ small → value_in (tuple_within levels) (int_spelling z ++ rest) ≡ Ok (plain.Int z, rest)
    by_range true s =
        ap (λ (x : List ℕ). value_in (tuple_within levels) (x ++ rest)) (small_spelling z s)
        ∙ ap (λ (tag : Tag). value_by (tuple_within levels) (int_tag z) tag (length (int_tag z ∷ rest)) rest) (int_again z s)
    by_range false s =
        ap (λ (x : List ℕ). value_in (tuple_within levels) (x ++ rest)) (large_spelling z s)
        ∙ large_again z (length (22 ∷ length (signed_decimal z) ∷ signed_decimal z ++ rest)) rest h s

abbrev if_text : Bool → Plain × List ℕ → Fault → Read Plain
if_text test x f = cond test (Ok x) (Err f)

text_is_again : (t : List ℕ) → Again (plain.Text t)
unfolding spelling spellable value_in text_at
text_is_again t h levels deep rest =
    let tests = both (is_size (length t)) (is_utf8 t) h in
    let s = bytes_are_again t (ltb-true (length t) (2 ^ 32) tests.0) in
    let left = length (8 ∷ s.tag ∷ s.field ++ rest) in
    let inner = length (s.tag ∷ s.field ++ rest) in
    ap (λ (x : List ℕ). value_in (tuple_within levels) (8 ∷ x ++ rest)) s.parts
    ∙ ap (λ (tag : Tag). text_by tag left inner (s.field ++ rest)) s.means
    ∙ ap (λ (r : Read (List ℕ)). r >>= λ text. cond (is_utf8 text.0) (Ok (plain.Text text.0, text.1)) (Err (left, kinds.B7))) (s.again inner rest)
    ∙ ap (λ (test : Bool). if_text test (plain.Text t, rest) (left, kinds.B7)) tests.1

bytes_again : (t : List ℕ) → Again (plain.Bytes t)
unfolding spelling spellable value_in
bytes_again t h levels deep rest =
    let s = bytes_are_again t (ltb-true (length t) (2 ^ 32) h) in
    let left = length (s.tag ∷ s.field ++ rest) in
    ap (λ (x : List ℕ). value_in (tuple_within levels) (x ++ rest)) s.parts
    ∙ ap (λ (tag : Tag). value_by (tuple_within levels) s.tag tag left (s.field ++ rest)) s.means
    ∙ ap (λ (r : Read (List ℕ)). r >>= λ x. Ok (plain.Bytes x.0, x.1)) (s.again left rest)

items_again : (levels : ℕ) (xs : List Plain) → AllByRecursion Again xs → AllByRecursion (λ v. spellable v ≡ true) xs → AllByRecursion (λ k. k ≤ levels) (map plain_depth xs)
    → (rest : List ℕ) → items_at (value_at levels) (length xs) (flat_map spelling xs ++ rest) ≡ Ok (xs, rest)
unfolding items_at
items_again levels [] again spelled deep rest = refl
items_again levels (x ∷ xs) again spelled deep rest =
    ap (λ (bytes : List ℕ). items_at (value_at levels) (suc (length xs)) bytes) (append_assoc (spelling x) (flat_map spelling xs) rest)
    ∙ ap (λ (r : Read Plain). r >>= λ first. items_at (value_at levels) (length xs) first.1 >>= λ others. Ok (first.0 ∷ others.0, others.1)) (again.0 spelled.0 levels deep.0 (flat_map spelling xs ++ rest))
    ∙ ap (λ (r : Read (List Plain)). r >>= λ others. Ok (x ∷ others.0, others.1)) (items_again levels xs again.1 spelled.1 deep.1 rest)

tuple_is_again : (xs : List Plain) → AllByRecursion Again xs → Again (plain.Tuple xs)
unfolding tuple_within value_in
tuple_is_again xs again h zero deep rest = absurd (omega (arith, depth_tuple xs))
tuple_is_again xs again h (suc n) deep rest =
    let parts = tuple_parts (plain.Tuple xs) xs refl h in
    let inner = each_within 0 (map plain_depth xs) n (omega (arith, depth_tuple xs)) in
    let s = count_again (length xs) parts.0 in
    let behind = flat_map spelling xs ++ rest in
    let left = length (s.tag ∷ s.field ++ behind) in
    ap (λ (bytes : List ℕ). value_at (suc n) (bytes ++ rest)) (spelling_tuple xs)
    ∙ ap (value_at (suc n)) (append_assoc (count_spelling (length xs)) (flat_map spelling xs) rest)
    ∙ ap (λ (bytes : List ℕ). value_at (suc n) (bytes ++ behind)) s.parts
    ∙ ap (λ (tag : Tag). value_by (tuple_within (suc n)) s.tag tag left (s.field ++ behind)) s.means
    ∙ ap (λ (r : Read ℕ). r >>= λ count. items_at (value_at n) count.0 count.1 >>= λ items. Ok (plain.Tuple items.0, items.1)) (s.again left behind)
    ∙ ap (λ (r : Read (List Plain)). r >>= λ items. Ok (plain.Tuple items.0, items.1)) (items_again n xs again parts.1 inner.1 rest)

pub value_again : (v : Plain) → Again v
unfolding spelling value_in
value_again = by_cases Again (record {
  none = λ h levels deep rest. refl;
  bool = bool_again;
  int = int_is_again;
  text = text_is_again;
  bytes = bytes_again;
  not_impl = λ h levels deep rest. refl;
  ellipsis = λ h levels deep rest. refl;
  tuple = tuple_is_again;
})
  where
    bool_again : (b : Bool) → Again (plain.Bool b)
    bool_again true h levels deep rest = refl
    bool_again false h levels deep rest = refl

pub spelled_once : (v w : Plain) (x y : List ℕ) → spellable v ≡ true → spellable w ≡ true → spelling v ++ x ≡ spelling w ++ y → (v ≡ w) × (x ≡ y)
spelled_once v w x y h k e =
    let levels = max (plain_depth v) (plain_depth w) in
    let both_found : done (v, x) ≡ done (w, y) = sym (value_again v h levels (omega arith) x) ∙ ap (value_at levels) e ∙ value_again w k levels (omega arith) y in
    let pairs : (v, x) ≡ (w, y) = ok_is (v, x) (w, y) both_found in
    (ap (λ (p : Plain × List ℕ). p.0) pairs, ap (λ (p : Plain × List ℕ). p.1) pairs)
