-- A literal in front of a text is made of items.
use Rattle.std.proofs.Common.{◌≡◌, ◌∙◌, ◌<◌, ◌≤◌, ◌+◌, ◌-◌, ◌==◌, ◌&&◌, ◌||◌, not, nat_lt, ℕ, zero, suc, List, [], ◌∷◌, ◌++◌, length, take, drop, Bool, true, false, Option, Some, None, option_map, refl, sym, ap, subst, arith}
use Rattle.std.proofs.lemmas.Bool.{and_from}
use Rattle.std.specs.Prelude.{if◌then◌else◌}
use Rattle.std.specs.List.{flat_map}
use Rattle.std.proofs.lemmas.Grind.{common_steps}
use Rattle.std.proofs.lemmas.List.{append_assoc}
use Rattle.py_lexer.specs.Spellings.{line_end_size, is_feed}
use Rattle.py_lexer.specs.Literals.{is_hex, is_code, escape_size, hex_escape, code_escape, item_size, literal_size}
use Rattle.py_lexer.specs.Items.{Item, Byte, Mark, Hex, Code, spelled, is_plain, is_mark, may_stand, all_may_stand, body}
use Rattle.py_lexer.proofs.LiteralLaws.{one_item, quoted}

-- an item of so many bytes in front
record Fronts (b : Bool) (q : ℕ) (text : List ℕ) (n : ℕ) : Type 0 where
  pub item : Item
  pub stands : may_stand b q item ≡ true
  pub spells : take n text ≡ spelled item
  pub some : 0 < n
  pub within : n ≤ length text

hex_front : (b : Bool) (q n : ℕ) (text : List ℕ) → hex_escape text ≡ Some n → Fronts b q (92 ∷ 120 ∷ text) (1 + n)
hex_front b q n [] e = cc
hex_front b q n (x ∷ []) e = cc
hex_front b q n (x ∷ y ∷ text) e = by_test (is_hex x && is_hex y) refl e
  where
    by_test : (t : Bool) → (is_hex x && is_hex y) ≡ t → (if t then Some 3 else None) ≡ Some n → Fronts b q (92 ∷ 120 ∷ x ∷ y ∷ text) (1 + n)
    by_test true h is = let same : 3 ≡ n = cc in subst (λ (k : ℕ). Fronts b q (92 ∷ 120 ∷ x ∷ y ∷ text) (1 + k)) same (record { item = Hex x y; stands = h; spells = refl; some = omega arith; within = omega arith })
    by_test false h is = cc

code_front : (q n : ℕ) (text : List ℕ) → code_escape text ≡ Some n → Fronts false q (92 ∷ 117 ∷ text) (1 + n)
code_front q n [] e = cc
code_front q n (x ∷ []) e = cc
code_front q n (x ∷ y ∷ []) e = cc
code_front q n (x ∷ y ∷ z ∷ []) e = cc
code_front q n (x ∷ y ∷ z ∷ w ∷ text) e = by_test (is_code x y z w) refl e
  where
    by_test : (t : Bool) → is_code x y z w ≡ t → (if t then Some 5 else None) ≡ Some n → Fronts false q (92 ∷ 117 ∷ x ∷ y ∷ z ∷ w ∷ text) (1 + n)
    by_test true h is = let same : 5 ≡ n = cc in subst (λ (k : ℕ). Fronts false q (92 ∷ 117 ∷ x ∷ y ∷ z ∷ w ∷ text) (1 + k)) same (record { item = Code x y z w; stands = h; spells = refl; some = omega arith; within = omega arith })
    by_test false h is = cc

escape_front : (b : Bool) (q n : ℕ) (text : List ℕ) → escape_size b text ≡ Some n → Fronts b q (92 ∷ text) (1 + n)
unfolding escape_size
escape_front b q n [] e = cc
escape_front b q n (c ∷ rest) e = by_test (is_mark c) (c == 120) (c == 117) b refl refl refl refl e
  where
    by_test : (s t u a : Bool) → is_mark c ≡ s → (c == 120) ≡ t → (c == 117) ≡ u → b ≡ a → (if s then Some 1 else if t then hex_escape rest else if u && not a then code_escape rest else None) ≡ Some n → Fronts b q (92 ∷ c ∷ rest) (1 + n)
    by_test true t u a h j k l is = let same : 1 ≡ n = cc in subst (λ (k : ℕ). Fronts b q (92 ∷ c ∷ rest) (1 + k)) same (record { item = Mark c; stands = h; spells = refl; some = omega arith; within = omega arith })
    by_test false true u a h j k l is = let same : 120 ≡ c = grind arith in subst (λ (d : ℕ). Fronts b q (92 ∷ d ∷ rest) (1 + n)) same (hex_front b q n rest is)
    by_test false false true true h j k l is = cc
    by_test false false true false h j k l is = let same : 117 ≡ c = grind arith in subst (λ (a : Bool). Fronts a q (92 ∷ c ∷ rest) (1 + n)) (sym l) (subst (λ (d : ℕ). Fronts false q (92 ∷ d ∷ rest) (1 + n)) same (code_front q n rest is))
    by_test false false false a h j k l is = cc

plain_byte : (b : Bool) (c : ℕ) → (c == 10) ≡ false → (c == 92) ≡ false → (b && not (nat_lt c 128)) ≡ false → is_plain b c ≡ true
plain_byte b c h j k = by_test (c == 10) (c == 92) b (nat_lt c 128) h j k
  where
    by_test : (s t a l : Bool) → s ≡ false → t ≡ false → a && not l ≡ false → not s && not t && (l || not a) ≡ true
    by_test true t a l h j k = cc
    by_test false true a l h j k = cc
    by_test false false a true h j k = refl
    by_test false false true false h j k = cc
    by_test false false false false h j k = refl

no_feed : (c : ℕ) (rest : List ℕ) → nat_lt 0 (line_end_size (c ∷ rest)) ≡ false → (c == 10) ≡ false
no_feed c rest h = by_test (c == 10) h
  where
    by_test : (b : Bool) → nat_lt 0 (if b then 1 else if (c == 13) && is_feed rest then 2 else 0) ≡ false → b ≡ false
    by_test true e = cc
    by_test false e = refl

item_front : (b : Bool) (q c n : ℕ) (rest : List ℕ) → (c == q) ≡ false → item_size b (c ∷ rest) ≡ Some n → Fronts b q (c ∷ rest) n
unfolding item_size
item_front b q c n rest other e = by_test (nat_lt 0 (line_end_size (c ∷ rest))) (c == 92) (b && not (nat_lt c 128)) (escape_size b rest) refl refl refl refl e
  where
    by_test : (r s t : Bool) (x : Option ℕ) → nat_lt 0 (line_end_size (c ∷ rest)) ≡ r → (c == 92) ≡ s → (b && not (nat_lt c 128)) ≡ t → escape_size b rest ≡ x
        → (if r then None else if s then option_map (λ n. 1 + n) x else if t then None else Some 1) ≡ Some n → Fronts b q (c ∷ rest) n
    by_test true s t x g h j k is = cc
    by_test false true t None g h j k is = cc
    by_test false true t (Some m) g h j k is =
        let same : 92 ≡ c = grind arith in
        let size : 1 + m ≡ n = cc in
        subst (λ (d : ℕ). Fronts b q (d ∷ rest) n) same (subst (λ (l : ℕ). Fronts b q (92 ∷ rest) l) size (escape_front b q m rest k))
    by_test false false true x g h j k is = cc
    by_test false false false x g h j k is =
        let same : 1 ≡ n = cc in
        subst (λ (l : ℕ). Fronts b q (c ∷ rest) l) same (record { item = Byte c; stands = and_from (not (c == q)) (is_plain b c) (ap not other) (plain_byte b c (no_feed c rest g) h j); spells = refl; some = omega arith; within = omega arith })

-- the rest of a literal, of so many bytes
pub record IsBody (b : Bool) (q : ℕ) (text : List ℕ) (n : ℕ) : Type 0 where
  pub items : List Item
  pub stand : all_may_stand b q items ≡ true
  pub spells : take n text ≡ body q items
  pub within : n ≤ length text

pub take_both : (m n : ℕ) (text : List ℕ) → m ≤ length text → take (m + n) text ≡ take m text ++ take n (drop m text)
take_both zero n text h = let e : 0 + n ≡ n = omega arith in ap (λ (k : ℕ). take k text) e
take_both (suc m) n [] h = absurd (omega (arith, h))
take_both (suc m) n (c ∷ cs) h = let e : suc m + n ≡ suc (m + n) = omega arith in ap (λ (k : ℕ). take k (c ∷ cs)) e ∙ ap (λ (t : List ℕ). c ∷ t) (take_both m n cs (omega (arith, h)))

size_found : (q : ℕ) (b : Bool) (c n : ℕ) (rest : List ℕ) (item : Option ℕ) → (c == q) ≡ false → item_size b (c ∷ rest) ≡ item → literal_size q b 0 (c ∷ rest) ≡ Some n → item ≡ None → ⊥
unfolding literal_size
size_found q b c n rest item other is e none = let nothing : literal_size q b 0 (c ∷ rest) ≡ None = rw (other, is ∙ none) refl in cc

add_body : (b : Bool) (q c k n : ℕ) (rest : List ℕ) → Fronts b q (c ∷ rest) (suc k) → IsBody b q (drop k rest) n → IsBody b q (c ∷ rest) (suc k + n)
add_body b q c k n rest f r = record {
  items = f.item ∷ r.items;
  stand = and_from (may_stand b q f.item) (all_may_stand b q r.items) f.stands r.stand;
  spells = take_both (suc k) n (c ∷ rest) f.within ∙ ap (λ (t : List ℕ). t ++ take n (drop k rest)) f.spells ∙ ap (λ (t : List ℕ). spelled f.item ++ t) r.spells ∙ sym (append_assoc (spelled f.item) (flat_map spelled r.items) (q ∷ []));
  within = let long : length (drop k rest) ≡ length rest - k = grind (arith, common_steps) in let front = f.within in let more = r.within in omega (arith, long, front, more);
}

-- the sizes of an item and of what follows it
sizes : (k n : ℕ) (x : Option ℕ) → option_map (λ m. k + m) x ≡ Some n → (m : ℕ) × (x ≡ Some m) × (n ≡ k + m)
sizes k n None e = cc
sizes k n (Some m) e = (m, refl, cc)

no_more : (q n : ℕ) (b : Bool) → literal_size q b 0 [] ≡ Some n → ⊥
unfolding literal_size
no_more q n b e = cc

pub literal_body : (fuel : ℕ) (b : Bool) (q n : ℕ) (text : List ℕ) → length text ≤ fuel → literal_size q b 0 text ≡ Some n → IsBody b q text n
literal_body fuel b q n [] h e = absurd (no_more q n b e)
literal_body zero b q n (c ∷ rest) h e = absurd (omega (arith, h))
literal_body (suc fuel) b q n (c ∷ rest) h e = by_test (c == q) (item_size b (c ∷ rest)) refl refl (λ m more short read. literal_body fuel b q m more short read)
  where
    by_size : (k : ℕ) → (c == q) ≡ false → item_size b (c ∷ rest) ≡ Some k → Fronts b q (c ∷ rest) k → ((m : ℕ) (more : List ℕ) → length more ≤ fuel → literal_size q b 0 more ≡ Some m → IsBody b q more m) → IsBody b q (c ∷ rest) n
    by_size zero other is f further = absurd (omega (arith, f.some))
    by_size (suc k) other is f further =
        let both = sizes (suc k) n (literal_size q b 0 (drop k rest)) (sym (one_item q b c rest k other is) ∙ e) in
        let long : length (drop k rest) ≡ length rest - k = grind (arith, common_steps) in
        let short : length (drop k rest) ≤ fuel = omega (arith, long, h) in
        subst (λ (l : ℕ). IsBody b q (c ∷ rest) l) (sym both.2) (add_body b q c k both.0 rest f (further both.0 (drop k rest) short both.1))

    by_test : (t : Bool) (x : Option ℕ) → (c == q) ≡ t → item_size b (c ∷ rest) ≡ x → ((m : ℕ) (more : List ℕ) → length more ≤ fuel → literal_size q b 0 more ≡ Some m → IsBody b q more m) → IsBody b q (c ∷ rest) n
    by_test true x h is further =
        let last : 1 ≡ n = some_inside (sym (quoted q b c rest h) ∙ e) in
        let same : c ≡ q = grind arith in
        subst (λ (l : ℕ). IsBody b q (c ∷ rest) l) last (record { items = []; stand = refl; spells = ap (λ (d : ℕ). d ∷ []) same; within = omega arith })
      where
        some_inside : Some 1 ≡ Some n → 1 ≡ n
        some_inside e = cc
    by_test false None h is further = absurd (size_found q b c n rest None h is e refl)
    by_test false (Some k) h is further = by_size k h is (item_front b q c k rest h is) further
