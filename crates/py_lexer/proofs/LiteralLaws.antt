-- Reading a literal, an item at a time.
use Rattle.std.proofs.Common.{◌≡◌, ◌≢◌, ◌<◌, ◌≤◌, ◌+◌, ◌-◌, take, drop, slice_index_or, ℕ, zero, suc, List, [], ◌∷◌, length, Bool, true, false, Option, Some, None, option_map, refl, sym, ap, ◌∙◌, arith, ◌==◌}
use Rattle.std.proofs.lemmas.Grind.{common_steps}
use Rattle.py_lexer.specs.Literals.{literal_size, item_size, on_item}

pub place : (rest : List ℕ) (at : ℕ) → at < length rest → drop at rest ≡ slice_index_or rest at 0 ∷ drop (suc at) rest
place [] at h = absurd (omega arith)
place (c ∷ cs) zero h = refl
place (c ∷ cs) (suc at) h = place cs at (omega arith)

pub whole : (rest : List ℕ) (at : ℕ) → take (length rest - at) (drop at rest) ≡ drop at rest
whole rest at = grind (arith, common_steps)

none : (q : ℕ) (b : Bool) (k : ℕ) → literal_size q b k [] ≡ None
unfolding literal_size
none q b zero = refl
none q b (suc k) = refl

moved : (k : ℕ) (x : Option ℕ) → option_map (λ n. 1 + n) (option_map (λ n. k + n) x) ≡ option_map (λ n. suc k + n) x
moved k None = refl
moved k (Some n) = let e : 1 + (k + n) ≡ suc k + n = omega arith in ap (λ (m : ℕ). Some m) e

unmoved : (x : Option ℕ) → option_map (λ n. 0 + n) x ≡ x
unmoved None = refl
unmoved (Some n) = let e : 0 + n ≡ n = omega arith in ap (λ (m : ℕ). Some m) e

-- bytes of an item that was begun are passed over
skip : (q : ℕ) (b : Bool) (k : ℕ) (text : List ℕ) → literal_size q b k text ≡ option_map (λ n. k + n) (literal_size q b 0 (drop k text))
unfolding literal_size
skip q b zero text = sym (unmoved (literal_size q b 0 text))
skip q b (suc k) [] = refl
skip q b (suc k) (c ∷ cs) = ap (option_map (λ n. 1 + n)) (skip q b k cs) ∙ moved k (literal_size q b 0 (drop k cs))

pub quoted : (q : ℕ) (b : Bool) (c : ℕ) (cs : List ℕ) → c == q ≡ true → literal_size q b 0 (c ∷ cs) ≡ Some 1
unfolding literal_size
quoted q b c cs e = rw e refl

unquoted : (q : ℕ) (b : Bool) (c : ℕ) (cs : List ℕ) (item : Option ℕ) → c == q ≡ false → item_size b (c ∷ cs) ≡ item
    → literal_size q b 0 (c ∷ cs) ≡ on_item (λ k. option_map (λ n. 1 + n) (literal_size q b k cs)) item
unfolding literal_size
unquoted q b c cs item e is = rw (e, is) refl

pub one_item : (q : ℕ) (b : Bool) (c : ℕ) (cs : List ℕ) (n : ℕ) → c == q ≡ false → item_size b (c ∷ cs) ≡ Some (suc n)
    → literal_size q b 0 (c ∷ cs) ≡ option_map (λ m. suc n + m) (literal_size q b 0 (drop n cs))
one_item q b c cs n e is =
    let back : suc n - 1 ≡ n = omega arith in
    unquoted q b c cs (Some (suc n)) e is ∙ ap (λ (k : ℕ). option_map (λ m. 1 + m) (literal_size q b k cs)) back ∙ ap (option_map (λ m. 1 + m)) (skip q b n cs) ∙ moved n (literal_size q b 0 (drop n cs))

pub quote_at : (q : ℕ) (b : Bool) (at : ℕ) (rest : List ℕ) → at < length rest → slice_index_or rest at 0 ≡ q → literal_size q b 0 (drop at rest) ≡ Some 1
quote_at q b at rest h e = ap (literal_size q b 0) (place rest at h) ∙ quoted q b (slice_index_or rest at 0) (drop (suc at) rest) (grind arith)

pub bad_at : (q : ℕ) (b : Bool) (at : ℕ) (rest : List ℕ) → at < length rest → slice_index_or rest at 0 ≢ q → None ≡ item_size b (take (length rest - at) (drop at rest)) → literal_size q b 0 (drop at rest) ≡ None
bad_at q b at rest h e is =
    ap (literal_size q b 0) (place rest at h) ∙ unquoted q b (slice_index_or rest at 0) (drop (suc at) rest) None (grind arith) (ap (item_size b) (sym (place rest at h)) ∙ ap (item_size b) (sym (whole rest at)) ∙ sym is)

pub end_at : (q : ℕ) (b : Bool) (at : ℕ) (rest : List ℕ) → length rest ≤ at → literal_size q b 0 (drop at rest) ≡ None
end_at q b at rest h = let e : drop at rest ≡ [] = grind (arith, common_steps) in ap (literal_size q b 0) e ∙ none q b 0

further : (at n : ℕ) (x : Option ℕ) → option_map (λ k. at + k) (option_map (λ m. n + m) x) ≡ option_map (λ k. at + n + k) x
further at n None = refl
further at n (Some k) = let e : at + (n + k) ≡ at + n + k = omega arith in ap (λ (m : ℕ). Some m) e

pub behind : (at n : ℕ) (rest : List ℕ) → drop n (drop (suc at) rest) ≡ drop (at + suc n) rest
behind zero n [] = grind (arith, common_steps)
behind (suc at) n [] = grind (arith, common_steps)
behind zero n (c ∷ cs) = let e : 0 + suc n ≡ suc n = omega arith in ap (λ (k : ℕ). drop k (c ∷ cs)) (sym e)
behind (suc at) n (c ∷ cs) = let e : suc (at + suc n) ≡ suc at + suc n = omega arith in behind at n cs ∙ ap (λ (k : ℕ). drop k (c ∷ cs)) e

pub item_at : (q : ℕ) (b : Bool) (at n : ℕ) (rest : List ℕ) → at < length rest → slice_index_or rest at 0 ≢ q → Some n ≡ item_size b (take (length rest - at) (drop at rest)) → 0 < n
    → option_map (λ k. at + k) (literal_size q b 0 (drop at rest)) ≡ option_map (λ k. at + n + k) (literal_size q b 0 (drop (at + n) rest))
item_at q b at zero rest h e is some = absurd (omega arith)
item_at q b at (suc n) rest h e is some =
    ap (λ t. option_map (λ k. at + k) (literal_size q b 0 t)) (place rest at h)
    ∙ ap (option_map (λ k. at + k)) (one_item q b (slice_index_or rest at 0) (drop (suc at) rest) n (grind arith) (ap (item_size b) (sym (place rest at h)) ∙ ap (item_size b) (sym (whole rest at)) ∙ sym is))
    ∙ further at (suc n) (literal_size q b 0 (drop n (drop (suc at) rest)))
    ∙ ap (λ t. option_map (λ k. at + suc n + k) (literal_size q b 0 t)) (behind at n rest)
