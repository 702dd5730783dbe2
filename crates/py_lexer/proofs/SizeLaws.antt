-- The size of what stands in front, one byte at a time.
use Rattle.std.proofs.Common.{◌≡◌, ◌<◌, ◌+◌, ◌-◌, ◌*◌, ◌^◌, take, get_or, ℕ, suc, List, [], ◌∷◌, ◌++◌, length, drop, refl, sym, ap, ◌∙◌, arith, ◌==◌}
use Rattle.std.specs.Prelude.{if◌then◌else◌}
use Rattle.py_lexer.specs.Spellings.{comment_size, line_end_size, hex_natural, hex_digit, count_in}
use Rattle.std.proofs.lemmas.Grind.{common_steps}
use Rattle.std.proofs.Math.Nat.{pow-suc, mul_assoc}
use Rattle.std.proofs.Math.Seq.{drop-cons}

-- one byte of a comment
pub step_in : (c : ℕ) (cs : List ℕ) → line_end_size (c ∷ cs) ≡ 0 → comment_size (c ∷ cs) ≡ 1 + comment_size cs
unfolding comment_size
step_in c cs e = ap (λ n. if n == 0 then 1 + comment_size cs else 0) e

pub comment_step : (text : List ℕ) (s : ℕ) → s < length text → line_end_size (take (length text - s) (drop s text)) ≡ 0 → comment_size (drop s text) ≡ 1 + comment_size (drop (s + 1) text)
comment_step text s h e =
    let whole : take (length text - s) (drop s text) ≡ drop s text = grind (arith, common_steps) in
    let split : drop s text ≡ get_or text s 0 ∷ drop (suc s) text = drop-cons text s 0 h in
    let one : suc s ≡ s + 1 = omega arith in
    let after : drop (suc s) text ≡ drop (s + 1) text = ap (λ (k : ℕ). drop k text) one in
    ap comment_size split ∙ step_in (get_or text s 0) (drop (suc s) text) (ap line_end_size (sym split) ∙ ap line_end_size (sym whole) ∙ e) ∙ ap (λ t. 1 + comment_size t) after

stop_in : (c : ℕ) (cs : List ℕ) (n : ℕ) → line_end_size (c ∷ cs) ≡ suc n → comment_size (c ∷ cs) ≡ 0
unfolding comment_size
stop_in c cs n e = ap (λ n. if n == 0 then 1 + comment_size cs else 0) e ∙ grind arith

length_push : (xs : List ℕ) (b : ℕ) → length (xs ++ (b ∷ [])) ≡ suc (length xs)
length_push [] b = refl
length_push (x ∷ xs) b = ap suc (length_push xs b)

shifted : (d k n e : ℕ) → d * 16 ^ suc k + (n * 16 + e) ≡ (d * 16 ^ k + n) * 16 + e
shifted d k n e = let one_more : d * 16 ^ suc k ≡ d * 16 ^ k * 16 = ap (λ (x : ℕ). d * x) (pow-suc 16 k) ∙ sym (mul_assoc d (16 ^ k) 16) in omega (arith, one_more)

-- one digit more counts units, and all before it sixteen times as much
pub hex_push : (xs : List ℕ) (b : ℕ) → hex_natural (xs ++ (b ∷ [])) ≡ hex_natural xs * 16 + count_in (hex_digit b)
hex_push [] b = omega arith
hex_push (x ∷ xs) b =
    ap (λ (k : ℕ). count_in (hex_digit x) * 16 ^ k + hex_natural (xs ++ (b ∷ []))) (length_push xs b)
    ∙ ap (λ (n : ℕ). count_in (hex_digit x) * 16 ^ suc (length xs) + n) (hex_push xs b)
    ∙ shifted (count_in (hex_digit x)) (length xs) (hex_natural xs) (count_in (hex_digit b))
