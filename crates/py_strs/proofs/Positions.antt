-- The character at a position, and what the iterator over characters gives.
use Rattle.std.proofs.Common.{◌≡◌, ℕ, ◌<◌, ◌≤◌, ◌^◌, List, [], ◌∷◌, ◌++◌, Option, Some, None, length, refl, sym, ap, subst, ◌∙◌, arith, append-nil, ℤ, pos, negsuc, ◌≤ℤ◌}
use Rattle.std.proofs.lemmas.Str.{IsUtf8-past_char, chars_past_char, encodes-chars, length-le-encodes}
use Rattle.std.proofs.lemmas.Int.{ints, to_z-of_z, to_z_pos}
use Rattle.std.specs.Result.{OkIff, result_ok}
use Rattle.std.proofs.Common.{Result, Ok, Err, true}
use mir.Val.{SFits, of_z, to_z}
use mir.Syntax.{w128}
use lib.Signed.{le_z}
use Rattle.std.proofs.lemmas.Option.{slice_get_past}
use Rattle.std.specs.Prelude.{unsigned_abs}
use Rattle.std.specs.Iterator.{Yields, SkipsThenYields}
use Rattle.std.specs.List.{slice_get}
use Rattle.std.specs.Str.{chars, IsUtf8}
use Rattle.std.specs.Str.Iter.{chars_rest, chars_steps}
use lib.Utf8.{encodes}
use Rattle.std.specs.declared.str.Chars.{Chars}
use Rattle.py_strs.specs.Searching.{character_behind}

yields : (s t : Chars) (xs : List ℕ) → IsUtf8 (chars_rest s) → Yields chars_steps s xs t → chars (chars_rest s) ≡ xs ++ chars (chars_rest t)
yields s t [] u h = ap (λ (x : Chars). chars (chars_rest x)) h
yields s t (x ∷ xs) u (j, step, later) =
    chars_past_char (chars_rest s) (chars_rest j) x u step.0
    ∙ ap (λ (l : List ℕ). x ∷ l) (yields j t xs (IsUtf8-past_char (chars_rest s) (chars_rest j) x u step.0) later)

behind_front : (xs ys : List ℕ) → slice_get (xs ++ ys) (length xs) ≡ slice_get ys 0
behind_front [] ys = refl
behind_front (x ∷ xs) ys = behind_front xs ys

no_first : (cs : List ℕ) → None ≡ slice_get cs 0 → cs ≡ []
no_first [] e = refl
no_first (c ∷ cs) e = cc

pub nth : (s u : Chars) (n : ℕ) (r : Option ℕ) → IsUtf8 (chars_rest s) → SkipsThenYields chars_steps s n r u → r ≡ slice_get (chars (chars_rest s)) n
nth s u n (Some x) us (xs, (t, run, step), size) =
    step.2 ∙ sym (behind_front xs (chars (chars_rest t))) ∙ ap (λ (l : List ℕ). slice_get l (length xs)) (sym (yields s t xs us run))
    ∙ ap (slice_get (chars (chars_rest s))) size
nth s u n None us (xs, (t, run, step), size) =
    let whole : chars (chars_rest s) ≡ xs = yields s t xs us run ∙ ap (λ (l : List ℕ). xs ++ l) (no_first (chars (chars_rest t)) step.2) ∙ append-nil xs in
    sym (slice_get_past (chars (chars_rest s)) n (subst (λ (l : List ℕ). length l ≤ n) (sym whole) size))

-- a text has no more characters than bytes
pub few : (s : List ℕ) → IsUtf8 s → length (chars s) ≤ length s
few s u = let same : length (encodes (chars s)) ≡ length s = ap length (encodes-chars s u) in omega (arith, same, length-le-encodes (chars s))

pub past_end : (cs : List ℕ) (z : ℤ) (n : ℕ) → length cs ≤ n → pos n ≤ℤ z → None ≡ character_behind cs z
past_end cs (pos m) n l h = sym (slice_get_past cs m (omega (arith, ints)))
past_end cs (negsuc m) n l h = refl

pub chosen : (cs : List ℕ) (z : ℤ) (n : ℕ) → pos 0 ≤ℤ z → n ≡ unsigned_abs z → slice_get cs n ≡ character_behind cs z
chosen cs (pos m) n low is = ap (slice_get cs) is
chosen cs (negsuc m) n low is = absurd (omega (arith, ints))

pub read_back : (z : ℤ) → SFits w128 z → to_z w128 (of_z w128 z) ≡ z
read_back z fits = to_z-of_z w128 z fits

pub ordered : (z : ℤ) (n : ℕ) → n < 2 ^ 64 → SFits w128 z → le_z (to_z w128 n) (to_z w128 (of_z w128 z)) ≡ true → pos n ≤ℤ z
ordered z n small fits e =
    let plain : le_z (pos n) z ≡ true = ap (λ (a : ℤ). le_z a z) (sym (to_z_pos w128 n (omega arith))) ∙ ap (λ (a : ℤ). le_z (to_z w128 n) a) (sym (to_z-of_z w128 z fits)) ∙ e in
    grind (arith, ints)

held : Option ℕ → ℕ
held (Some x) = x
held None = 0

pub picked : {E : Type 0} (r : Result ℕ E) (P : Type 0) (v n : ℕ) → OkIff r P v → Some n ≡ result_ok r → P × (n ≡ v)
unfolding held
picked (Ok x) P v n h e = (h.0, ap held e ∙ h.1)
picked (Err x) P v n h e = absurd (cc)
