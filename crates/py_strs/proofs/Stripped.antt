-- What is left of a text after its white space is cut off at one end, and at both.
use Rattle.std.proofs.Common.{◌≡◌, ℕ, ◌-◌, Bool, true, false, not, List, [], ◌∷◌, ◌++◌, Option, Some, None, length, take, drop, refl, sym, ap, subst, ◌∙◌, arith, append_assoc, append-nil, IfSome, take-append-drop}
use Rattle.std.proofs.lemmas.Bool.{and_from, and_parts}
use Rattle.std.proofs.Math.Seq.{drop-length}
use Rattle.std.proofs.lemmas.Grind.{common_steps}
use Rattle.std.proofs.lemmas.List.{reverse-append}
use Rattle.std.proofs.lemmas.Str.{IsUtf8-past_char, IsUtf8-take, IsUtf8-encode, chars_past_char, chars-append, encodes-chars, scalars-chars, encodes-append, len_utf8_bounds, IsCharBoundary-from_drop, chars_from_encodes}
use Rattle.std.specs.Char.{IsScalar}
use Rattle.std.specs.Str.{chars, IsUtf8}
use Rattle.std.specs.Str.Pattern.{FindsPrefixBy, FindsSuffixBy, CutsPrefixes, CutsSuffixes, IsTrimStartMatches, IsTrimEndMatches}
use lib.Utf8.{encode, encodes, scalar, scalars}
use Rattle.py_strs.specs.Spaces.{is_space, all_spaces, begins_bare, ends_bare, IsStripped}

pub spaces_join : (xs ys : List ℕ) → all_spaces xs ≡ true → all_spaces ys ≡ true → all_spaces (xs ++ ys) ≡ true
spaces_join [] ys h k = k
spaces_join (x ∷ xs) ys h k = let parts = and_parts (is_space x) (all_spaces xs) h in and_from (is_space x) (all_spaces (xs ++ ys)) parts.0 (spaces_join xs ys parts.1 k)

low : (c : ℕ) → is_space c ≡ true → IsScalar c
low c h = grind (arith, common_steps)

pub bare : (c : ℕ) → is_space c ≡ false → not (is_space c) ≡ true
bare c h = ap not h

pub record FrontCut (s r : List ℕ) : Type 0 where
  pub text : IsUtf8 r
  pub front : List ℕ
  pub split : chars s ≡ front ++ chars r
  pub spaces : all_spaces front ≡ true

pub record BackCut (s r : List ℕ) : Type 0 where
  pub text : IsUtf8 r
  pub back : List ℕ
  pub split : chars s ≡ chars r ++ back
  pub spaces : all_spaces back ≡ true

module _ (R : List ℕ → Option ℕ → Type 0) (tells : (s : List ℕ) (o : Option ℕ) → R s o → FindsPrefixBy is_space s o) where
  cut_front : (s ns r : List ℕ) → IsUtf8 s → CutsPrefixes R s ns r → FrontCut s r
  cut_front s [] r us e = record { text = subst IsUtf8 (sym e) us; front = []; split = ap chars (sym e); spaces = refl }
  cut_front s (n ∷ ns) r us (m, cuts, match, is) =
      let before = cut_front s ns m us cuts in
      let one = tells m (Some n) match in
      let c : ℕ = one.0 in
      let split : m ≡ encode c ++ r = one.2.split ∙ ap (λ (l : List ℕ). encode c ++ l) (sym is) in
      let whole : chars s ≡ (before.front ++ (c ∷ [])) ++ chars r =
      before.split ∙ ap (λ (l : List ℕ). before.front ++ l) (chars_past_char m r c before.text split) ∙ sym (append_assoc before.front (c ∷ []) (chars r)) in
      record {
        text = IsUtf8-past_char m r c before.text split;
        front = before.front ++ (c ∷ []);
        split = whole;
        spaces = spaces_join before.front (c ∷ []) before.spaces (and_from (is_space c) true one.1 refl);
      }

  no_front_at : (cs : List ℕ) → scalars cs ≡ true → ((c : ℕ) (rest : List ℕ) → IsScalar c → encodes cs ≡ encode c ++ rest → is_space c ≡ false) → begins_bare cs ≡ true
  no_front_at [] h none = refl
  no_front_at (c ∷ cs) h none = bare c (none c (encodes cs) (and_parts (scalar c) (scalars cs) h).0 refl)

  no_front : (r : List ℕ) (o : Option ℕ) → IsUtf8 r → R r o → IfSome o (λ n. n ≡ 0) → begins_bare (chars r) ≡ true
  no_front r None u h k = no_front_at (chars r) (scalars-chars r u) (λ c rest is e. tells r None h c rest is (sym (encodes-chars r u) ∙ e))
  no_front r (Some n) u h k = let one = tells r (Some n) h in absurd (omega (arith, k, one.2.ends, len_utf8_bounds one.0))

  pub front_trimmed : (s r : List ℕ) → IsUtf8 s → IsTrimStartMatches R s r → FrontCut s r × (begins_bare (chars r) ≡ true)
  front_trimmed s r us ((ns, cuts), (o, match, left)) = let cut = cut_front s ns r us cuts in (cut, no_front r o cut.text match left)

scalars_last : (cs : List ℕ) (c : ℕ) → scalars (cs ++ (c ∷ [])) ≡ true → IsScalar c
scalars_last [] c h = (and_parts (scalar c) true h).0
scalars_last (d ∷ cs) c h = scalars_last cs c (and_parts (scalar d) (scalars (cs ++ (c ∷ []))) h).1

last_of : (c : ℕ) (cs : List ℕ) → (front : List ℕ) × (last : ℕ) × (c ∷ cs ≡ front ++ (last ∷ []))
last_of c [] = ([], c, refl)
last_of c (d ∷ cs) = let more = last_of d cs in (c ∷ more.0, more.1, ap (λ (l : List ℕ). c ∷ l) more.2)

pub bare_end : (front : List ℕ) (c : ℕ) → is_space c ≡ false → ends_bare (front ++ (c ∷ [])) ≡ true
bare_end front c h = ap begins_bare (reverse-append front (c ∷ [])) ∙ bare c h

module _ (R : List ℕ → Option ℕ → Type 0) (tells : (s : List ℕ) (o : Option ℕ) → R s o → FindsSuffixBy is_space s o) where
  cut_back : (s ns r : List ℕ) → IsUtf8 s → CutsSuffixes R s ns r → BackCut s r
  cut_back s [] r us e = record { text = subst IsUtf8 (sym e) us; back = []; split = ap chars (sym e) ∙ sym (append-nil (chars r)); spaces = refl }
  cut_back s (n ∷ ns) r us (m, cuts, match, is) =
      let before = cut_back s ns m us cuts in
      let one = tells m (Some n) match in
      let c : ℕ = one.0 in
      let at : ℕ = length m - n in
      let last : drop at m ≡ encode c = one.2.split ∙ ap (λ (l : List ℕ). encode c ++ l) (drop-length m) ∙ append-nil (encode c) in
      let split : m ≡ r ++ encode c = sym (take-append-drop at m) ∙ ap (λ (l : List ℕ). take at m ++ l) last ∙ ap (λ (l : List ℕ). l ++ encode c) (sym is) in
      let cut = IsCharBoundary-from_drop m at (omega arith) (subst IsUtf8 (sym last) (IsUtf8-encode c (low c one.1))) in
      let left : IsUtf8 r = subst IsUtf8 (sym is) (IsUtf8-take m at before.text cut) in
      let single : chars (encode c) ≡ c ∷ [] = sym (chars_from_encodes (c ∷ []) (encode c) (IsUtf8-encode c (low c one.1)) (append-nil (encode c))) in
      let parts : chars m ≡ chars r ++ (c ∷ []) = ap chars split ∙ chars-append r (encode c) left ∙ ap (λ (l : List ℕ). chars r ++ l) single in
      record {
        text = left;
        back = c ∷ before.back;
        split = before.split ∙ ap (λ (l : List ℕ). l ++ before.back) parts ∙ append_assoc (chars r) (c ∷ []) before.back;
        spaces = and_from (is_space c) (all_spaces before.back) one.1 before.spaces;
      }

  no_back_at : (cs : List ℕ) → scalars cs ≡ true → ((c : ℕ) (front : List ℕ) → IsScalar c → encodes cs ≡ front ++ encode c → is_space c ≡ false) → ends_bare cs ≡ true
  no_back_at [] h none = refl
  no_back_at (c ∷ cs) h none =
      let end = last_of c cs in
      let scalar_end : IsScalar end.1 = scalars_last end.0 end.1 (subst (λ (l : List ℕ). scalars l ≡ true) end.2 h) in
      let bytes : encodes (c ∷ cs) ≡ encodes end.0 ++ encode end.1 = ap encodes end.2 ∙ encodes-append end.0 (end.1 ∷ []) ∙ ap (λ (l : List ℕ). encodes end.0 ++ l) (append-nil (encode end.1)) in
      subst (λ (l : List ℕ). ends_bare l ≡ true) (sym end.2) (bare_end end.0 end.1 (none end.1 (encodes end.0) scalar_end bytes))

  no_back : (r : List ℕ) (o : Option ℕ) → IsUtf8 r → R r o → IfSome o (λ n. n ≡ 0) → ends_bare (chars r) ≡ true
  no_back r None u h k = no_back_at (chars r) (scalars-chars r u) (λ c front is e. tells r None h c front is (sym (encodes-chars r u) ∙ e))
  no_back r (Some n) u h k = let one = tells r (Some n) h in absurd (omega (arith, k, one.2.ends, len_utf8_bounds one.0))

  pub back_trimmed : (s r : List ℕ) → IsUtf8 s → IsTrimEndMatches R s r → BackCut s r × (ends_bare (chars r) ≡ true)
  back_trimmed s r us ((ns, cuts), (o, match, left)) = let cut = cut_back s ns r us cuts in (cut, no_back r o cut.text match left)

still_bare : (cs back : List ℕ) → begins_bare (cs ++ back) ≡ true → begins_bare cs ≡ true
still_bare [] back h = refl
still_bare (c ∷ cs) back h = h

pub stripped : (s m r : List ℕ) → FrontCut s m × (begins_bare (chars m) ≡ true) → BackCut m r × (ends_bare (chars r) ≡ true) → IsStripped (chars s) (chars r)
stripped s m r (front, starts) (back, stops) =
    record {
      front = front.front;
      back = back.back;
      split = front.split ∙ ap (λ (l : List ℕ). front.front ++ l) back.split;
      front_spaces = front.spaces;
      back_spaces = back.spaces;
      starts = still_bare (chars r) back.back (subst (λ (l : List ℕ). begins_bare l ≡ true) back.split starts);
      stops = stops;
    }

-- the same of a pattern that answers by a test
pub front_by : (Q : (ℕ → Bool) → Type 0) (s r : List ℕ) → IsUtf8 s → IsTrimStartMatches (λ t o. (k : ℕ → Bool) → Q k → FindsPrefixBy k t o) s r → Q is_space → FrontCut s r × (begins_bare (chars r) ≡ true)
front_by Q s r us h q = front_trimmed (λ t o. (k : ℕ → Bool) → Q k → FindsPrefixBy k t o) (λ t o tells. tells is_space q) s r us h

pub back_by : (Q : (ℕ → Bool) → Type 0) (s r : List ℕ) → IsUtf8 s → IsTrimEndMatches (λ t o. (k : ℕ → Bool) → Q k → FindsSuffixBy k t o) s r → Q is_space → BackCut s r × (ends_bare (chars r) ≡ true)
back_by Q s r us h q = back_trimmed (λ t o. (k : ℕ → Bool) → Q k → FindsSuffixBy k t o) (λ t o tells. tells is_space q) s r us h
