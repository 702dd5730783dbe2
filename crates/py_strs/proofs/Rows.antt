-- Texts in a row, as bytes and as characters.
use Rattle.std.proofs.Common.{◌≡◌, ℕ, ◌+◌, ◌<◌, ◌≤◌, List, [], ◌∷◌, ◌++◌, length, map, sym, ap, subst, ◌∙◌, arith, append_assoc, append-nil, length-append, string_bytes, String}
use Rattle.std.proofs.lemmas.Str.{chars-append, chars-nil, encodes-chars, IsUtf8-string_bytes, IsUtf8-append, IsUtf8-nil}
use Rattle.std.specs.Str.{chars, IsUtf8}
use Rattle.std.proofs.Common.{suc, drop, get_or}
use Rattle.std.proofs.Math.Seq.{drop-cons}
use Rattle.std.proofs.Math.ListN.{drop_of_length-le}
use Rattle.rp_base.specs.Values.{heaviest_value}
use lib.Utf8.{encodes}
use Rattle.py_strs.specs.Joining.{characters, followed, joined, text_weight}

module _ (A : Type 0) (sep : List ℕ) (text : IsUtf8 sep) where
  pub followed_chars : (ps : List (String A)) → chars (followed sep (map string_bytes ps)) ≡ followed (chars sep) (map characters ps)
  followed_chars [] = chars-nil
  followed_chars (p ∷ ps) =
      chars-append sep (string_bytes p ++ followed sep (map string_bytes ps)) text
      ∙ ap (λ (l : List ℕ). chars sep ++ l) (chars-append (string_bytes p) (followed sep (map string_bytes ps)) (IsUtf8-string_bytes p) ∙ ap (λ (l : List ℕ). characters p ++ l) (followed_chars ps))

  pub joined_chars : (ps : List (String A)) → chars (joined sep (map string_bytes ps)) ≡ joined (chars sep) (map characters ps)
  joined_chars [] = chars-nil
  joined_chars (p ∷ ps) = chars-append (string_bytes p) (followed sep (map string_bytes ps)) (IsUtf8-string_bytes p) ∙ ap (λ (l : List ℕ). characters p ++ l) (followed_chars ps)

  followed_text : (ps : List (String A)) → IsUtf8 (followed sep (map string_bytes ps))
  followed_text [] = IsUtf8-nil
  followed_text (p ∷ ps) = IsUtf8-append sep (string_bytes p ++ followed sep (map string_bytes ps)) text (IsUtf8-append (string_bytes p) (followed sep (map string_bytes ps)) (IsUtf8-string_bytes p) (followed_text ps))

  joined_text : (ps : List (String A)) → IsUtf8 (joined sep (map string_bytes ps))
  joined_text [] = IsUtf8-nil
  joined_text (p ∷ ps) = IsUtf8-append (string_bytes p) (followed sep (map string_bytes ps)) (IsUtf8-string_bytes p) (followed_text ps)

  -- a row of texts weighs one more than its bytes
  pub joined_weight : (ps : List (String A)) → text_weight (joined (chars sep) (map characters ps)) ≡ 1 + length (joined sep (map string_bytes ps))
  joined_weight ps = ap (λ (l : List ℕ). 1 + length (encodes l)) (sym (joined_chars ps)) ∙ ap (λ (l : List ℕ). 1 + length l) (encodes-chars (joined sep (map string_bytes ps)) (joined_text ps))

pub text_bytes : {A : Type 0} (s : String A) → text_weight (characters s) ≡ 1 + length (string_bytes s)
text_bytes s = ap (λ (l : List ℕ). 1 + length l) (encodes-chars (string_bytes s) (IsUtf8-string_bytes s))

module _ (A : Type 0) (sep : List ℕ) (text : IsUtf8 sep) where
  abbrev Row : List (String A) → List ℕ
  Row parts = joined (chars sep) (map characters parts)

  abbrev bytes : List (String A) → List ℕ
  bytes parts = joined sep (map string_bytes parts)

  abbrev Made : String A → List (String A) → Type 0
  Made t parts = (characters t ≡ Row parts) × (text_weight (characters t) ≤ heaviest_value)

  abbrev Heavy : List (String A) → Type 0
  Heavy parts = heaviest_value < text_weight (Row parts)

  pub empty_row : (t : String A) (parts : List (String A)) → length parts < 1 → string_bytes t ≡ [] → Made t parts
  empty_row t [] l e =
      let none : characters t ≡ [] = ap chars e ∙ chars-nil in
      (none, subst (λ (cs : List ℕ). text_weight cs ≤ heaviest_value) (sym none) (omega arith))
  empty_row t (p ∷ ps) l e = absurd (omega arith)

  too_long : (parts : List (String A)) (made more rest : List ℕ) → made ++ (more ++ rest) ≡ bytes parts → heaviest_value ≤ length made + length more → Heavy parts
  too_long parts made more rest e h =
      let size : length (bytes parts) ≡ length made + (length more + length rest) = ap length (sym e) ∙ length-append made (more ++ rest) ∙ ap (λ (n : ℕ). length made + n) (length-append more rest) in
      subst (λ (n : ℕ). heaviest_value < n) (sym (joined_weight A sep text parts)) (omega (arith, size, h))

  pub first_long : (parts : List (String A)) (x : String A) (made first : List ℕ) → 1 ≤ length parts → x ≡ get_or parts 0 x → made ≡ [] → first ≡ string_bytes x → heaviest_value ≤ length made + length first → Heavy parts
  first_long [] x made first l is none shown h = absurd (omega arith)
  first_long (p ∷ ps) x made first l is none shown h =
      too_long (p ∷ ps) [] first (followed sep (map string_bytes ps)) (ap (λ (b : List ℕ). b ++ followed sep (map string_bytes ps)) (shown ∙ ap string_bytes is))
      (subst (λ (b : List ℕ). heaviest_value ≤ length b + length first) none h)

  pub next_long : (parts others : List (String A)) (i : ℕ) (x : String A) (made part : List ℕ) → i < length others → x ≡ get_or others i x → part ≡ string_bytes x → made ++ followed sep (map string_bytes (drop i others)) ≡ bytes parts → heaviest_value ≤ length made + (length sep + length part) → Heavy parts
  next_long parts others i x made part l is shown e h =
      let rest : List ℕ = followed sep (map string_bytes (drop (suc i) others)) in
      let next : drop i others ≡ x ∷ drop (suc i) others = drop-cons others i x l ∙ ap (λ (y : String A). y ∷ drop (suc i) others) (sym is) in
      let shape : followed sep (map string_bytes (drop i others)) ≡ (sep ++ part) ++ rest =
      ap (λ (l : List (String A)). followed sep (map string_bytes l)) next ∙ ap (λ (b : List ℕ). sep ++ (b ++ rest)) (sym shown) ∙ sym (append_assoc sep part rest) in
      too_long parts made (sep ++ part) rest (ap (λ (b : List ℕ). made ++ b) (sym shape) ∙ e) (subst (λ (n : ℕ). heaviest_value ≤ length made + n) (sym (length-append sep part)) h)

  pub all_done : (t : String A) (parts others : List (String A)) (i : ℕ) → length others ≤ i → string_bytes t ++ followed sep (map string_bytes (drop i others)) ≡ bytes parts → length (string_bytes t) < heaviest_value → Made t parts
  all_done t parts others i l e fits =
      let none : drop i others ≡ [] = drop_of_length-le others l in
      let whole : string_bytes t ≡ bytes parts = sym (append-nil (string_bytes t)) ∙ ap (λ (l : List (String A)). string_bytes t ++ followed sep (map string_bytes l)) (sym none) ∙ e in
      (ap chars whole ∙ joined_chars A sep text parts, subst (λ (n : ℕ). n ≤ heaviest_value) (sym (text_bytes t)) (omega arith))
