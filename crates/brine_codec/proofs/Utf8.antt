-- The test of UTF-8, from what the library's reader says.
use Rattle.std.proofs.Common.{◌≡◌, ℕ, List, ◌∷◌, length, Bool, true, false, Ok, Err, refl, sym, ap, ◌∙◌}
use Rattle.std.specs.Prelude.{if◌then◌else◌}
use Rattle.rp_base.specs.declared.plain.Plain.TheVariants as plain
use Rattle.brine_codec.specs.declared.tag.Tag.{Tag}
use Rattle.brine_codec.specs.declared.tag.Tag.TheVariants as tags
use Rattle.brine_codec.specs.declared.tag.Size.{Size}
use Rattle.brine_codec.specs.declared.ends.BrineKind.TheVariants as kinds
use Rattle.brine_codec.specs.Reading.{◌>>=◌, tag_at, bytes_at, text_by, text_at}
use Rattle.std.specs.Str.{IsUtf8, is_utf8}
use Rattle.std.proofs.lemmas.Str.{IsUtf8-from_is_utf8, is_utf8-from_IsUtf8}

pub utf8_passes : (bytes : List ℕ) → IsUtf8 bytes → is_utf8 bytes ≡ true
utf8_passes bytes h = is_utf8-from_IsUtf8 bytes h

pub utf8_fails : (bytes : List ℕ) → (IsUtf8 bytes → ⊥) → is_utf8 bytes ≡ false
utf8_fails bytes h = by_test (is_utf8 bytes) (λ e. h (IsUtf8-from_is_utf8 bytes e))
  where
    by_test : (test : Bool) → (test ≡ true → ⊥) → test ≡ false
    by_test true never = absurd (never refl)
    by_test false never = refl

-- ---- a text, by the byte string behind its tag

text_by_bytes : (left b : ℕ) (bytes rest t after : List ℕ) (size : Size) → bytes ≡ b ∷ rest → tag_at b ≡ tags.Bytes size → bytes_at 5 size (length bytes) rest ≡ Ok (t, after)
    → text_at left bytes ≡ (if is_utf8 t then Ok (plain.Text t, after) else Err (left, kinds.B7))
unfolding text_at
text_by_bytes left b bytes rest t after size is tag read =
    let there : bytes_at 5 size (length (b ∷ rest)) rest ≡ Ok (t, after) = ap (λ (x : List ℕ). bytes_at 5 size (length x) rest) (sym is) ∙ read in
    ap (text_at left) is ∙ ap (λ (x : Tag). text_by x left (length (b ∷ rest)) rest) tag ∙ ap (λ r. r >>= λ text. if is_utf8 text.0 then Ok (plain.Text text.0, text.1) else Err (left, kinds.B7)) there

pub text_is : (left b : ℕ) (bytes rest t after : List ℕ) (size : Size) → bytes ≡ b ∷ rest → tag_at b ≡ tags.Bytes size → bytes_at 5 size (length bytes) rest ≡ Ok (t, after) → IsUtf8 t
    → text_at left bytes ≡ Ok (plain.Text t, after)
text_is left b bytes rest t after size is tag read h = text_by_bytes left b bytes rest t after size is tag read ∙ rw (utf8_passes t h) refl

pub text_is_none : (left b : ℕ) (bytes rest t after : List ℕ) (size : Size) → bytes ≡ b ∷ rest → tag_at b ≡ tags.Bytes size → bytes_at 5 size (length bytes) rest ≡ Ok (t, after) → (IsUtf8 t → ⊥)
    → text_at left bytes ≡ Err (left, kinds.B7)
text_is_none left b bytes rest t after size is tag read h = text_by_bytes left b bytes rest t after size is tag read ∙ rw (utf8_fails t h) refl
