-- The worst of what one mention after another breaks.
use Rattle.std.proofs.Common.{◌≡◌, ◌∙◌, sym, ap, refl, ℕ, List, [], ◌∷◌, ◌++◌, take, drop, length, get_or, ◌<◌, ◌+◌, Option, drop-cons, add-one}
use Rattle.std.proofs.lemmas.Grind.{take_at_read}
use Rattle.rp_base.specs.declared.rules.Refused.{Refused}
use Rattle.py_ast.specs.declared.program.FunctionInfo.{FunctionInfo}
use Rattle.py_mentions.specs.Worst.{worst_with, worst_more}
use Rattle.py_mentions.specs.declared.mention.Mention.{Mention}
use Rattle.py_scope.specs.Rules.{breaks, breaks_from}

-- six steps are one
pub six_steps : (v0 v1 v2 v3 v4 v5 v6 : Option Refused) (a b c d e f : List Refused)
    → v1 ≡ worst_with v0 a → v2 ≡ worst_with v1 b → v3 ≡ worst_with v2 c → v4 ≡ worst_with v3 d → v5 ≡ worst_with v4 e → v6 ≡ worst_with v5 f
    → v6 ≡ worst_with v0 (a ++ (b ++ (c ++ (d ++ (e ++ f)))))
six_steps v0 v1 v2 v3 v4 v5 v6 a b c d e f h1 h2 h3 h4 h5 h6 =
    h6 ∙ ap (λ v. worst_with v f) h5 ∙ sym (worst_more v4 e f)
    ∙ ap (λ v. worst_with v (e ++ f)) h4 ∙ sym (worst_more v3 d (e ++ f))
    ∙ ap (λ v. worst_with v (d ++ (e ++ f))) h3 ∙ sym (worst_more v2 c (d ++ (e ++ f)))
    ∙ ap (λ v. worst_with v (c ++ (d ++ (e ++ f)))) h2 ∙ sym (worst_more v1 b (c ++ (d ++ (e ++ f))))
    ∙ ap (λ v. worst_with v (b ++ (c ++ (d ++ (e ++ f))))) h1 ∙ sym (worst_more v0 a (b ++ (c ++ (d ++ (e ++ f)))))

-- one mention more is judged
module _ (ms : List Mention) (fs : List FunctionInfo) (i : ℕ) (m d : Mention) (within : i < length ms) (at : get_or ms i d ≡ m) where
  taken : take (i + 1) ms ≡ take i ms ++ m ∷ []
  taken = (take_at_read ms i d within).1 ∙ ap (λ x. take i ms ++ x ∷ []) at

  left : drop i ms ≡ m ∷ drop (i + 1) ms
  left = drop-cons ms i d within ∙ (λ j. at j ∷ drop (sym (add-one i) j) ms)

  pub breaks_more : (v w : Option Refused) → w ≡ worst_with v (breaks ms fs (take i ms) m)
      → worst_with v (breaks_from ms fs (take i ms) (drop i ms)) ≡ worst_with w (breaks_from ms fs (take (i + 1) ms) (drop (i + 1) ms))
  unfolding breaks_from
  breaks_more v w h =
      ap (λ rest. worst_with v (breaks_from ms fs (take i ms) rest)) left
      ∙ worst_more v (breaks ms fs (take i ms) m) (breaks_from ms fs (take i ms ++ m ∷ []) (drop (i + 1) ms))
      ∙ (λ j. worst_with (sym h j) (breaks_from ms fs (sym taken j) (drop (i + 1) ms)))

pub breaks_none : (ms : List Mention) (fs : List FunctionInfo) (before : List Mention) (w : Option Refused) → worst_with w (breaks_from ms fs before []) ≡ w
unfolding breaks_from
breaks_none ms fs before w = refl
