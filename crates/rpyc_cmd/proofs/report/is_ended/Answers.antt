use Rattle.std.proofs.Common.{◌≡◌, ◌∙◌, ap, arith, ℕ, ◌-◌, ◌≤◌, ◌==◌, length, List, [], ◌∷◌, refl, slice_index_or}
use Rattle.rpyc_cmd.specs.Report.{ends_line}
use Rattle.rpyc_cmd.proofs.report.is_ended.Goals as goal

last_decides : (c : ℕ) (text : List ℕ) → (slice_index_or (c ∷ text) (length text) 0 == 10) ≡ ends_line (c ∷ text)
last_decides c [] = refl
last_decides c (d ∷ text) = last_decides d text

last_of : (text : List ℕ) → 1 ≤ length text → (slice_index_or text (length text - 1) 0 == 10) ≡ ends_line text
last_of [] h = absurd (omega arith)
last_of (c ∷ text) h =
    let e : length (c ∷ text) - 1 ≡ length text = omega arith in
    ap (λ k. slice_index_or (c ∷ text) k 0 == 10) e ∙ last_decides c text

pub returns-in-len1-up : goal.returns-in-len1-up
returns-in-len1-up c = last_of c.args.printed.now c.in-len1-up.len_at_least
