-- The texts of exceptions.
use Rattle.std.proofs.Common.{◌≡◌, ◌+◌, ℕ, Bool, nat_lt, List, [], ◌∷◌, ◌++◌, length, map, reverse, codes, Result, Ok, Err, if◌then◌else◌, refl, sym, ◌∙◌, ap}
use Rattle.std.proofs.lemmas.List.{append_assoc, append-nil}
use Rattle.rp_base.specs.Names.{exception_name}
use Rattle.rp_base.specs.declared.exceptions.Beyond.{Beyond}
use Rattle.rp_base.specs.declared.exceptions.Beyond.TheVariants as beyond
use Rattle.rp_base.specs.declared.exceptions.ExcKind.{ExcKind}
use Rattle.rp_base.specs.declared.plain.Plain.{Plain}
use Rattle.rp_base.specs.declared.plain.Plain.TheVariants as plain
use Rattle.rp_base.specs.declared.value.Value.TheVariants as value
use Rattle.rp_base.specs.PlainValues.{plain_weight}
use Rattle.rp_base.specs.Values.{heaviest_value}
use Rattle.py_plain.specs.Arithmetic.{limited}
use Rattle.py_plain.specs.declared.ends.PlainEnd.{PlainEnd}
use Rattle.py_plain.specs.declared.ends.PlainEnd.TheVariants as end
use Rattle.py_plain.specs.Printing.{repr_of}
use Rattle.py_plain.specs.PrintingLaws.{repr_tuple}
use Rattle.py_strs.specs.Joining.{joined}
use Rattle.side_trees.specs.Trees.{Stop, bind}
use Rattle.language_rules.specs.Answers.{answers}
use Rattle.language_rules.specs.Codes.{Gives}
use Rattle.language_rules.specs.Exceptions.{exception_repr}
use Rattle.eval_frames.specs.declared.frame.Frame.{Frame}
use Rattle.eval_frames.specs.declared.next.Next.TheVariants as next
use Rattle.eval_frames.specs.Meaning.{Means, rest}
use Rattle.eval_handlers.specs.Telling.{TextComes, printed_repr}

-- a text by whether it is too heavy
abbrev judged : Bool → List ℕ → Result Plain PlainEnd
judged heavy t = if heavy then Err (end.Beyond beyond.Size) else Ok (plain.Text t)

limited_text : (t : List ℕ) → limited (plain.Text t) ≡ judged (nat_lt heaviest_value (1 + length t)) t
unfolding plain_weight
limited_text t = refl

pub text_told : (t made : List ℕ) (stack : List Frame) → TextComes t (Ok made) → Means stack (next.Give (Gives (value.Plain (plain.Text made)))) (answers (limited (plain.Text t))) stack
text_told t made stack h =
    ap (λ (m : List ℕ). rest (reverse stack) (Gives (value.Plain (plain.Text m)))) h.0
    ∙ sym (ap (λ (r : Result Plain PlainEnd). bind (answers r) (rest (reverse stack))) (limited_text t ∙ ap (λ (b : Bool). judged b t) h.1))

pub text_left : (t : List ℕ) (b : Beyond) (stack : List Frame) → TextComes t (Err (end.Beyond b)) → Means stack (next.Leave b) (answers (limited (plain.Text t))) stack
text_left t b stack h =
    ap (λ (x : Beyond). Stop x) h.0
    ∙ sym (ap (λ (r : Result Plain PlainEnd). bind (answers r) (rest (reverse stack))) (limited_text t ∙ ap (λ (c : Bool). judged c t) h.1))

grouped : (n o j c : List ℕ) → n ++ ((o ++ j) ++ c) ≡ ((n ++ o) ++ j) ++ c
grouped n o j c = sym (append_assoc n (o ++ j) c) ∙ ap (λ (t : List ℕ). t ++ c) (sym (append_assoc n o j))

pub repr_printed : (k : ExcKind) (ps : List Plain) → printed_repr k ps ≡ exception_repr k ps
repr_printed k [] = ap (λ (t : List ℕ). exception_name k ++ t) (repr_tuple []) ∙ grouped (exception_name k) (codes "(") [] (codes ")")
repr_printed k (p ∷ []) = ap (λ (t : List ℕ). ((exception_name k ++ codes "(") ++ t) ++ codes ")") (sym (append-nil (repr_of p)))
repr_printed k (p ∷ q ∷ ps) = ap (λ (t : List ℕ). exception_name k ++ t) (repr_tuple (p ∷ q ∷ ps)) ∙ grouped (exception_name k) (codes "(") (joined (codes ", ") (map repr_of (p ∷ q ∷ ps))) (codes ")")
