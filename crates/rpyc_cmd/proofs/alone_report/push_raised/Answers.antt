use Rattle.std.proofs.Common.{◌≡◌, ◌∙◌, ap, sym, append_assoc, ℕ, List, [], ◌∷◌, ◌++◌, codes, map, string_bytes}
use Rattle.rp_base.specs.Names.{exception_name}
use Rattle.rp_base.specs.declared.plain.Plain.{Plain}
use Rattle.py_plain.specs.Printing.{repr_of}
use Rattle.py_strs.specs.Joining.{joined}
use Rattle.rpyc_cmd.proofs.alone_report.push_raised.Goals as goal

-- the pieces of the line, one behind the other
parts : (p q j b c : List ℕ) → (p ++ q) ++ (j ++ (b ++ c)) ≡ (p ++ ((q ++ j) ++ b)) ++ c
parts p q j b c =
    append_assoc p q (j ++ (b ++ c))
    ∙ sym (append_assoc p ((q ++ j) ++ b) c ∙ ap (λ t. p ++ t) (append_assoc (q ++ j) b c ∙ append_assoc q j (b ++ c)))

pieces : (old p q j b c first second third : List ℕ) → first ≡ old ++ (p ++ q) → second ≡ first ++ j → third ≡ second ++ (b ++ c)
    → third ≡ old ++ ((p ++ ((q ++ j) ++ b)) ++ c)
pieces old p q j b c first second third e f g =
    g ∙ ap (λ t. t ++ (b ++ c)) (f ∙ ap (λ t. t ++ j) e)
    ∙ append_assoc (old ++ (p ++ q)) j (b ++ c) ∙ append_assoc old (p ++ q) (j ++ (b ++ c)) ∙ ap (λ t. old ++ t) (parts p q j b c)

pub returns : goal.returns
returns c =
    let old = string_bytes c.args.text.now in
    let items : List Plain → List ℕ = λ ps. joined (codes ", ") (map repr_of ps) in
    pieces old (codes "end raised A ") (exception_name c.args.raised.now.kind ++ codes "(") (items c.args.raised.now.args) (codes ")") (10 ∷ [])
    (string_bytes c.write.new.self) (string_bytes c.push_arguments.new.text) (string_bytes c.push_str.new.self)
    (c.in_ok-write.ensures.bytes ∙ ap (λ t. old ++ (codes "end raised A " ++ (t ++ codes "("))) c.text-name.ensures)
    (c.in_ok-push_arguments.ensures ∙ ap (λ ps. string_bytes c.write.new.self ++ items ps) c.as_slice.ensures)
    c.in_ok-push_str.ensures.bytes
