-- The parts of a way on the stack.
use Rattle.std.specs.List.{push}
use Rattle.std.proofs.Common.{◌≡◌, ◌∙◌, sym, refl, ap, ℕ, List, [], ◌∷◌, ◌++◌, append_assoc}
use Rattle.py_grammar.specs.declared.symbol.Symbol.{Symbol}
use Rattle.py_grammar.specs.Writing.{deeper}
use Rattle.py_parser.specs.declared.table.Part.{Part}
use Rattle.py_parser.specs.declared.table.Part.TheVariants as part
use Rattle.py_parser.specs.Rows.{symbols_of}

on_one : (d : ℕ) (x : Part) (ys : List Part) → deeper d (symbols_of (x ∷ ys)) ≡ deeper d (symbols_of (x ∷ [])) ++ deeper d (symbols_of ys)
on_one d (part.Terminal k) ys = refl
on_one d (part.Word n) ys = refl
on_one d (part.Inner n) ys = refl
on_one d (part.Act a) ys = refl

-- the last part goes onto the stack first
last_part : (d : ℕ) (xs : List Part) (x : Part) → deeper d (symbols_of (push xs x)) ≡ deeper d (symbols_of xs) ++ deeper d (symbols_of (x ∷ []))
last_part d [] x = refl
last_part d (y ∷ ys) x =
    on_one d y (push ys x) ∙ ap (λ s. deeper d (symbols_of (y ∷ [])) ++ s) (last_part d ys x)
    ∙ sym (append_assoc (deeper d (symbols_of (y ∷ []))) (deeper d (symbols_of ys)) (deeper d (symbols_of (x ∷ []))))
    ∙ ap (λ s. s ++ deeper d (symbols_of (x ∷ []))) (sym (on_one d y ys))

pub pushed : (d : ℕ) (xs rest : List Part) (x : Part) (s : Symbol) (old new all : List Symbol) → deeper d (symbols_of (x ∷ [])) ≡ s ∷ [] → rest ≡ push xs x → new ≡ s ∷ old
    → deeper d (symbols_of rest) ++ old ≡ all → deeper d (symbols_of xs) ++ new ≡ all
pushed d xs rest x s old new all e r n h =
    ap (λ t. deeper d (symbols_of xs) ++ t) (n ∙ ap (λ t. t ++ old) (sym e))
    ∙ sym (append_assoc (deeper d (symbols_of xs)) (deeper d (symbols_of (x ∷ []))) old)
    ∙ ap (λ t. t ++ old) (sym (last_part d xs x) ∙ ap (λ t. deeper d (symbols_of t)) (sym r)) ∙ h
