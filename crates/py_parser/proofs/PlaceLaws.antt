-- The token at a place, its kind, its line and its refusal.
use Rattle.std.proofs.Common.{◌≡◌, ◌∙◌, sym, refl, ap, ap₂, subst, ℕ, zero, suc, ◌-◌, Bool, ◌&&◌, ◌||◌, List, [], ◌∷◌, map, Option, Some, None, sub-one}
use Rattle.std.specs.List.{slice_get}
use Rattle.py_ast.specs.declared.program.Program.{Program}
use Rattle.py_grammar.specs.declared.symbol.Start.{Start}
use Rattle.py_grammar.specs.declared.terminal.Terminal.{Terminal}
use Rattle.py_grammar.specs.declared.terminal.Terminal.TheVariants as t
use Rattle.py_grammar.specs.Building.{Lexeme}
use Rattle.py_grammar.specs.Reading.{has, Stuck}
use Rattle.py_grammar.specs.Refusals.{leading, IsAt, IsRefused, left_out, literals, ends_in_literal, belongs_to_left_out, any_depth, unlimited, rule_of}
use Rattle.py_grammar.specs.Table.{opening}
use Rattle.py_grammar.proofs.TextLaws.{reads-exactly, stops-inside, tells-the-rule}
use Rattle.py_grammar.proofs.RefusalLaws.{nowhere}
use Rattle.py_lexer.specs.declared.token.Token.{Token}
use Rattle.rp_base.specs.declared.rules.Refused.{Refused}
use Rattle.py_parser.specs.declared.builder.Building.{Building}
use Rattle.py_parser.specs.declared.reading.Reached.{Reached}
use Rattle.py_parser.specs.declared.reading.Reached.TheVariants as reached
use Rattle.py_parser.specs.Building.{begun, program_of}
use Rattle.py_parser.specs.BuildingActs.{builder}
use Rattle.py_parser.specs.Lexemes.{lexeme_in, end_of, lexemes, last_line}
use Rattle.py_parser.specs.Parsing.{script_limits, is_expression, HasTree, IsFirstMisfit, kind_at, kind_before, line_at, is_left_out_at, passes_under, rule_at}
use Rattle.py_parser.specs.Stepping.{outcome_of, read_on}

-- ---- at the tokens of a text

abbrev pub kind_by : List ℕ → Option Token → Terminal
kind_by text (Some token) = (lexeme_in text token).kind
kind_by text None = t.End

abbrev pub line_by : List ℕ → Option Token → ℕ
line_by text (Some token) = token.line
line_by text None = last_line text

pub kind_of : (text : List ℕ) (ts : List Token) (n : ℕ) → kind_at n (lexemes text ts) ≡ kind_by text (slice_get ts n)
kind_of text [] zero = refl
kind_of text [] (suc n) = refl
kind_of text (u ∷ us) zero = refl
kind_of text (u ∷ us) (suc n) = kind_of text us n

pub line_of : (text : List ℕ) (ts : List Token) (n : ℕ) → line_at (last_line text) n (lexemes text ts) ≡ line_by text (slice_get ts n)
line_of text [] zero = refl
line_of text [] (suc n) = refl
line_of text (u ∷ us) zero = refl
line_of text (u ∷ us) (suc n) = line_of text us n

pub one_before : (n : ℕ) (ts : List Lexeme) → (n ≡ 0 → ⊥) → kind_before n ts ≡ kind_at (n - 1) ts
one_before zero ts h = absurd (h refl)
one_before (suc n) ts h = ap (λ x. kind_at x ts) (sym (sub-one (suc n)))

-- ---- what is known of the token that stands there

kind_is : (n : ℕ) (ts : List Lexeme) (u : Lexeme) → IsAt n ts u → u.kind ≡ kind_at n ts
kind_is n [] u i = absurd (nowhere n u i)
kind_is zero (v ∷ vs) u i = ap (λ x. x.kind) (sym i)
kind_is (suc n) (v ∷ vs) u i = kind_is n vs u i

line_is : (last n : ℕ) (ts : List Lexeme) (u : Lexeme) → IsAt n ts u → line_at last n ts ≡ u.line
line_is last n [] u i = absurd (nowhere n u i)
line_is last zero (v ∷ vs) u i = ap (λ x. x.line) i
line_is last (suc n) (v ∷ vs) u i = line_is last n vs u i

before_is : (n : ℕ) (ts : List Lexeme) (u : Lexeme) → IsAt n ts u → ends_in_literal (leading n ts) ≡ has (kind_before n ts) literals
before_is n [] u i = absurd (nowhere n u i)
before_is zero (v ∷ vs) u i = refl
before_is (suc n) (v ∷ []) u i = absurd (nowhere n u i)
before_is (suc zero) (v ∷ w ∷ ws) u i = refl
before_is (suc (suc n)) (v ∷ w ∷ ws) u i = before_is (suc n) (w ∷ ws) u i

left_out_is : (n : ℕ) (ts : List Lexeme) (u : Lexeme) → IsAt n ts u → belongs_to_left_out (leading n ts) u ≡ is_left_out_at n ts
left_out_is n ts u i =
    ap₂ (λ k b. has k left_out || (has k literals && b)) (kind_is n ts u i) (before_is n ts u i)

pub misfit_of : (start : Start) (text : List ℕ) (tokens : List Token) (n : ℕ) (refused : Refused) → read_on script_limits (opening start) begun (lexemes text tokens) ≡ Stuck n
    → refused.rule ≡ rule_at start n (lexemes text tokens) → refused.line ≡ line_at (last_line text) n (lexemes text tokens) → IsFirstMisfit start (lexemes text tokens) refused
misfit_of start text tokens n refused e r l =
    let ts = lexemes text tokens in
    let here = stops-inside Building builder script_limits start begun (map (lexeme_in text) tokens) (end_of text) n refl e in
    let told = tells-the-rule Building builder script_limits start begun ts n here.0 e here.1 in
    let same : rule_of (passes_under (any_depth script_limits) start n ts) (passes_under unlimited start n ts) (belongs_to_left_out (leading n ts) here.0) ≡ refused.rule =
    ap (λ b. rule_of (passes_under (any_depth script_limits) start n ts) (passes_under unlimited start n ts) b) (left_out_is n ts here.0 here.1) ∙ sym r in
    (n, here.0, subst (λ x. IsRefused Building builder script_limits (opening start) begun ts n here.0 x) same told, l ∙ line_is (last_line text) n ts here.0 here.1)

pub tree_of : (start : Start) (ts : List Lexeme) (b : Building) (program : Program) (flag : Bool) (came : Reached) → outcome_of came ≡ read_on script_limits (opening start) begun ts → came ≡ reached.Done b
    → flag ≡ is_expression start → program ≡ program_of flag b → HasTree start ts program
tree_of start ts b program flag came e d f p =
    (b, (reads-exactly Building builder script_limits start begun b ts).0 (sym e ∙ ap outcome_of d), p ∙ ap (λ x. program_of x b) f)
