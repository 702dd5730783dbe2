-- The end of the text is a token behind all others, so a text that is whole before it is stuck at the next one.
use Rattle.std.proofs.Common.{◌≡◌, ◌∙◌, sym, refl, ap, subst, ℕ, ◌+◌, ◌<◌, List, [], ◌∷◌, drop, length, get_or, drop-cons, add-one}
use Rattle.py_grammar.specs.declared.symbol.Limits.{Limits}
use Rattle.py_grammar.specs.declared.symbol.Symbol.{Symbol}
use Rattle.py_grammar.specs.declared.terminal.Terminal.{Terminal}
use Rattle.py_grammar.specs.Reading.{Step, Refused, Took, Closed, Outcome, Stuck, closed, go_on, depth_of_words}
use Rattle.py_lexer.specs.declared.token.Token.{Token}
use Rattle.py_parser.specs.declared.builder.Building.{Building}
use Rattle.py_parser.specs.declared.reading.Taken.{Taken}
use Rattle.py_parser.specs.declared.reading.Taken.TheVariants as taken
use Rattle.py_parser.specs.Lexemes.{lexeme_in, lexemes, slice, terminal_of}
use Rattle.py_parser.specs.Stepping.{lexeme, steps, Stepped, beyond, read_on}

never_last : (b : Building) (text : List ℕ) (ts : List Token) → closed Building b (lexemes text ts) ≡ Stuck 1
never_last b text [] = refl
never_last b text (t ∷ ts) = refl

closed_by : (lim : Limits) (i : ℕ) (text : List ℕ) (ts : List Token) (s : List Symbol) (c : Building) (whole : Outcome Building) (r : Step Building) → Stepped taken.Closed s c r
    → whole ≡ beyond i (go_on Building (λ rest d. read_on lim rest d (lexemes text ts)) r (lexemes text ts)) → Stuck (i + 1) ≡ whole
closed_by lim i text ts s c whole Refused h e = absurd h
closed_by lim i text ts s c whole (Took rest d) h e = absurd h
closed_by lim i text ts s c whole (Closed d) h e = sym (e ∙ ap (beyond i) (never_last d text ts))

spelled_so : (text word : List ℕ) (k : Terminal) (t : Token) → k ≡ terminal_of t.kind word → word ≡ slice text t.start t.stop → lexeme k word t.line ≡ lexeme_in text t
spelled_so text word k t e f = ap (λ x. lexeme x word t.line) e ∙ ap (λ x. lexeme (terminal_of t.kind x) x t.line) f

pub closed_here : (lim : Limits) (i : ℕ) (text word : List ℕ) (tokens : List Token) (none : Token) (k : Terminal) (old s : List Symbol) (b c : Building) (became : Taken) (whole : Outcome Building)
    → i < length tokens → k ≡ terminal_of (get_or tokens i none).kind word → word ≡ slice text (get_or tokens i none).start (get_or tokens i none).stop
    → Stepped became s c (steps lim depth_of_words old b (lexeme k word (get_or tokens i none).line)) → became ≡ taken.Closed
    → whole ≡ beyond i (read_on lim old b (lexemes text (drop i tokens))) → Stuck (i + 1) ≡ whole
closed_here lim i text word tokens none k old s b c became whole lt e f h is so =
    let t = get_or tokens i none in
    let now : Stepped taken.Closed s c (steps lim depth_of_words old b (lexeme_in text t)) =
    subst (λ x. Stepped x s c (steps lim depth_of_words old b (lexeme_in text t))) is (subst (λ u. Stepped became s c (steps lim depth_of_words old b u)) (spelled_so text word k t e f) h) in
    let rest : drop i tokens ≡ t ∷ drop (i + 1) tokens = drop-cons tokens i none lt ∙ ap (λ n. t ∷ drop n tokens) (sym (add-one i)) in
    closed_by lim i text (drop (i + 1) tokens) s c whole (steps lim depth_of_words old b (lexeme_in text t)) now (so ∙ ap (λ ts. beyond i (read_on lim old b (lexemes text ts))) rest)
