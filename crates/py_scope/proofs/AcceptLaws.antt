-- What the steps of accepting say of the whole.
use Rattle.std.proofs.Common.{◌≡◌, ◌∙◌, sym, ap, refl, ℕ, zero, suc, ◌+◌, ◌-◌, ◌<◌, ◌≤◌, List, [], ◌∷◌, length, get_or, add-one, subst, Result, Ok, Err, inl, inr, arith}
use Rattle.std.specs.Result.{IsErrAnd}
use Rattle.std.proofs.lemmas.Str.{IsCharBoundary-start, IsCharBoundary-after_ascii}
use Rattle.std.specs.Str.{IsUtf8, IsCharBoundary}
use Rattle.rp_base.specs.declared.rules.Refused.{Refused}
use Rattle.py_ast.specs.declared.program.Program.{Program}
use Rattle.py_grammar.specs.declared.symbol.Start.{Start}
use Rattle.py_lexer.specs.declared.token.Token.{Token}
use Rattle.py_lexer.specs.declared.token.LexEnd.{LexEnd}
use Rattle.py_lexer.specs.declared.token.LexEnd.TheVariants as lex_end
use Rattle.py_lexer.specs.Layout.{Place, Next, start, taken, longest_text, Stops}
use Rattle.py_lexer.specs.Pieces.{piece_of}
use Rattle.py_lexer.specs.Reading.{read_on, go_on, tokens_of}
use Rattle.py_lexer.proofs.MoveLaws.{Moves, taken_moves}
use Rattle.py_lexer.proofs.PieceLaws.{piece_some}
use Rattle.py_parser.specs.declared.parsing.ParseEnd.{ParseEnd}
use Rattle.py_parser.specs.declared.parsing.ParseEnd.TheVariants as parse_end
use Rattle.py_parser.specs.Lexemes.{lexemes}
use Rattle.py_parser.specs.Parsing.{HasTree, Parsed}
use Rattle.py_scope.specs.declared.ending.AcceptEnd.{AcceptEnd}
use Rattle.py_scope.specs.declared.ending.AcceptEnd.TheVariants as ends
use Rattle.py_scope.specs.Accepting.{HasTokens, Judgement, Unreadable, readable_lines}
use Rattle.py_scope.specs.Ends.{after_tokens, after_parsing, EndsIn}
use Rattle.py_scope.specs.Judging.{Judged}

-- ---- a text with tokens is no longer than a text may be

abbrev Short : List ℕ → Type 0
Short cs = (p : Place) (w : ℕ) (ts : List Token) → read_on p w cs ≡ Ok ts → p.at ≤ longest_text → w ≤ p.at → p.at + length cs ≤ longest_text + w

piece : (c : ℕ) (cs : List ℕ) → Short cs → (p : Place) (ts : List Token) (x : Next) → taken (piece_of (c ∷ cs)) p ≡ x → go_on (λ q. read_on q ((piece_of (c ∷ cs)).size - 1) cs) x ≡ Ok ts
    → p.at + length (c ∷ cs) ≤ longest_text
piece c cs rest p ts (Err e) is read = cc
piece c cs rest p ts (Ok q) is read =
    let size = (piece_of (c ∷ cs)).size in
    let some : 0 < (piece_of (c ∷ cs)).size = piece_some c cs in
    let moves : Moves (piece_of (c ∷ cs)).size p q = taken_moves (piece_of (c ∷ cs)) p q is in
    let behind : (piece_of (c ∷ cs)).size - 1 ≤ q.at = omega (arith, moves.0) in
    let further : q.at + length cs ≤ longest_text + ((piece_of (c ∷ cs)).size - 1) = rest q ((piece_of (c ∷ cs)).size - 1) ts read moves.1 behind in
    omega (arith, moves.0, some, further)

short_from : (cs : List ℕ) → Short cs
unfolding read_on
short_from [] p w ts read h k = omega arith
short_from (c ∷ cs) p (suc w) ts read h k =
    let less : w ≤ p.at = omega arith in
    let rest : p.at + length cs ≤ longest_text + w = short_from cs p w ts read h less in
    omega (arith, rest)
short_from (c ∷ cs) p zero ts read h k =
    let now : p.at + length (c ∷ cs) ≤ longest_text = piece c cs (short_from cs) p ts (taken (piece_of (c ∷ cs)) p) refl read in
    omega (arith, now)

pub short_text : (text : List ℕ) (ts : List Token) → tokens_of text ≡ Ok ts → length text ≤ 1048576
short_text text ts read =
    let none : 0 ≤ longest_text = omega arith in
    let same : 0 ≤ 0 = omega arith in
    let all : 0 + length text ≤ longest_text + 0 = short_from text start 0 ts read none same in
    omega (arith, all)

-- ---- steps

pub no_tokens : (s : Start) (text : List ℕ) (e : LexEnd) → IsUtf8 text → Stops e (tokens_of text) → Judgement s text (Err (after_tokens e))
no_tokens s text (lex_end.Refused r) utf8 is = inl (inl (utf8, is))
no_tokens s text lex_end.NoMemory utf8 is = tt

pub no_tree : (s : Start) (text : List ℕ) (ts : List Token) (e : ParseEnd) → HasTokens text ts → Parsed s (lexemes text ts) (Err e) → Judgement s text (Err (after_parsing e))
no_tree s text ts (parse_end.Refused r) has is = inr (inl (ts, has, is))
no_tree s text ts parse_end.NoMemory has is = tt

pub has_tree : (s : Start) (text : List ℕ) (ts : List Token) (tree : Program) (answer : Result Program AcceptEnd) → HasTokens text ts → HasTree s (lexemes text ts) tree → Judged tree answer → Judgement s text answer
has_tree s text ts tree (Ok p) has is judged = (ts, tree, has, is, judged.0, judged.1)
has_tree s text ts tree (Err (ends.Refused r)) has is judged = inr (inr (ts, tree, has, is, judged))
has_tree s text ts tree (Err ends.NoMemory) has is judged = tt

pub not_readable : (s : Start) (text : List ℕ) (e : AcceptEnd) → (IsUtf8 text → ⊥) → EndsIn (Unreadable (readable_lines text) (tokens_of (readable_lines text))) e → Judgement s text (Err e)
not_readable s text (ends.Refused r) not is = inl (inr (not, is))
not_readable s text ends.NoMemory not is = tt

pub unread : (lines : List ℕ) (e : LexEnd) → Stops e (tokens_of lines) → EndsIn (Unreadable lines (tokens_of lines)) (after_tokens e)
unread lines (lex_end.Refused r) is = by (tokens_of lines) is
  where
    by : (read : Result (List Token) Refused) → read ≡ Err r → Unreadable lines read r
    by (Ok ts) e = cc
    by (Err x) e = cc
unread lines lex_end.NoMemory is = tt

-- the error that a `?` makes of a parser's end
pub no_tree_end : (s : Start) (text : List ℕ) (ts : List Token) (e : ParseEnd) (answer : Result Program AcceptEnd) → HasTokens text ts → Parsed s (lexemes text ts) (Err e)
    → IsErrAnd answer (λ y. y ≡ after_parsing e) → Judgement s text answer
no_tree_end s text ts e (Ok p) has is gives = absurd gives
no_tree_end s text ts e (Err y) has is gives = subst (λ z. Judgement s text (Err z)) (sym gives) (no_tree s text ts e has is)

-- ---- a place behind a line end

pub boundary_at : (bs : List ℕ) (n : ℕ) → IsUtf8 bs → n ≤ length bs → (0 < n → get_or bs (n - 1) 0 ≡ 10) → IsCharBoundary bs n
boundary_at bs zero utf8 within feed = IsCharBoundary-start bs utf8
boundary_at bs (suc n) utf8 within feed =
    let one_less : suc n - 1 ≡ n = omega arith in
    let some : 0 < suc n = omega arith in
    let inside : n < length bs = omega arith in
    let is_feed : get_or bs n 0 ≡ 10 = ap (λ k. get_or bs k 0) (sym one_less) ∙ feed some in
    let is_ascii : get_or bs n 0 < 128 = omega (arith, is_feed) in
    subst (IsCharBoundary bs) (add-one n) (IsCharBoundary-after_ascii bs n utf8 inside is_ascii)
