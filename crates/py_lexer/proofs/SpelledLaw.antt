-- Each token is spelled as its kind says.
use Rattle.std.proofs.Common.{◌≡◌, ◌+◌, ◌-◌, ℕ, List, [], length, take, drop, Ok, inl, inr, sym, ap, subst, arith}
use Rattle.std.proofs.lemmas.Grind.{common_steps}
use Rattle.py_lexer.specs.declared.token.TokenKind.{TokenKind}
use Rattle.py_lexer.specs.declared.token.TokenKind.TheVariants as tokens
use Rattle.py_lexer.specs.declared.token.Token.{Token}
use Rattle.py_lexer.specs.Layout.{Place, token_at}
use Rattle.py_lexer.specs.Reading.{tokens_of}
use Rattle.py_lexer.specs.Slices.{IsSpelled, Spells, Each}
use Rattle.py_lexer.proofs.PieceShapes.{Reads}
use Rattle.py_lexer.proofs.Following.{Kept, follows, each_push, finished_each}

reads_spells : (k : TokenKind) (s after : List ℕ) → Reads k s → Spells k s after
reads_spells tokens.Name s after h = h
reads_spells tokens.Keyword s after h = h
reads_spells tokens.Int s after h = h
reads_spells tokens.Text s after h = h
reads_spells tokens.Bytes s after h = h
reads_spells tokens.Sign s after h = h
reads_spells tokens.Newline s after h = absurd h
reads_spells tokens.Indent s after h = absurd h
reads_spells tokens.Dedent s after h = absurd h

abbrev Spelled : List ℕ → Place → Type 0
Spelled text p = Each (IsSpelled text) p.tokens

nothing : (at : ℕ) (text : List ℕ) → take (at - at) (drop at text) ≡ []
nothing at text = let none : at - at ≡ 0 = omega arith in ap (λ (n : ℕ). take n (drop at text)) none

so_many : (at n : ℕ) → at + n - at ≡ n
so_many at n = omega arith

token_spelled : (text : List ℕ) (k : TokenKind) (at n l : ℕ) → Spells k (take n (drop at text)) (drop (at + n) text) → IsSpelled text (token_at k at (at + n) l)
token_spelled text k at n l h = subst (λ (m : ℕ). Spells k (take m (drop at text)) (drop (at + n) text)) (sym (so_many at n)) h

spelled_kept : (text : List ℕ) → Kept text (Spelled text)
spelled_kept text = record {
  turns = λ p m b h. h;
  deepens = λ p w low more h. each_push (IsSpelled text) p.tokens (token_at tokens.Indent p.at p.at p.line) h (nothing p.at text);
  closes = λ p w ws low is h. each_push (IsSpelled text) p.tokens (token_at tokens.Dedent p.at p.at p.line) h (nothing p.at text);
  emits = λ p k n some s h. each_push (IsSpelled text) p.tokens (token_at k p.at (p.at + n) p.line) h (token_spelled text k p.at n p.line (reads_spells k (take n (drop p.at text)) (drop (p.at + n) text) s.0));
  passes = λ p n some s h. h;
  ends = λ p n some s h. h;
  ends_line = λ p n some s h. each_push (IsSpelled text) p.tokens (token_at tokens.Newline p.at (p.at + n) p.line) h (token_spelled text tokens.Newline p.at n p.line (inl s.1.1));
}

pub all_spelled : (text : List ℕ) (ts : List Token) → tokens_of text ≡ Ok ts → Each (IsSpelled text) ts
all_spelled text ts e =
    let found = follows text (Spelled text) (spelled_kept text) tt ts e in
    let last = found.last in
    let end : drop last.at text ≡ [] = let at_end : last.at ≡ length text = found.at_end in grind (arith, common_steps) in
    subst (Each (IsSpelled text)) (sym found.are) (finished_each (IsSpelled text) last found.holds (inr (nothing last.at text, end)) (nothing last.at text))
