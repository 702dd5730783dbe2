-- Each token has its line.
use Rattle.std.proofs.Common.{◌≡◌, ◌∙◌, ◌+◌, ◌-◌, ◌<◌, ◌≤◌, ◌==◌, min, ◌⊎◌, inl, inr, ℕ, List, [], ◌∷◌, ◌++◌, length, take, drop, Bool, true, false, Ok, refl, sym, ap, subst, arith}
use Rattle.std.specs.Prelude.{if◌then◌else◌}
use Rattle.std.proofs.lemmas.Grind.{common_steps}
use Rattle.std.proofs.lemmas.List.{take-take}
use Rattle.py_lexer.specs.declared.token.TokenKind.{TokenKind}
use Rattle.py_lexer.specs.declared.token.TokenKind.TheVariants as tokens
use Rattle.py_lexer.specs.declared.token.Token.{Token}
use Rattle.py_lexer.specs.Layout.{Place, start, token_at, last_line, left_open, finished}
use Rattle.py_lexer.specs.Lines.{feeds, line_at, IsOnLine}
use Rattle.py_lexer.specs.Reading.{tokens_of}
use Rattle.py_lexer.specs.Slices.{Each, IsLineEnd}
use Rattle.py_lexer.proofs.ItemFronts.{take_both}
use Rattle.py_lexer.proofs.PieceShapes.{feeds_both, Calm}
use Rattle.py_lexer.proofs.Following.{Kept, follows, each_push, finished_each, nothing_left}

feeds_on : (a n : ℕ) (text : List ℕ) → a ≤ length text → feeds (take (a + n) text) ≡ feeds (take a text) + feeds (take n (drop a text))
feeds_on a n text h = ap feeds (take_both a n text h) ∙ feeds_both (take a text) (take n (drop a text))

more_feeds : (a b : ℕ) (text : List ℕ) → a ≤ b → b ≤ length text → feeds (take a text) ≤ feeds (take b text)
more_feeds a b text h k =
    let up : a + (b - a) ≡ b = omega (arith, h) in
    let same : feeds (take (a + (b - a)) text) ≡ feeds (take b text) = ap (λ (n : ℕ). feeds (take n text)) up in
    let more = feeds_on a (b - a) text (omega (arith, h, k)) in
    omega (arith, same, more)

-- a line end has its feed last
line_end_feeds : (n : ℕ) (s : List ℕ) → n ≤ length s → IsLineEnd (take n s) → (feeds (take n s) ≡ 1) × (feeds (take (n - 1) s) ≡ 0) × (0 < n)
line_end_feeds n s h (inl e) =
    let long : length (take n s) ≡ n = grind (arith, common_steps) in
    let one : length (take n s) ≡ 1 = ap (λ (t : List ℕ). length t) e in
    let none : n - 1 ≡ 0 = omega (arith, long, one) in
    (ap feeds e, ap (λ (k : ℕ). feeds (take k s)) none, omega (arith, long, one))
line_end_feeds n s h (inr e) =
    let long : length (take n s) ≡ n = grind (arith, common_steps) in
    let two : length (take n s) ≡ 2 = ap (λ (t : List ℕ). length t) e in
    let one : n - 1 ≡ 1 = omega (arith, long, two) in
    let front : take 1 (take n s) ≡ take 1 s = take-take 1 n s (omega (arith, long, two)) in
    (ap feeds e, ap (λ (k : ℕ). feeds (take k s)) one ∙ ap feeds (sym front) ∙ ap (λ (t : List ℕ). feeds (take 1 t)) e, omega (arith, long, two))

on_line : (text : List ℕ) (k : TokenKind) (a b l : ℕ) → a < length text → l ≡ line_at text a → IsOnLine text (token_at k a b l)
on_line text k a b l low e = let here : min a (length text - 1) ≡ a = omega (arith, low) in e ∙ ap (line_at text) (sym here)

-- the tokens before a place, the place, its line and where that begins
pub record Lined (text : List ℕ) (ts : List Token) (at line begin : ℕ) : Type 0 where
  pub each : Each (IsOnLine text) ts
  pub here : line ≡ line_at text at
  pub begun : begin ≤ at
  pub own : feeds (take begin text) ≡ feeds (take at text)
  pub first : (begin ≡ 0) ⊎ ((0 < begin) × (feeds (take (begin - 1) text) + 1 ≡ feeds (take begin text)))

abbrev pub LinedAt : List ℕ → Place → Type 0
LinedAt text p = Lined text p.tokens p.at p.line p.line_start

inside : (text : List ℕ) (at n : ℕ) → 0 < n → n ≤ length (drop at text) → at < length text
inside text at n some h = let long : length (drop at text) ≡ length text - at = grind (arith, common_steps) in omega (arith, some, h, long)

calm_on : (text : List ℕ) (ts us : List Token) (at n line begin : ℕ) → 0 < n → Calm n (drop at text) → Each (IsOnLine text) us → Lined text ts at line begin → Lined text us (at + n) line begin
calm_on text ts us at n line begin some calm each h =
    let low = inside text at n some calm.0 in
    let more = feeds_on at n text (omega (arith, low)) in
    let same : feeds (take (at + n) text) ≡ feeds (take at text) = omega (arith, more, calm.1) in
    record { each = each; here = h.here ∙ ap (λ (f : ℕ). 1 + f) (sym same); begun = let begun = h.begun in omega (arith, begun); own = h.own ∙ sym same; first = h.first }

end_on : (text : List ℕ) (ts us : List Token) (at n line begin : ℕ) → n ≤ length (drop at text) → IsLineEnd (take n (drop at text)) → Each (IsOnLine text) us → Lined text ts at line begin → Lined text us (at + n) (line + 1) (at + n)
end_on text ts us at n line begin fits is each h =
    let ends = line_end_feeds n (drop at text) fits is in
    let low = inside text at n ends.2 fits in
    let more = feeds_on at n text (omega (arith, low)) in
    let less = feeds_on at (n - 1) text (omega (arith, low)) in
    let there : at + (n - 1) ≡ at + n - 1 = omega (arith, ends.2) in
    let back : feeds (take (at + (n - 1)) text) ≡ feeds (take (at + n - 1) text) = ap (λ (k : ℕ). feeds (take k text)) there in
    let here = h.here in
    record { each = each; here = omega (arith, here, more, ends.0); begun = omega arith; own = refl; first = inr (omega (arith, ends.2), omega (arith, back, less, more, ends.0, ends.1)) }

pub lined_kept : (text : List ℕ) → Kept text (LinedAt text)
lined_kept text = record {
  turns = λ p m b h. h;
  deepens = λ p w low more h. record { each = each_push (IsOnLine text) p.tokens (token_at tokens.Indent p.at p.at p.line) h.each (on_line text tokens.Indent p.at p.at p.line low h.here); here = h.here; begun = h.begun; own = h.own; first = h.first };
  closes = λ p w ws low is h. record { each = each_push (IsOnLine text) p.tokens (token_at tokens.Dedent p.at p.at p.line) h.each (on_line text tokens.Dedent p.at p.at p.line low h.here); here = h.here; begun = h.begun; own = h.own; first = h.first };
  emits = λ p k n some s h. calm_on text p.tokens (p.tokens ++ token_at k p.at (p.at + n) p.line ∷ []) p.at n p.line p.line_start some s.1
      (each_push (IsOnLine text) p.tokens (token_at k p.at (p.at + n) p.line) h.each (on_line text k p.at (p.at + n) p.line (inside text p.at n some s.1.0) h.here)) h;
  passes = λ p n some s h. calm_on text p.tokens p.tokens p.at n p.line p.line_start some s.1 h.each h;
  ends = λ p n some s h. end_on text p.tokens p.tokens p.at n p.line p.line_start s.1.0 s.1.1 h.each h;
  ends_line = λ p n some s h. end_on text p.tokens (p.tokens ++ token_at tokens.Newline p.at (p.at + n) p.line ∷ []) p.at n p.line p.line_start s.1.0 s.1.1
      (each_push (IsOnLine text) p.tokens (token_at tokens.Newline p.at (p.at + n) p.line) h.each (on_line text tokens.Newline p.at (p.at + n) p.line (inside text p.at n some s.1.0) h.here)) h;
}

-- where the text ends
last_is : (text : List ℕ) (p : Place) → 0 < length text → p.at ≡ length text → LinedAt text p → last_line p ≡ line_at text (length text - 1)
last_is text p some end h = by_test (p.at == p.line_start) refl h.first
  where
    by_test : (b : Bool) → (p.at == p.line_start) ≡ b → ((p.line_start ≡ 0) ⊎ ((0 < p.line_start) × (feeds (take (p.line_start - 1) text) + 1 ≡ feeds (take p.line_start text)))) → (if b then p.line - 1 else p.line) ≡ line_at text (length text - 1)
    by_test true e (inl zero_start) = let same : p.at ≡ p.line_start = grind arith in absurd (omega (arith, same, zero_start, some, end))
    by_test true e (inr before) =
        let same : p.at ≡ p.line_start = grind arith in
        let there : p.line_start - 1 ≡ length text - 1 = omega (arith, same, end) in
        let back : feeds (take (p.line_start - 1) text) ≡ feeds (take (length text - 1) text) = ap (λ (k : ℕ). feeds (take k text)) there in
        let whole : feeds (take p.line_start text) ≡ feeds (take p.at text) = h.own in
        let here = h.here in
        omega (arith, here, back, whole, before.1)
    by_test false e first =
        let begun = h.begun in
        let apart : p.line_start < p.at = grind arith in
        let low = more_feeds p.line_start (length text - 1) text (omega (arith, apart, end)) (omega arith) in
        let high = more_feeds (length text - 1) p.at text (omega (arith, end)) (omega (arith, end)) in
        let own = h.own in
        let here = h.here in
        omega (arith, here, low, high, own)

start_empty : finished start ≡ []
unfolding finished left_open
start_empty = refl

pub all_on_line : (text : List ℕ) (ts : List Token) → tokens_of text ≡ Ok ts → Each (IsOnLine text) ts
all_on_line [] ts e = subst (Each (IsOnLine [])) (sym (nothing_left start ts e ∙ start_empty)) tt
all_on_line (c ∷ cs) ts e =
    let text = c ∷ cs in
    let found = follows (c ∷ cs) (LinedAt (c ∷ cs)) (lined_kept (c ∷ cs)) (record { each = tt; here = refl; begun = omega arith; own = refl; first = inl refl }) ts e in
    let last = found.last in
    let some : 0 < length (c ∷ cs) = omega arith in
    let end : min last.at (length (c ∷ cs) - 1) ≡ length (c ∷ cs) - 1 = let at_end = found.at_end in omega (arith, at_end) in
    let line : last_line last ≡ line_at (c ∷ cs) (min last.at (length (c ∷ cs) - 1)) = last_is (c ∷ cs) last some found.at_end found.holds ∙ ap (line_at (c ∷ cs)) (sym end) in
    subst (Each (IsOnLine (c ∷ cs))) (sym found.are) (finished_each (IsOnLine (c ∷ cs)) last found.holds.each line line)
