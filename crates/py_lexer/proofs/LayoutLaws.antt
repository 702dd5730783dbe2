-- Closing indentations, one at a time.
use Rattle.std.proofs.Common.{◌≡◌, ◌<◌, ◌≤◌, ℕ, List, [], ◌∷◌, ◌++◌, length, true, false, nat_lt, refl, sym, ◌∙◌, ap, arith}
use Rattle.py_lexer.specs.declared.token.Token.{Token}
use Rattle.py_lexer.specs.declared.token.TokenKind.TheVariants as tokens
use Rattle.py_lexer.specs.Layout.{Place, left_open, top, below, closed, with_open, with_token, token_at}

pub one_closed : (width : ℕ) (dedent : Token) (ws : List ℕ) (ts : List Token) → width < top ws → left_open width dedent ws ts ≡ left_open width dedent (below ws) (ts ++ dedent ∷ [])
unfolding left_open
one_closed width dedent [] ts h = absurd (omega arith)
one_closed width dedent (w ∷ ws) ts h = let deeper : nat_lt width w ≡ true = grind arith in rw deeper refl

pub all_closed : (width : ℕ) (dedent : Token) (ws : List ℕ) (ts : List Token) → top ws ≤ width → left_open width dedent ws ts ≡ (ws, ts)
unfolding left_open
all_closed width dedent [] ts h = refl
all_closed width dedent (w ∷ ws) ts h = let deeper : nat_lt width w ≡ false = grind arith in rw deeper refl

pub one_fewer : (width : ℕ) (ws : List ℕ) → width < top ws → length (below ws) < length ws
one_fewer width [] h = absurd (omega arith)
one_fewer width (w ∷ ws) h = omega arith

-- the same at a place
pub close_one : (width l : ℕ) (p q : Place) (ws : List ℕ) → width < top p.indents → ws ≡ below p.indents → q ≡ with_token (token_at tokens.Dedent p.at p.at l) (record p { indents = ws }) → closed width l p ≡ closed width l q
close_one width l p q ws h is e =
    ap (with_open p) (one_closed width (token_at tokens.Dedent p.at p.at l) p.indents p.tokens h)
    ∙ ap (λ (vs : List ℕ). with_open p (left_open width (token_at tokens.Dedent p.at p.at l) vs (p.tokens ++ token_at tokens.Dedent p.at p.at l ∷ []))) (sym is)
    ∙ ap (closed width l) (sym e)

pub close_none : (width l : ℕ) (p : Place) → top p.indents ≤ width → closed width l p ≡ p
close_none width l p h = ap (with_open p) (all_closed width (token_at tokens.Dedent p.at p.at l) p.indents p.tokens h)
