-- The tokens of ints, texts and byte strings have values.
use Rattle.std.proofs.Common.{◌≡◌, ℕ, List, [], ◌∷◌, drop, Ok, true, refl, ap}
use Rattle.std.specs.Prelude.{is_some}
use Rattle.py_lexer.specs.declared.token.TokenKind.{TokenKind}
use Rattle.py_lexer.specs.declared.token.TokenKind.TheVariants as tokens
use Rattle.py_lexer.specs.declared.token.Token.{Token}
use Rattle.py_lexer.specs.Reading.{tokens_of}
use Rattle.py_lexer.specs.Slices.{Each, IsSpelled, Spells, slice}
use Rattle.py_lexer.specs.Spellings.{is_int}
use Rattle.py_lexer.proofs.SpelledLaw.{all_spelled}
use Rattle.py_literals.specs.IntValues.{int_literal_value}
use Rattle.py_literals.specs.Tokens.{HasValue, TokenHasValue}
use Rattle.py_literals.proofs.WholeLaws.{text_has_value, bytes_have_value}

int_has_value : (s : List ℕ) → is_int s ≡ true → is_some (int_literal_value s) ≡ true
unfolding int_literal_value
int_has_value s h = rw h refl

spelled_has_value : (k : TokenKind) (s after : List ℕ) → Spells k s after → HasValue k s
spelled_has_value tokens.Name s after h = tt
spelled_has_value tokens.Keyword s after h = tt
spelled_has_value tokens.Int s after h = int_has_value s h
spelled_has_value tokens.Text s after h = ap is_some (text_has_value s h)
spelled_has_value tokens.Bytes s after h = ap is_some (bytes_have_value s h)
spelled_has_value tokens.Sign s after h = tt
spelled_has_value tokens.Newline s after h = tt
spelled_has_value tokens.Indent s after h = tt
spelled_has_value tokens.Dedent s after h = tt

each_has_value : (text : List ℕ) (ts : List Token) → Each (IsSpelled text) ts → Each (TokenHasValue text) ts
each_has_value text [] h = tt
each_has_value text (t ∷ ts) h = (spelled_has_value t.kind (slice text t) (drop t.stop text) h.0, each_has_value text ts h.1)

pub all_have_values : (text : List ℕ) (ts : List Token) → tokens_of text ≡ Ok ts → Each (TokenHasValue text) ts
all_have_values text ts e = each_has_value text ts (all_spelled text ts e)
