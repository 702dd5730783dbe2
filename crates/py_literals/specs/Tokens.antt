-- Tokens that have a value.
use Rattle.std.specs.Prelude.{◌≡◌, true, List, ℕ, is_some}
use Rattle.py_lexer.specs.declared.token.TokenKind.TheVariants as tokens
use Rattle.py_lexer.specs.declared.token.Token.{Token}
use Rattle.py_lexer.specs.declared.token.TokenKind.{TokenKind}
use Rattle.py_lexer.specs.Slices.{slice}
use Rattle.py_literals.specs.IntValues.{int_literal_value}
use Rattle.py_literals.specs.Values.{text_literal_value, bytes_literal_value}

-- ints, texts and byte strings have one
abbrev pub HasValue : TokenKind → List ℕ → Type 0
HasValue tokens.Int s = is_some (int_literal_value s) ≡ true
HasValue tokens.Text s = is_some (text_literal_value s) ≡ true
HasValue tokens.Bytes s = is_some (bytes_literal_value s) ≡ true
HasValue _ s = Unit {0}

abbrev pub TokenHasValue : List ℕ → Token → Type 0
TokenHasValue text t = HasValue t.kind (slice text t)
