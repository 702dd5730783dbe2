-- The lines of tokens, and how indentations match.
use Rattle.std.specs.Prelude.{◌≡◌, ℕ, ◌+◌, ◌-◌, min, Bool, true, false, ◌==◌, List, [], ◌∷◌, length, take, if◌then◌else◌}
use Rattle.py_lexer.specs.declared.token.TokenKind.{TokenKind}
use Rattle.py_lexer.specs.declared.token.TokenKind.TheVariants as tokens
use Rattle.py_lexer.specs.declared.token.Token.{Token}

abbrev pub feeds : List ℕ → ℕ
feeds [] = 0
feeds (c ∷ cs) = if c == 10 then 1 + feeds cs else feeds cs

-- the line of a place of the text, counted from 1
abbrev pub line_at : List ℕ → ℕ → ℕ
line_at text at = 1 + feeds (take at text)

-- on the line of the byte where it begins, or of the last byte, where the text ends before it
abbrev pub IsOnLine : List ℕ → Token → Type 0
IsOnLine text t = t.line ≡ line_at text (min t.start (length text - 1))

abbrev pub is_indent : TokenKind → Bool
is_indent tokens.Indent = true
is_indent _ = false

abbrev pub is_dedent : TokenKind → Bool
is_dedent tokens.Dedent = true
is_dedent _ = false

-- how many tokens are of this class
abbrev pub count : (TokenKind → Bool) → List Token → ℕ
count p [] = 0
count p (t ∷ ts) = if p t.kind then 1 + count p ts else count p ts
