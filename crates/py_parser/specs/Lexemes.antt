-- The tokens of a text as the grammar sees them.
use Rattle.std.specs.Prelude.{ℕ, suc, ◌+◌, ◌-◌, Bool, ◌&&◌, ◌||◌, ◌==◌, nat_lt, nat_le, List, [], ◌∷◌, ◌++◌, map, length, take, drop, codes, slice_index, if◌then◌else◌}
use Rattle.std.specs.Str.{bytes_eq}
use Rattle.py_grammar.specs.declared.terminal.Terminal.{Terminal}
use Rattle.py_grammar.specs.declared.terminal.Terminal.TheVariants as t
use Rattle.py_grammar.specs.Building.{Lexeme}
use Rattle.py_lexer.specs.declared.token.Token.{Token}
use Rattle.py_lexer.specs.declared.token.TokenKind.{TokenKind}
use Rattle.py_lexer.specs.declared.token.TokenKind.TheVariants as kinds

-- what is spelled so, or the other
abbrev pub spelled : List (List ℕ × Terminal) → Terminal → List ℕ → Terminal
spelled [] other text = other
spelled (s ∷ rest) other text = if bytes_eq text s.0 then s.1 else spelled rest other text

-- the keywords of the grammar; the others belong to forms that are left out
abbrev pub keywords : List (List ℕ × Terminal)
keywords =
    (codes "None", t.None) ∷ (codes "True", t.True) ∷ (codes "False", t.False) ∷ (codes "and", t.And) ∷ (codes "as", t.As) ∷ (codes "break", t.Break) ∷ (codes "class", t.Class) ∷ (codes "continue", t.Continue) ∷ (codes "def", t.Def) ∷ (codes "del", t.Del) ∷ (codes "elif", t.Elif) ∷ (codes "else", t.Else) ∷ (codes "except", t.Except) ∷ (codes "finally", t.Finally) ∷ (codes "for", t.For) ∷ (codes "global", t.Global) ∷ (codes "if", t.If) ∷ (codes "in", t.In) ∷ (codes "is", t.Is) ∷ (codes "lambda", t.Lambda) ∷ (codes "nonlocal", t.Nonlocal) ∷ (codes "not", t.Not) ∷ (codes "or", t.Or) ∷ (codes "pass", t.Pass) ∷ (codes "raise", t.Raise) ∷ (codes "return", t.Return) ∷ (codes "try", t.Try) ∷ (codes "while", t.While) ∷ []

-- the signs of the grammar; the others belong to forms that are left out
abbrev pub signs : List (List ℕ × Terminal)
signs =
    (codes "=", t.Assign) ∷ (codes "+=", t.Augmented) ∷ (codes "-=", t.Augmented) ∷ (codes "*=", t.Augmented) ∷ (codes "//=", t.Augmented) ∷ (codes "%=", t.Augmented) ∷ (codes "**=", t.Augmented) ∷ (codes "&=", t.Augmented) ∷ (codes "|=", t.Augmented) ∷ (codes "^=", t.Augmented) ∷ (codes "<<=", t.Augmented) ∷ (codes ">>=", t.Augmented) ∷ (codes "==", t.Comparison) ∷ (codes "!=", t.Comparison) ∷ (codes "<", t.Comparison) ∷ (codes "<=", t.Comparison) ∷ (codes ">", t.Comparison) ∷ (codes ">=", t.Comparison) ∷ (codes "|", t.Bar) ∷ (codes "^", t.Caret) ∷ (codes "&", t.Ampersand) ∷ (codes "<<", t.Shift) ∷ (codes ">>", t.Shift) ∷ (codes "+", t.Plus) ∷ (codes "-", t.Minus) ∷ (codes "*", t.Star) ∷ (codes "/", t.Divide) ∷ (codes "//", t.Divide) ∷ (codes "%", t.Divide) ∷ (codes "~", t.Tilde) ∷ (codes "**", t.DoubleStar) ∷ (codes ".", t.Dot) ∷ (codes ",", t.Comma) ∷ (codes ":", t.Colon) ∷ (codes "...", t.Ellipsis) ∷ (codes "(", t.OpenParenthesis) ∷ (codes ")", t.CloseParenthesis) ∷ (codes "[", t.OpenBracket) ∷ (codes "]", t.CloseBracket) ∷ (codes "{", t.OpenBrace) ∷ (codes "}", t.CloseBrace) ∷ []

unfoldable pub keyword_of : List ℕ → Terminal
keyword_of text = spelled keywords t.LeftOutWord text

unfoldable pub sign_of : List ℕ → Terminal
sign_of text = spelled signs t.LeftOutSign text

abbrev pub terminal_of : TokenKind → List ℕ → Terminal
terminal_of kinds.Name text = t.Name
terminal_of kinds.Keyword text = keyword_of text
terminal_of kinds.Int text = t.Int
terminal_of kinds.Text text = t.Text
terminal_of kinds.Bytes text = t.Bytes
terminal_of kinds.Sign text = sign_of text
terminal_of kinds.Newline text = t.Newline
terminal_of kinds.Indent text = t.Indent
terminal_of kinds.Dedent text = t.Dedent

-- no character of the text goes over this place
abbrev pub is_boundary : List ℕ → ℕ → Bool
is_boundary text i = nat_le i (length text) && (nat_le (length text) i || (nat_lt (slice_index text i) 128 || nat_le 192 (slice_index text i)))

-- the text from one place up to another, if no character goes over them
abbrev pub slice : List ℕ → ℕ → ℕ → List ℕ
slice text start stop = if is_boundary text stop && is_boundary (take stop text) start then drop start (take stop text) else []

abbrev pub lexeme_in : List ℕ → Token → Lexeme
lexeme_in text token = record { kind = terminal_of token.kind (slice text token.start token.stop); text = slice text token.start token.stop; line = token.line }

abbrev pub line_ends : List ℕ → ℕ
line_ends [] = 0
line_ends (c ∷ cs) = if c == 10 then suc (line_ends cs) else line_ends cs

abbrev pub ends_line : List ℕ → Bool
ends_line text = slice_index text (length text - 1) == 10

-- the line of the last byte, or 1: a line end ends its own line
abbrev pub last_line : List ℕ → ℕ
last_line text = if ends_line text then line_ends text else line_ends text + 1

-- the end of the text stands on the last line that has a byte
abbrev pub end_of : List ℕ → Lexeme
end_of text = record { kind = t.End; text = []; line = last_line text }

abbrev pub lexemes : List ℕ → List Token → List Lexeme
lexemes text tokens = map (lexeme_in text) tokens ++ (end_of text ∷ [])
