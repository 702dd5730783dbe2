-- The bytes of tokens, how each kind is spelled, and what stands between them.
use Rattle.std.specs.Prelude.{◌≡◌, ◌⊎◌, ℕ, ◌+◌, ◌-◌, ◌<◌, Bool, true, false, ◌==◌, ◌&&◌, ◌||◌, not, nat_lt, List, [], ◌∷◌, length, take, drop, if◌then◌else◌}
use Rattle.py_lexer.specs.declared.token.TokenKind.{TokenKind}
use Rattle.py_lexer.specs.declared.token.TokenKind.TheVariants as tokens
use Rattle.py_lexer.specs.declared.token.Token.{Token}
use Rattle.py_lexer.specs.Spellings.{is_name_start, is_name_byte, is_keyword, is_int, is_one_of, signs, comment_size, line_end_size}
use Rattle.py_lexer.specs.Items.{IsLiteral}
use Rattle.py_lexer.specs.Pieces.{longest_name}

-- the bytes of a token
abbrev pub slice : List ℕ → Token → List ℕ
slice text t = take (t.stop - t.start) (drop t.start text)

abbrev pub all_pass : (ℕ → Bool) → List ℕ → Bool
all_pass p [] = true
all_pass p (c ∷ cs) = p c && all_pass p cs

-- a letter or `_`, then letters, digits and `_`; not too many, and no keyword
abbrev pub is_name : List ℕ → Bool
is_name [] = false
is_name (c ∷ cs) = is_name_start c && all_pass is_name_byte cs && not (nat_lt longest_name (length (c ∷ cs))) && not (is_keyword (c ∷ cs))

-- `0a` or `0d 0a`
abbrev pub IsLineEnd : List ℕ → Type 0
IsLineEnd s = (s ≡ 10 ∷ []) ⊎ (s ≡ 13 ∷ 10 ∷ [])

-- how tokens of a kind are spelled; a line that the text's end ends has no line end
abbrev pub Spells : TokenKind → List ℕ → List ℕ → Type 0
Spells tokens.Name s after = is_name s ≡ true
Spells tokens.Keyword s after = is_keyword s ≡ true
Spells tokens.Int s after = is_int s ≡ true
Spells tokens.Text s after = IsLiteral false s
Spells tokens.Bytes s after = IsLiteral true s
Spells tokens.Sign s after = is_one_of signs s ≡ true
Spells tokens.Newline s after = IsLineEnd s ⊎ ((s ≡ []) × (after ≡ []))
Spells tokens.Indent s after = s ≡ []
Spells tokens.Dedent s after = s ≡ []

abbrev pub IsSpelled : List ℕ → Token → Type 0
IsSpelled text t = Spells t.kind (slice text t) (drop t.stop text)

-- said of each token
abbrev pub Each : (Token → Type 0) → List Token → Type 0
Each P [] = Unit {0}
Each P (t ∷ ts) = P t × Each P ts

-- ---- between tokens

-- the length of the space, tab, comment or line end in front, 0 where there is none
abbrev pub blank_size : List ℕ → ℕ
blank_size [] = 0
blank_size (c ∷ cs) = if (c == 32) || (c == 9) then 1 else if c == 35 then comment_size (c ∷ cs) else line_end_size (c ∷ cs)

-- blanks of these sizes stand from one place of the text to the other
abbrev pub Blanks : List ℕ → List ℕ → ℕ → ℕ → Type 0
Blanks text [] from to = from ≡ to
Blanks text (n ∷ ns) from to = (0 < n) × (blank_size (drop from text) ≡ n) × Blanks text ns (from + n) to

abbrev pub OnlyBlanks : List ℕ → ℕ → ℕ → Type 0
OnlyBlanks text from to = (sizes : List ℕ) × Blanks text sizes from to

-- the tokens and blanks between them fill the text between two places
abbrev pub Filled : List ℕ → ℕ → List Token → ℕ → Type 0
Filled text from [] to = OnlyBlanks text from to
Filled text from (t ∷ ts) to = OnlyBlanks text from t.start × Filled text t.stop ts to
