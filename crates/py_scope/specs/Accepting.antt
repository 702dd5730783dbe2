-- Which texts are accepted, and where and by which rule the others are refused.
use Rattle.std.specs.Prelude.{◌≡◌, ℕ, ◌+◌, ◌==◌, List, [], ◌∷◌, take, ◌⊎◌, Result, Ok, Err, if◌then◌else◌}
use Rattle.std.specs.Str.{IsUtf8}
use Rattle.std.specs.Str.Lossy.{utf8_valid_len}
use Rattle.rp_base.specs.declared.rules.Rule.TheVariants as rule
use Rattle.rp_base.specs.declared.rules.Refused.{Refused}
use Rattle.py_ast.specs.declared.program.Program.{Program}
use Rattle.py_grammar.specs.declared.symbol.Start.{Start}
use Rattle.py_lexer.specs.declared.token.Token.{Token}
use Rattle.py_lexer.specs.Reading.{tokens_of}
use Rattle.py_mentions.specs.Walks.{mentions_in}
use Rattle.py_mentions.specs.Worst.{IsWorst}
use Rattle.py_parser.specs.Lexemes.{lexemes, line_ends}
use Rattle.py_parser.specs.Parsing.{HasTree, IsFirstMisfit}
use Rattle.py_scope.specs.declared.ending.AcceptEnd.{AcceptEnd}
use Rattle.py_scope.specs.declared.ending.AcceptEnd.TheVariants as ends
use Rattle.py_scope.specs.Finished.{finished}
use Rattle.py_scope.specs.Judging.{broken}

-- ---- bytes that are not UTF-8

-- the place behind the last line end, from a place on; the last one before it is known
unfoldable pub behind_line_end : ℕ → ℕ → List ℕ → ℕ
behind_line_end at last [] = last
behind_line_end at last (c ∷ cs) = behind_line_end (at + 1) (if c == 10 then at + 1 else last) cs

-- the whole lines of a text
abbrev pub whole_lines : List ℕ → List ℕ
whole_lines text = take (behind_line_end 0 0 text) text

-- the lines in front of the first byte that is not UTF-8
abbrev pub readable_lines : List ℕ → List ℕ
readable_lines text = whole_lines (take (utf8_valid_len text) text)

-- those lines break a rule first, or else the line of that byte is refused
abbrev pub Unreadable : List ℕ → Result (List Token) Refused → Refused → Type 0
Unreadable lines (Err e) r = r ≡ e
Unreadable lines (Ok ts) r = r ≡ record { line = line_ends lines + 1; rule = rule.L6 }

-- ---- tokens

abbrev pub HasTokens : List ℕ → List Token → Type 0
HasTokens text ts = IsUtf8 text × (tokens_of text ≡ Ok ts)

abbrev pub HasNoTokens : List ℕ → Refused → Type 0
HasNoTokens text r = (IsUtf8 text × (tokens_of text ≡ Err r)) ⊎ ((IsUtf8 text → ⊥) × Unreadable (readable_lines text) (tokens_of (readable_lines text)) r)

-- ---- texts

-- the text has tokens that can be derived and breaks no static rule, and this is its tree with what its functions keep
abbrev pub Accepted : Start → List ℕ → Program → Type 0
Accepted start text p = (ts : List Token) × (tree : Program) × HasTokens text ts × HasTree start (lexemes text ts) tree × (broken tree ≡ []) × (p ≡ finished (mentions_in tree) tree)

-- the text has tokens and a tree, and this is the first static rule that it breaks
abbrev pub BreaksFirst : Start → List ℕ → Refused → Type 0
BreaksFirst start text r = (ts : List Token) × (tree : Program) × HasTokens text ts × HasTree start (lexemes text ts) tree × IsWorst (broken tree) r

-- the text has tokens, and the first of them that fits nowhere breaks this rule
abbrev pub FitsNowhere : Start → List ℕ → Refused → Type 0
FitsNowhere start text r = (ts : List Token) × HasTokens text ts × IsFirstMisfit start (lexemes text ts) r

abbrev pub RefusedAt : Start → List ℕ → Refused → Type 0
RefusedAt start text r = HasNoTokens text r ⊎ (FitsNowhere start text r ⊎ BreaksFirst start text r)

abbrev pub Judgement : Start → List ℕ → Result Program AcceptEnd → Type 0
Judgement start text (Ok p) = Accepted start text p
Judgement start text (Err (ends.Refused r)) = RefusedAt start text r
Judgement start text (Err ends.NoMemory) = Unit {0}
