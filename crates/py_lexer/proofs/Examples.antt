-- Worked texts, computed by the checker.
use Rattle.std.proofs.Common.{◌≡◌, [], ◌∷◌, ◌++◌, true, false, Ok, Err, refl}
use Rattle.std.specs.Prelude.{codes}
use Rattle.rp_base.specs.declared.rules.Rule.TheVariants as rules
use Rattle.py_lexer.specs.declared.token.TokenKind.TheVariants as tokens
use Rattle.py_lexer.specs.Layout.{token_at, refusal}
use Rattle.py_lexer.specs.Reading.{tokens_of}
use Rattle.py_lexer.specs.Items.{Hex, IsLiteral}
use Rattle.py_lexer.specs.Lines.{line_at}
use Rattle.py_lexer.specs.Refusals.{begins_none, begins_literal}
use Rattle.py_lexer.specs.Slices.{slice, is_name, blank_size}
use Rattle.py_lexer.specs.Computing.{lexing_computes}

-- no byte
pub empty_text : tokens_of ([]) ≡ Ok ([])
unfolding lexing_computes
empty_text = refl

-- x = 1, with no line end
pub one_line : tokens_of (codes "x = 1") ≡ Ok (token_at tokens.Name 0 1 1 ∷ token_at tokens.Sign 2 3 1 ∷ token_at tokens.Int 4 5 1 ∷ token_at tokens.Newline 5 5 1 ∷ [])
unfolding lexing_computes
one_line = refl

-- a comment alone, and a name behind it
pub comment_line : tokens_of (codes "# if" ++ 10 ∷ codes "x" ++ 10 ∷ []) ≡ Ok (token_at tokens.Name 5 6 2 ∷ token_at tokens.Newline 6 7 2 ∷ [])
unfolding lexing_computes
comment_line = refl

-- two suites that end with the text
pub two_suites : tokens_of (codes "if a:" ++ 10 ∷ codes " if b:" ++ 10 ∷ codes "  c" ++ 10 ∷ []) ≡ Ok (token_at tokens.Keyword 0 2 1 ∷ token_at tokens.Name 3 4 1 ∷ token_at tokens.Sign 4 5 1 ∷ token_at tokens.Newline 5 6 1 ∷ token_at tokens.Indent 7 7 2 ∷ token_at tokens.Keyword 7 9 2 ∷ token_at tokens.Name 10 11 2 ∷ token_at tokens.Sign 11 12 2 ∷ token_at tokens.Newline 12 13 2 ∷ token_at tokens.Indent 15 15 3 ∷ token_at tokens.Name 15 16 3 ∷ token_at tokens.Newline 16 17 3 ∷ token_at tokens.Dedent 17 17 3 ∷ token_at tokens.Dedent 17 17 3 ∷ [])
unfolding lexing_computes
two_suites = refl

-- a suite that ends before a line
pub suite_ends : tokens_of (codes "if a:" ++ 10 ∷ codes " b" ++ 10 ∷ codes "c") ≡ Ok (token_at tokens.Keyword 0 2 1 ∷ token_at tokens.Name 3 4 1 ∷ token_at tokens.Sign 4 5 1 ∷ token_at tokens.Newline 5 6 1 ∷ token_at tokens.Indent 7 7 2 ∷ token_at tokens.Name 7 8 2 ∷ token_at tokens.Newline 8 9 2 ∷ token_at tokens.Dedent 9 9 3 ∷ token_at tokens.Name 9 10 3 ∷ token_at tokens.Newline 10 10 3 ∷ [])
unfolding lexing_computes
suite_ends = refl

-- brackets over two lines
pub brackets_over_lines : tokens_of (codes "(a," ++ 10 ∷ 9 ∷ codes "b)" ++ 13 ∷ 10 ∷ []) ≡ Ok (token_at tokens.Sign 0 1 1 ∷ token_at tokens.Name 1 2 1 ∷ token_at tokens.Sign 2 3 1 ∷ token_at tokens.Name 5 6 2 ∷ token_at tokens.Sign 6 7 2 ∷ token_at tokens.Newline 7 9 2 ∷ [])
unfolding lexing_computes
brackets_over_lines = refl

-- b'' and a text with escapes
pub bytes_and_text : tokens_of (codes "b" ++ 39 ∷ 39 ∷ 34 ∷ 92 ∷ codes "x0f" ++ 39 ∷ 34 ∷ []) ≡ Ok (token_at tokens.Bytes 0 3 1 ∷ token_at tokens.Text 3 10 1 ∷ token_at tokens.Newline 10 10 1 ∷ [])
unfolding lexing_computes
bytes_and_text = refl

-- the longest sign at each place
pub long_signs : tokens_of (codes "<<==...") ≡ Ok (token_at tokens.Sign 0 3 1 ∷ token_at tokens.Sign 3 4 1 ∷ token_at tokens.Sign 4 7 1 ∷ token_at tokens.Newline 7 7 1 ∷ [])
unfolding lexing_computes
long_signs = refl

-- a tab in the indentation
pub tab_refused : tokens_of (codes "x" ++ 10 ∷ codes " " ++ 9 ∷ codes "y") ≡ Err (refusal 2 rules.L1)
unfolding lexing_computes
tab_refused = refl

-- a dedent to no open indentation
pub dedent_refused : tokens_of (codes "if a:" ++ 10 ∷ codes "  b" ++ 10 ∷ codes " c") ≡ Err (refusal 3 rules.L2)
unfolding lexing_computes
dedent_refused = refl

-- a character that begins no token
pub character_refused : tokens_of (codes "x" ++ 10 ∷ 10 ∷ codes "$") ≡ Err (refusal 3 rules.L3)
unfolding lexing_computes
character_refused = refl

-- a zero in front
pub number_refused : tokens_of (codes "x = 01") ≡ Err (refusal 1 rules.L4)
unfolding lexing_computes
number_refused = refl

-- a hex int with no digit
pub hex_refused : tokens_of (codes "0x") ≡ Err (refusal 1 rules.L4)
unfolding lexing_computes
hex_refused = refl

-- half of a pair
pub surrogate_refused : tokens_of (39 ∷ 92 ∷ codes "uDC00" ++ 39 ∷ []) ≡ Err (refusal 1 rules.L4)
unfolding lexing_computes
surrogate_refused = refl

-- a text that does not end on its line
pub open_text_refused : tokens_of (codes "x = " ++ 39 ∷ codes "a" ++ 10 ∷ 39 ∷ []) ≡ Err (refusal 1 rules.L4)
unfolding lexing_computes
open_text_refused = refl

-- a number that begins with a point
pub dot_refused : tokens_of (codes ".5") ≡ Err (refusal 1 rules.L4)
unfolding lexing_computes
dot_refused = refl

-- a prefix that is left out
pub prefix_refused : tokens_of (codes "rB" ++ 39 ∷ 39 ∷ []) ≡ Err (refusal 1 rules.L4)
unfolding lexing_computes
prefix_refused = refl

-- 65 letters
pub long_name_refused : tokens_of (codes "aaaaaaaaaaaaaaaaaaaaaaaaaaaaaaaaaaaaaaaaaaaaaaaaaaaaaaaaaaaaaaaaa") ≡ Err (refusal 1 rules.L5)
unfolding lexing_computes
long_name_refused = refl

-- ---- the words of the laws

-- a name, and what is none
pub name_is : is_name (codes "_x1") ≡ true
unfolding lexing_computes
name_is = refl

pub keyword_is_no_name : is_name (codes "if") ≡ false
unfolding lexing_computes
keyword_is_no_name = refl

-- the bytes of the second token of x = 1
pub second_slice : slice (codes "x = 1") (token_at tokens.Sign 2 3 1) ≡ codes "="
second_slice = refl

-- a comment up to the end of its line, and that end
pub comment_blank : blank_size (codes "# b" ++ 13 ∷ 10 ∷ codes "c") ≡ 3
unfolding lexing_computes
comment_blank = refl

pub line_end_blank : blank_size (13 ∷ 10 ∷ codes "c") ≡ 2
unfolding lexing_computes
line_end_blank = refl

pub letter_is_no_blank : blank_size (codes "c") ≡ 0
unfolding lexing_computes
letter_is_no_blank = refl

-- the third line begins behind the second feed
pub third_line : line_at (codes "a" ++ 10 ∷ 10 ∷ codes "b") 3 ≡ 3
third_line = refl

pub second_line : line_at (codes "a" ++ 10 ∷ 10 ∷ codes "b") 2 ≡ 2
second_line = refl

-- b'\x41' is a literal of one item, and its b belongs to it
pub bytes_literal : IsLiteral true (98 ∷ 39 ∷ 92 ∷ codes "x41" ++ 39 ∷ [])
bytes_literal = record { quote = 39; items = Hex 52 49 ∷ []; quoted = refl; stand = refl; whole = refl }

-- $ begins nothing, and a lone carriage return neither
pub dollar_begins_none : begins_none (codes "$") ≡ true
unfolding lexing_computes
dollar_begins_none = refl

pub return_begins_none : begins_none (13 ∷ codes "x") ≡ true
unfolding lexing_computes
return_begins_none = refl

pub point_and_digit : begins_literal (codes ".5") ≡ true
unfolding lexing_computes
point_and_digit = refl

pub point_alone : begins_literal (codes ".x") ≡ false
unfolding lexing_computes
point_alone = refl
