-- How names, numbers and signs are spelled, and how long the one in front of a text is.
use Rattle.std.specs.Int.{is_in_range}
use Rattle.std.specs.List.{starts_with}
use Rattle.std.specs.Str.{bytes_eq}
use Rattle.std.specs.Prelude.{ℕ, ℤ, ◌+◌, ◌-◌, ◌*◌, ◌^◌, Bool, true, false, ◌==◌, ◌&&◌, ◌||◌, not, nat_lt, List, [], ◌∷◌, length, codes, Option, Some, None, Result, Ok, Err, if◌then◌else◌}
use Rattle.py_ints.specs.IntTexts.{int_value, within}
use Rattle.py_ints.specs.declared.reading.IntText.{IntText}

-- ---- classes of characters

abbrev pub is_name_start : ℕ → Bool
is_name_start c = is_in_range 97 122 c || is_in_range 65 90 c || (c == 95)

abbrev pub is_digit : ℕ → Bool
is_digit c = is_in_range 48 57 c

abbrev pub is_name_byte : ℕ → Bool
is_name_byte c = is_name_start c || is_digit c

-- a number begins with a digit, and these characters go on with it
abbrev pub is_number_byte : ℕ → Bool
is_number_byte c = is_name_byte c || (c == 46)

abbrev pub is_quote : ℕ → Bool
is_quote c = (c == 39) || (c == 34)

-- one of the characters of a text
abbrev pub is_of : List ℕ → ℕ → Bool
is_of [] c = false
is_of (d ∷ ds) c = (c == d) || is_of ds c

-- ---- signs

-- the signs, the longer ones first
abbrev pub signs : List (List ℕ)
signs =
    codes "//=" ∷ codes "**=" ∷ codes "<<=" ∷ codes ">>=" ∷ codes "..." ∷ codes "+=" ∷ codes "-=" ∷ codes "*=" ∷ codes "%=" ∷ codes "&=" ∷ codes "|=" ∷ codes "^=" ∷ codes "==" ∷ codes "!=" ∷ codes "<=" ∷ codes ">=" ∷ codes "<<" ∷ codes ">>" ∷ codes "//" ∷ codes "**" ∷ codes ":=" ∷ codes "->"
    ∷ codes "=" ∷ codes ":" ∷ codes "(" ∷ codes ")" ∷ codes "," ∷ codes "." ∷ codes "[" ∷ codes "]" ∷ codes "<" ∷ codes ">" ∷ codes "|" ∷ codes "^" ∷ codes "&" ∷ codes "+" ∷ codes "-" ∷ codes "*" ∷ codes "/" ∷ codes "%" ∷ codes "~" ∷ codes "{" ∷ codes "}" ∷ codes ";" ∷ codes "@" ∷ []

abbrev pub begins : List ℕ → List ℕ → Bool
begins text sign = starts_with (λ a b. a == b) text sign

-- the length of the first of the words that stands in front, 0 where there is none
abbrev pub first_in_front : List (List ℕ) → List ℕ → ℕ
first_in_front [] text = 0
first_in_front (word ∷ words) text = if begins text word then length word else first_in_front words text

-- the length of the longest sign in front, 0 where there is none
unfoldable pub sign_size : List ℕ → ℕ
sign_size text = first_in_front signs text

-- how many bytes at the front pass the test
abbrev pub front_size : (ℕ → Bool) → List ℕ → ℕ
front_size p [] = 0
front_size p (c ∷ cs) = if p c then 1 + front_size p cs else 0

-- ---- names

abbrev pub name_size : List ℕ → ℕ
name_size = front_size is_name_byte

abbrev pub keywords : List (List ℕ)
keywords =
    codes "False" ∷ codes "None" ∷ codes "True" ∷ codes "and" ∷ codes "as" ∷ codes "assert" ∷ codes "async" ∷ codes "await" ∷ codes "break" ∷ codes "class" ∷ codes "continue" ∷ codes "def" ∷ codes "del" ∷ codes "elif" ∷ codes "else" ∷ codes "except" ∷ codes "finally" ∷ codes "for"
    ∷ codes "from" ∷ codes "global" ∷ codes "if" ∷ codes "import" ∷ codes "in" ∷ codes "is" ∷ codes "lambda" ∷ codes "nonlocal" ∷ codes "not" ∷ codes "or" ∷ codes "pass" ∷ codes "raise" ∷ codes "return" ∷ codes "try" ∷ codes "while" ∷ codes "with" ∷ codes "yield" ∷ []

abbrev pub is_one_of : List (List ℕ) → List ℕ → Bool
is_one_of [] t = false
is_one_of (word ∷ words) t = bytes_eq t word || is_one_of words t

unfoldable pub is_keyword : List ℕ → Bool
is_keyword t = is_one_of keywords t

-- Python's prefixes of strings, in any case
unfoldable pub is_prefix : List ℕ → Bool
is_prefix (a ∷ []) = is_of (codes "bBfFrRuU") a
is_prefix (a ∷ b ∷ []) = (is_of (codes "rR") a && is_of (codes "bBfF") b) || (is_of (codes "bBfF") a && is_of (codes "rR") b)
is_prefix _ = false

-- ---- numbers

abbrev pub number_size : List ℕ → ℕ
number_size = front_size is_number_byte

abbrev pub hex_digit : ℕ → Option ℕ
hex_digit c =
    if is_in_range 48 57 c then Some (c - 48)
    else if is_in_range 97 102 c then Some (c - 97 + 10)
    else if is_in_range 65 70 c then Some (c - 65 + 10)
    else None

abbrev pub is_some : Option ℕ → Bool
is_some None = false
is_some (Some n) = true

abbrev pub count_in : Option ℕ → ℕ
count_in None = 0
count_in (Some n) = n

abbrev pub all_hex : List ℕ → Bool
all_hex [] = true
all_hex (c ∷ cs) = is_some (hex_digit c) && all_hex cs

-- the number that hex digits spell: each counts as often as its place says
abbrev pub hex_natural : List ℕ → ℕ
hex_natural [] = 0
hex_natural (c ∷ cs) = count_in (hex_digit c) * 16 ^ length cs + hex_natural cs

abbrev pub is_empty : List ℕ → Bool
is_empty [] = true
is_empty (c ∷ cs) = false

-- hex digits of a number below 2^127
unfoldable pub is_hex_int : List ℕ → Bool
is_hex_int digits = not (is_empty digits) && all_hex digits && nat_lt (hex_natural digits) (2 ^ 127)

abbrev pub reads : Result ℤ IntText → Bool
reads (Ok z) = true
reads (Err e) = false

-- behind a 0
abbrev pub is_zero_int : List ℕ → Bool
is_zero_int [] = true
is_zero_int (c ∷ cs) = (c == 120) && is_hex_int cs

-- a whole int: `0`, `0x` and hex digits, or decimal digits without a 0 in front, below 2^127
unfoldable pub is_int : List ℕ → Bool
is_int [] = false
is_int (c ∷ cs) = if c == 48 then is_zero_int cs else is_in_range 49 57 c && reads (within (int_value (c ∷ cs)))

-- ---- line ends and comments

abbrev pub is_feed : List ℕ → Bool
is_feed [] = false
is_feed (c ∷ cs) = c == 10

-- the length of the line end in front, 0 where there is none
abbrev pub line_end_size : List ℕ → ℕ
line_end_size [] = 0
line_end_size (c ∷ cs) = if c == 10 then 1 else if (c == 13) && is_feed cs then 2 else 0

-- how many bytes stand before the end of the line
unfoldable pub comment_size : List ℕ → ℕ
comment_size [] = 0
comment_size (c ∷ cs) = if line_end_size (c ∷ cs) == 0 then 1 + comment_size cs else 0
