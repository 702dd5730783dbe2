-- How texts and byte strings are spelled: items up to the closing quote, on one line.
use Rattle.std.specs.Int.{is_in_range}
use Rattle.std.specs.Prelude.{ℕ, zero, suc, ◌+◌, ◌-◌, Bool, ◌==◌, ◌&&◌, not, nat_lt, List, [], ◌∷◌, codes, Option, Some, None, option_map, if◌then◌else◌}
use Rattle.py_lexer.specs.Spellings.{is_of, is_some, hex_digit, line_end_size}

abbrev pub is_hex : ℕ → Bool
is_hex c = is_some (hex_digit c)

-- a code whose hex digits begin so is a surrogate: from D800 to DFFF
abbrev pub is_surrogate : ℕ → ℕ → Bool
is_surrogate a b = is_of (codes "dD") a && not (is_in_range 48 55 b)

abbrev pub is_code : ℕ → ℕ → ℕ → ℕ → Bool
is_code a b c d = is_hex a && is_hex b && is_hex c && is_hex d && not (is_surrogate a b)

abbrev pub hex_escape : List ℕ → Option ℕ
hex_escape (a ∷ b ∷ rest) = if is_hex a && is_hex b then Some 3 else None
hex_escape _ = None

abbrev pub code_escape : List ℕ → Option ℕ
code_escape (a ∷ b ∷ c ∷ d ∷ rest) = if is_code a b c d then Some 5 else None
code_escape _ = None

-- the length of the escape behind its backslash
unfoldable pub escape_size : Bool → List ℕ → Option ℕ
escape_size is_bytes [] = None
escape_size is_bytes (c ∷ rest) =
    if is_of (codes "ntr\\'\"") c then Some 1
    else if c == 120 then hex_escape rest
    else if (c == 117) && not is_bytes then code_escape rest
    else None

-- the length of the character or the escape in front, where a literal may hold it: no line end, and in bytes ASCII
unfoldable pub item_size : Bool → List ℕ → Option ℕ
item_size is_bytes [] = None
item_size is_bytes (c ∷ rest) =
    if nat_lt 0 (line_end_size (c ∷ rest)) then None
    else if c == 92 then option_map (λ n. 1 + n) (escape_size is_bytes rest)
    else if is_bytes && not (nat_lt c 128) then None
    else Some 1

-- what follows an item, by the number of its bytes behind the first
abbrev pub on_item : (ℕ → Option ℕ) → Option ℕ → Option ℕ
on_item next None = None
on_item next (Some n) = next (n - 1)

-- The length of what is left of a literal with its closing quote. A number of bytes belong to the item that was begun.
unfoldable pub literal_size : ℕ → Bool → ℕ → List ℕ → Option ℕ
literal_size quote is_bytes within [] = None
literal_size quote is_bytes (suc within) (c ∷ rest) = option_map (λ n. 1 + n) (literal_size quote is_bytes within rest)
literal_size quote is_bytes zero (c ∷ rest) = if c == quote then Some 1 else on_item (λ k. option_map (λ n. 1 + n) (literal_size quote is_bytes k rest)) (item_size is_bytes (c ∷ rest))
