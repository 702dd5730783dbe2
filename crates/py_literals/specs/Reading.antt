-- The items of a literal, read from the left.
use Rattle.std.specs.Prelude.{ℕ, zero, suc, ◌-◌, Bool, ◌==◌, ◌&&◌, not, List, [], ◌∷◌, length, Option, Some, None, option_map, if◌then◌else◌}
use Rattle.py_lexer.specs.Items.{Item, Byte, Mark, Hex, Code, spelled, is_plain, is_mark}
use Rattle.py_lexer.specs.Literals.{is_hex, is_code}

abbrev pub hex_item : List ℕ → Option Item
hex_item (a ∷ b ∷ rest) = if is_hex a && is_hex b then Some (Hex a b) else None
hex_item _ = None

abbrev pub code_item : List ℕ → Option Item
code_item (a ∷ b ∷ c ∷ d ∷ rest) = if is_code a b c d then Some (Code a b c d) else None
code_item _ = None

-- the escape whose backslash stood in front
unfoldable pub escape_item : Bool → List ℕ → Option Item
escape_item is_bytes [] = None
escape_item is_bytes (c ∷ rest) =
    if is_mark c then Some (Mark c)
    else if c == 120 then hex_item rest
    else if (c == 117) && not is_bytes then code_item rest
    else None

-- the item in front, where no quote stands
unfoldable pub item_of : Bool → List ℕ → Option Item
item_of is_bytes [] = None
item_of is_bytes (c ∷ rest) = if c == 92 then escape_item is_bytes rest else if is_plain is_bytes c then Some (Byte c) else None

-- an item, and the items of what follows it
abbrev pub followed : (ℕ → Option (List Item)) → Option Item → Option (List Item)
followed next None = None
followed next (Some i) = option_map (λ is. i ∷ is) (next (length (spelled i) - 1))

abbrev pub at_end : List ℕ → Option (List Item)
at_end [] = Some []
at_end (c ∷ rest) = None

-- The items up to the closing quote, with which the text ends. So many bytes in front belong to the item that was begun.
unfoldable pub items_of : Bool → ℕ → ℕ → List ℕ → Option (List Item)
items_of is_bytes quote within [] = None
items_of is_bytes quote (suc within) (c ∷ rest) = items_of is_bytes quote within rest
items_of is_bytes quote zero (c ∷ rest) = if c == quote then at_end rest else followed (λ k. items_of is_bytes quote k rest) (item_of is_bytes (c ∷ rest))
