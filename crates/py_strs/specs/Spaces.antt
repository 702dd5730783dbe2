-- White space, and texts without it. Texts are lists of characters.
use Rattle.std.specs.Prelude.{◌≡◌, ℕ, Bool, true, ◌||◌, ◌&&◌, not, nat_le, nat_eq, List, [], ◌∷◌, ◌++◌, reverse}

-- from one code to another, both included
abbrev pub within : ℕ → ℕ → ℕ → Bool
within low high c = nat_le low c && nat_le c high

-- the characters that Python calls white space
abbrev pub is_space : ℕ → Bool
is_space c = within 0x9 0xd c || within 0x1c 0x20 c || nat_eq c 0x85 || nat_eq c 0xa0 || nat_eq c 0x1680 || within 0x2000 0x200a c || within 0x2028 0x2029 c || nat_eq c 0x202f || nat_eq c 0x205f || nat_eq c 0x3000

-- all of the characters are white space; none is
abbrev pub all_spaces : List ℕ → Bool
all_spaces [] = true
all_spaces (c ∷ cs) = is_space c && all_spaces cs

abbrev pub no_spaces : List ℕ → Bool
no_spaces [] = true
no_spaces (c ∷ cs) = not (is_space c) && no_spaces cs

-- the text begins with no white space; it ends with none
abbrev pub begins_bare : List ℕ → Bool
begins_bare [] = true
begins_bare (c ∷ cs) = not (is_space c)

abbrev pub ends_bare : List ℕ → Bool
ends_bare cs = begins_bare (reverse cs)

-- the text is this part with white space in front and behind, and the part has none at its ends
pub record IsStripped (text part : List ℕ) : Type 0 where
  pub front : List ℕ
  pub back : List ℕ
  pub split : text ≡ front ++ (part ++ back)
  pub front_spaces : all_spaces front ≡ true
  pub back_spaces : all_spaces back ≡ true
  pub starts : begins_bare part ≡ true
  pub stops : ends_bare part ≡ true
