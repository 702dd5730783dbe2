-- Values from Python, computed.
use Rattle.std.proofs.Common.{◌≡◌, true, false, [], ◌∷◌, Some, None, pos, negsuc, refl}
use Rattle.py_strs.specs.Joining.{joined}
use Rattle.py_strs.specs.Searching.{character_at}
use Rattle.py_strs.specs.Spaces.{is_space}

-- "aéb"[-1] and "aéb"[-3], and no character at -4 and 3
pub last : character_at (97 ∷ 233 ∷ 98 ∷ []) (negsuc 0) ≡ Some 98
last = refl

pub third_from_the_end : character_at (97 ∷ 233 ∷ 98 ∷ []) (negsuc 2) ≡ Some 97
third_from_the_end = refl

pub before_the_first : character_at (97 ∷ 233 ∷ 98 ∷ []) (negsuc 3) ≡ None
before_the_first = refl

pub behind_the_last : character_at (97 ∷ 233 ∷ 98 ∷ []) (pos 3) ≡ None
behind_the_last = refl

-- the file separator is white space, and the zero width space is none
pub file_separator : is_space 0x1c ≡ true
file_separator = refl

pub zero_width_space : is_space 0x200b ≡ false
zero_width_space = refl

-- ",".join(["a", "", "b"])
pub row : joined (44 ∷ []) ((97 ∷ []) ∷ [] ∷ (98 ∷ []) ∷ []) ≡ 97 ∷ 44 ∷ 44 ∷ 98 ∷ []
row = refl
