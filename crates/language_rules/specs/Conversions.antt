-- The builtin functions on numbers and characters: `int`, `abs`, `ord`, `chr`, `range` (Python Library Reference, "Built-in Functions").
use Rattle.std.specs.Prelude.{ℕ, zero, ◌==◌, true, false, ◌&&◌, ◌||◌, nat_le, nat_lt, ℤ, pos, negsuc, unsigned_abs, List, [], ◌∷◌, codes, Option, Some, None, option_map, chars, encode_utf8_all}
use Rattle.std.specs.List.{list_any}
use Rattle.rp_base.specs.declared.exceptions.Beyond.TheVariants as beyond
use Rattle.rp_base.specs.declared.exceptions.ExcKind.TheVariants as exception
use Rattle.rp_base.specs.declared.plain.Plain.TheVariants as plain
use Rattle.rp_base.specs.declared.value.Value.{Value}
use Rattle.rp_base.specs.declared.value.Value.TheVariants as value
use Rattle.rp_base.specs.PlainValues.{as_int}
use Rattle.py_ints.specs.IntTexts.{fits, int_value}
use Rattle.py_store.specs.declared.cell.Cell.TheVariants as cell
use Rattle.side_trees.specs.Trees.{Return, Stop}
use Rattle.language_rules.specs.Codes.{Gives}
use Rattle.language_rules.specs.Going.{RuleTree, text, fails, gives_new}
use Rattle.language_rules.specs.TextFunctions.{stripped}

-- the int, where it has 128 bits
abbrev pub gives_int : ℤ → RuleTree
gives_int z = elim (fits z) [ true ↦ Return (Gives (value.Plain (plain.Int z))) | false ↦ Stop beyond.Int ]

-- ---- `int`

-- A text that spells no int: where it is ASCII without `_`, Python refuses it too; else Python may read it in ways that are left out.
abbrev pub refused_int : List ℕ → RuleTree
refused_int t = elim (list_any (λ b. nat_le 128 b || (b == 95)) t) [ true ↦ Stop beyond.IntText | false ↦ fails exception.ValueError (codes "not an integer text") ]

-- a sign and digits, with white space around
abbrev pub int_of_text : List ℕ → RuleTree
int_of_text t = elim (int_value (stripped (chars t))) [ Some z ↦ gives_int z | None ↦ refused_int t ]

abbrev pub int_of : Value → RuleTree
int_of (value.Plain (plain.Bool b)) = gives_int (as_int b)
int_of (value.Plain (plain.Int z)) = gives_int z
int_of (value.Plain (plain.Text t)) = int_of_text t
int_of _ = Stop beyond.Arguments

-- ---- `abs`

abbrev pub absolute : Value → RuleTree
absolute (value.Plain (plain.Bool b)) = gives_int (as_int b)
absolute (value.Plain (plain.Int z)) = gives_int (pos (unsigned_abs z))
absolute _ = Stop beyond.Arguments

-- ---- `ord` and `chr`

-- the only character
abbrev pub code_of : List ℕ → RuleTree
code_of (c ∷ []) = gives_int (pos c)
code_of _ = Stop beyond.Arguments

abbrev pub ord_of : Value → RuleTree
ord_of (value.Plain (plain.Text t)) = code_of (chars t)
ord_of _ = Stop beyond.Arguments

abbrev pub character_out_of_range : RuleTree
character_out_of_range = fails exception.ValueError (codes "character out of range")

-- the character of a code: a surrogate stands in no text here
abbrev pub character_of : ℤ → RuleTree
character_of (pos c) = elim (nat_lt 1114111 c) [
  | true ↦ character_out_of_range
  | false ↦ elim (nat_le 55296 c && nat_le c 57343) [ true ↦ Stop beyond.Arguments | false ↦ Return (Gives (text (encode_utf8_all (c ∷ [])))) ]
]
character_of (negsuc c) = character_out_of_range

abbrev pub chr_of : Value → RuleTree
chr_of (value.Plain (plain.Int z)) = character_of z
chr_of _ = Stop beyond.Arguments

-- ---- `range`

-- the ints that these are, where all are ints; a bool is none here
abbrev pub only_ints : List Value → Option (List ℤ)
only_ints [] = Some []
only_ints (value.Plain (plain.Int z) ∷ vs) = option_map (λ zs. z ∷ zs) (only_ints vs)
only_ints _ = None

abbrev pub new_range : ℤ → ℤ → ℤ → RuleTree
new_range start stop (pos zero) = fails exception.ValueError (codes "step is zero")
new_range start stop step = gives_new (cell.Range start stop step)

-- from 0 and by 1 where that is not said
abbrev pub range_over : Option (List ℤ) → RuleTree
range_over (Some (stop ∷ [])) = new_range (pos 0) stop (pos 1)
range_over (Some (start ∷ stop ∷ [])) = new_range start stop (pos 1)
range_over (Some (start ∷ stop ∷ step ∷ [])) = new_range start stop step
range_over _ = Stop beyond.Arguments
