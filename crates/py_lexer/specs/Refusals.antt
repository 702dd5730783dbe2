-- Why a text is refused at a place of it.
use Rattle.std.specs.Prelude.{◌≡◌, ◌⊎◌, ℕ, ◌<◌, Bool, true, false, ◌==◌, ◌&&◌, ◌||◌, not, nat_lt, List, [], ◌∷◌, length, take, drop}
use Rattle.rp_base.specs.declared.rules.Rule.{Rule}
use Rattle.rp_base.specs.declared.rules.Rule.TheVariants as rules
use Rattle.rp_base.specs.declared.rules.Refused.{Refused}
use Rattle.py_lexer.specs.Layout.{longest_text}
use Rattle.py_lexer.specs.Lines.{line_at}
use Rattle.py_lexer.specs.Pieces.{longest_name, starts}
use Rattle.py_lexer.specs.Spellings.{is_of, is_quote, is_digit, is_name_start, is_prefix, name_size, line_end_size, sign_size}

-- no blank, comment, literal, number, word or sign begins here
abbrev pub begins_none : List ℕ → Bool
begins_none [] = false
begins_none (c ∷ cs) = not (is_of (32 ∷ 9 ∷ 35 ∷ []) c) && not (is_quote c) && not (is_digit c) && not (is_name_start c) && (line_end_size (c ∷ cs) == 0) && (sign_size (c ∷ cs) == 0)

-- a number or a string begins here: a quote, a digit, a point and a digit, `b` or another prefix directly before a quote
abbrev pub begins_literal : List ℕ → Bool
begins_literal [] = false
begins_literal (c ∷ cs) =
    is_quote c || is_digit c || ((c == 46) && starts is_digit cs) || ((c == 98) && starts is_quote cs)
    || (starts is_quote (drop (name_size (c ∷ cs)) (c ∷ cs)) && is_prefix (take (name_size (c ∷ cs)) (c ∷ cs)))

-- a name with more bytes than a name may have
abbrev pub is_long_name : List ℕ → Bool
is_long_name rest = starts is_name_start rest && nat_lt longest_name (name_size rest)

-- the cause of a character (L3), of a literal (L4) and of a name (L5) that is refused
abbrev pub Causes : Rule → List ℕ → Type 0
Causes rules.L3 rest = begins_none rest ≡ true
Causes rules.L4 rest = begins_literal rest ≡ true
Causes rules.L5 rest = is_long_name rest ≡ true
Causes _ rest = Unit {0}

-- The text is refused at this place, on its line: the indentation of a line that begins with a token there (L1, L2), the
-- whole text, which is too long (L5), or what begins there.
abbrev pub IsRefusedAt : List ℕ → Refused → ℕ → Type 0
IsRefusedAt text r at = (at < length text) × (r.line ≡ line_at text at) × ((r.rule ≡ rules.L1) ⊎ ((r.rule ≡ rules.L2) ⊎ (((r.rule ≡ rules.L5) × (longest_text < length text)) ⊎ Causes r.rule (drop at text))))
