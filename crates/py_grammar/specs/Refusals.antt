-- The first token that fits nowhere, and the rule that it breaks.
use Rattle.std.specs.Prelude.{◌≡◌, ℕ, zero, suc, ◌^◌, Bool, true, false, ◌&&◌, ◌||◌, nat_lt, List, [], ◌∷◌, ◌++◌, if◌then◌else◌}
use Rattle.rp_base.specs.declared.rules.Rule.{Rule}
use Rattle.rp_base.specs.declared.rules.Rule.TheVariants as rules
use Rattle.py_grammar.specs.declared.symbol.Limits.{Limits}
use Rattle.py_grammar.specs.declared.symbol.Symbol.{Symbol}
use Rattle.py_grammar.specs.declared.terminal.Terminal.{Terminal}
use Rattle.py_grammar.specs.declared.terminal.Terminal.TheVariants as t
use Rattle.py_grammar.specs.Building.{Lexeme, Builder}
use Rattle.py_grammar.specs.Deriving.{CanBegin}
use Rattle.py_grammar.specs.Reading.{Outcome, Done, Stuck, has}

-- the first n tokens
abbrev pub leading : ℕ → List Lexeme → List Lexeme
leading zero ts = []
leading (suc n) [] = []
leading (suc n) (u ∷ us) = u ∷ leading n us

-- u stands at place n
abbrev pub IsAt : ℕ → List Lexeme → Lexeme → Type 0
IsAt n [] u = ⊥
IsAt zero (v ∷ vs) u = v ≡ u
IsAt (suc n) (v ∷ vs) u = IsAt n vs u

-- no text that can be read reaches these
abbrev pub unreached : ℕ
unreached = 2 ^ 31

-- any nesting
abbrev pub any_depth : Limits → Limits
any_depth lim = record lim { levels = unreached }

-- any nesting, and any number of parameters or arguments
abbrev pub unlimited : Limits
unlimited = record { levels = unreached; arguments = unreached }

-- keywords and signs of forms that are left out
abbrev pub left_out : List Terminal
left_out = t.LeftOutWord ∷ t.Else ∷ t.For ∷ t.LeftOutSign ∷ t.Assign ∷ t.Colon ∷ t.Star ∷ t.DoubleStar ∷ []

abbrev pub literals : List Terminal
literals = t.Text ∷ t.Bytes ∷ []

abbrev pub ends_in_literal : List Lexeme → Bool
ends_in_literal [] = false
ends_in_literal (u ∷ []) = has u.kind literals
ends_in_literal (u ∷ v ∷ vs) = ends_in_literal (v ∷ vs)

-- the token belongs to a form that is left out: by itself, or as a literal behind a literal
abbrev pub belongs_to_left_out : List Lexeme → Lexeme → Bool
belongs_to_left_out before u = has u.kind left_out || (has u.kind literals && ends_in_literal before)

-- u does not fit behind the tokens before it, and breaks this rule: it would fit if the text could nest deeper; if more parameters and arguments could stand there too;
-- it belongs to a form that is left out; or none of these
abbrev pub Breaks : (B : Type 0) → Builder B → Limits → List Symbol → B → List Lexeme → Lexeme → Rule → Type 0
Breaks B m lim ss b before u rules.P3 = CanBegin B m (any_depth lim) ss b (before ++ (u ∷ []))
Breaks B m lim ss b before u rules.P4 = (CanBegin B m (any_depth lim) ss b (before ++ (u ∷ [])) → ⊥) × CanBegin B m unlimited ss b (before ++ (u ∷ []))
Breaks B m lim ss b before u rules.P2 =
    (CanBegin B m (any_depth lim) ss b (before ++ (u ∷ [])) → ⊥) × (CanBegin B m unlimited ss b (before ++ (u ∷ [])) → ⊥) × (belongs_to_left_out before u ≡ true)
Breaks B m lim ss b before u rules.P1 =
    (CanBegin B m (any_depth lim) ss b (before ++ (u ∷ [])) → ⊥) × (CanBegin B m unlimited ss b (before ++ (u ∷ [])) → ⊥) × (belongs_to_left_out before u ≡ false)
Breaks B m lim ss b before u _ = ⊥

-- u at place n is the first token that fits nowhere, and breaks this rule
abbrev pub IsRefused : (B : Type 0) → Builder B → Limits → List Symbol → B → List Lexeme → ℕ → Lexeme → Rule → Type 0
IsRefused B m lim ss b ts n u rule =
    IsAt n ts u × CanBegin B m lim ss b (leading n ts) × (CanBegin B m lim ss b (leading n ts ++ (u ∷ [])) → ⊥) × Breaks B m lim ss b (leading n ts) u rule

-- ---- by the reading

-- the reading took the token at place n
abbrev pub passed : (B : Type 0) → ℕ → Outcome B → Bool
passed B n (Done b) = true
passed B n (Stuck k) = nat_lt n k

abbrev pub rule_of : Bool → Bool → Bool → Rule
rule_of deeper longer left_out = if deeper then rules.P3 else if longer then rules.P4 else if left_out then rules.P2 else rules.P1
