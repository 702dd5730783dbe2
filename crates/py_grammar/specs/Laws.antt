-- What holds of the grammar with any builder and any limits.
use Rattle.std.specs.Prelude.{◌≡◌, ◌↔◌, ℕ, List, [], ◌∷◌, ◌++◌}
use Rattle.py_grammar.specs.declared.symbol.Limits.{Limits}
use Rattle.py_grammar.specs.declared.symbol.Start.{Start}
use Rattle.py_grammar.specs.declared.symbol.Symbol.{Symbol}
use Rattle.py_grammar.specs.declared.terminal.Terminal.TheVariants as t
use Rattle.py_grammar.specs.Building.{Lexeme, Builder}
use Rattle.py_grammar.specs.Deriving.{Derives, CanBegin}
use Rattle.py_grammar.specs.Reading.{Done, Stuck, run}
use Rattle.py_grammar.specs.Refusals.{leading, IsAt, IsRefused, any_depth, unlimited, belongs_to_left_out, passed, rule_of}
use Rattle.py_grammar.specs.Table.{opening}
use Rattle.py_grammar.specs.Writing.{Writes}

-- a text is read to its end where it has a derivation, and there alone
abbrev pub ReadsExactly : (B : Type 0) → Builder B → Type 0
ReadsExactly B m = (lim : Limits) (start : Start) (b out : B) (ts : List Lexeme) → (run B m lim (opening start) b ts ≡ Done out) ↔ Derives B m lim (opening start) b ts out

-- where the reading is stuck, some text goes on from the tokens so far, and none with the next one
abbrev pub RefusesExactly : (B : Type 0) → Builder B → Type 0
RefusesExactly B m = (lim : Limits) (start : Start) (b : B) (ts : List Lexeme) (n : ℕ) (u : Lexeme) → run B m lim (opening start) b ts ≡ Stuck n → IsAt n ts u
    → CanBegin B m lim (opening start) b (leading n ts) × (CanBegin B m lim (opening start) b (leading n ts ++ (u ∷ [])) → ⊥)

-- a text that ends is read to its end or stuck at one of its tokens
abbrev pub StopsInside : (B : Type 0) → Builder B → Type 0
StopsInside B m = (lim : Limits) (start : Start) (b : B) (ts : List Lexeme) (e : Lexeme) (n : ℕ) → e.kind ≡ t.End → run B m lim (opening start) b (ts ++ (e ∷ [])) ≡ Stuck n
    → (u : Lexeme) × IsAt n (ts ++ (e ∷ [])) u

-- the readings under other limits tell which rule a refused token breaks
abbrev pub TellsTheRule : (B : Type 0) → Builder B → Type 0
TellsTheRule B m = (lim : Limits) (start : Start) (b : B) (ts : List Lexeme) (n : ℕ) (u : Lexeme) → run B m lim (opening start) b ts ≡ Stuck n → IsAt n ts u
    → IsRefused B m lim (opening start) b ts n u (rule_of (passed B n (run B m (any_depth lim) (opening start) b ts)) (passed B n (run B m unlimited (opening start) b ts)) (belongs_to_left_out (leading n ts) u))

-- of one text one thing is built
abbrev pub HasOneTree : (B : Type 0) → Builder B → Type 0
HasOneTree B m = (lim : Limits) (start : Start) (b one two : B) (ts : List Lexeme) → Derives B m lim (opening start) b ts one → Derives B m lim (opening start) b ts two → one ≡ two

-- what is derived from the left is what is written by pieces, and then the end
abbrev pub PiecesAgree : (B : Type 0) → Builder B → Type 0
PiecesAgree B m = (lim : Limits) (ss : List Symbol) (b out : B) (ts : List Lexeme)
    → Derives B m lim ss b ts out ↔ ((us : List Lexeme) × (e : Lexeme) × (e.kind ≡ t.End) × (ts ≡ us ++ (e ∷ [])) × Writes B m lim ss b us out)
