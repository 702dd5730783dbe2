-- How the code's steps follow the grammar's reading.
use Rattle.std.specs.Prelude.{◌≡◌, ℕ, ◌+◌, true, false, ◌++◌, List, Option, Some, None}
use Rattle.py_grammar.specs.declared.symbol.Limits.{Limits}
use Rattle.py_grammar.specs.declared.symbol.Symbol.{Symbol}
use Rattle.py_grammar.specs.declared.terminal.Terminal.{Terminal}
use Rattle.py_grammar.specs.declared.word.Word.{Word}
use Rattle.py_grammar.specs.Building.{Lexeme}
use Rattle.py_grammar.specs.Reading.{Step, Refused, Took, Closed, step, fits, Outcome, Done, Stuck, run}
use Rattle.py_grammar.specs.Table.{empty}
use Rattle.py_grammar.specs.Ways.{Way}
use Rattle.py_grammar.specs.Writing.{deeper}
use Rattle.py_parser.specs.declared.builder.Building.{Building}
use Rattle.py_parser.specs.declared.reading.Opened.{Opened}
use Rattle.py_parser.specs.declared.reading.Opened.TheVariants as opened
use Rattle.py_parser.specs.declared.reading.Taken.{Taken}
use Rattle.py_parser.specs.declared.reading.Reached.{Reached}
use Rattle.py_parser.specs.declared.reading.Reached.TheVariants as reached
use Rattle.py_parser.specs.declared.reading.Taken.TheVariants as taken
use Rattle.py_parser.specs.BuildingActs.{builder}

abbrev pub lexeme : Terminal → List ℕ → ℕ → Lexeme
lexeme k text line = record { kind = k; text = text; line = line }

abbrev pub steps : Limits → ℕ → List Symbol → Building → Lexeme → Step Building
steps lim f ss b u = step Building builder lim f ss b u

-- the token was taken as the step says, and then this stack and this building are left
abbrev pub Stepped : Taken → List Symbol → Building → Step Building → Type 0
Stepped taken.Refused ss b Refused = Unit {0}
Stepped taken.Took ss b (Took rest c) = (ss ≡ rest) × (b ≡ c)
Stepped taken.Closed ss b (Closed c) = b ≡ c
Stepped _ ss b _ = ⊥

-- the way that was picked was opened, or does not fit
abbrev pub OpenedBy : Limits → ℕ → Building → List Symbol → List Symbol → Word → Opened → Option Way → Type 0
OpenedBy lim d b old new n opened.Open (Some w) = (fits Building builder lim w d b ≡ true) × (new ≡ deeper d w.symbols ++ old)
OpenedBy lim d b old new n opened.Past (Some w) = fits Building builder lim w d b ≡ false
OpenedBy lim d b old new n (opened.Other a) None = (a ≡ empty n) × (new ≡ old)
OpenedBy lim d b old new n _ _ = ⊥

-- how far a reading came, in the code and in the grammar
abbrev pub outcome_of : Reached → Outcome Building
outcome_of (reached.Done b) = Done b
outcome_of (reached.Stuck n) = Stuck n

-- the outcome of a reading behind i tokens
abbrev pub beyond : ℕ → Outcome Building → Outcome Building
beyond i (Done b) = Done b
beyond i (Stuck n) = Stuck (i + n)

abbrev pub read_on : Limits → List Symbol → Building → List Lexeme → Outcome Building
read_on lim ss b ts = run Building builder lim ss b ts
