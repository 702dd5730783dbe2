-- The reading of the table with one token in hand.
use Rattle.std.specs.Prelude.{ℕ, zero, suc, Bool, true, false, ◌&&◌, ◌||◌, nat_le, List, [], ◌∷◌, ◌++◌, Option, Some, None}
use Rattle.py_grammar.specs.declared.act.Act.{Act}
use Rattle.py_grammar.specs.declared.symbol.Limits.{Limits}
use Rattle.py_grammar.specs.declared.symbol.Symbol.{Symbol}
use Rattle.py_grammar.specs.declared.symbol.Symbol.TheVariants.{Terminal as Tk, Word as Nt, Act as Do}
use Rattle.py_grammar.specs.declared.terminal.Terminal.{Terminal}
use Rattle.py_grammar.specs.declared.terminal.Terminal.TheVariants as t
use Rattle.py_grammar.specs.declared.word.Word.{Word}
use Rattle.py_grammar.specs.Building.{Lexeme, Builder, passes}
use Rattle.py_grammar.specs.Sets.{first}
use Rattle.py_grammar.specs.Table.{ways, empty}
use Rattle.py_grammar.specs.Terminals.{same}
use Rattle.py_grammar.specs.Ways.{Way}
use Rattle.py_grammar.specs.Writing.{deeper}

abbrev pub has : Terminal → List Terminal → Bool
has k [] = false
has k (l ∷ ls) = same k l || has k ls

abbrev pub is_there : Option Act → Bool
is_there None = false
is_there (Some a) = true

abbrev pub nullable : Word → Bool
nullable n = is_there (empty n)

-- what the symbols write may begin with k, where behind tells whether k may stand behind them
abbrev pub begins : Bool → Terminal → List Symbol → Bool
begins behind k [] = behind
begins behind k (Tk l ∷ ss) = same k l
begins behind k (Do a ∷ ss) = begins behind k ss
begins behind k (Nt n d ∷ ss) = has k (first n) || (nullable n && begins behind k ss)

abbrev pub chosen : Bool → Way → Option Way → Option Way
chosen true w later = Some w
chosen false w later = later

-- the first way that may begin with k
abbrev pub pick : List Way → Terminal → Option Way
pick [] k = None
pick (w ∷ ws) k = chosen (begins false k w.symbols) w (pick ws k)

-- every word among the symbols is within the limit or may be empty, so they can be completed
abbrev pub in_reach : Limits → List Symbol → Bool
in_reach lim [] = true
in_reach lim (Tk k ∷ ss) = in_reach lim ss
in_reach lim (Do a ∷ ss) = in_reach lim ss
in_reach lim (Nt n d ∷ ss) = (nat_le d lim.levels || nullable n) && in_reach lim ss

abbrev pub fits : (B : Type 0) → Builder B → Limits → Way → ℕ → B → Bool
fits B m lim w d b = nat_le d lim.levels && (passes B m lim w.guard b && in_reach lim (deeper d w.symbols))

-- a token is refused, is taken, or is the end
pub data Step (B : Type 0) : Type 0 where
  Refused : Step B
  Took : List Symbol → B → Step B
  Closed : B → Step B

abbrev pub when : (B : Type 0) → Bool → Step B → Step B
when B true s = s
when B false s = Refused

abbrev pub opening_by : (B : Type 0) → Option Way → (Way → Step B) → Step B → Step B
opening_by B (Some w) open_way other = open_way w
opening_by B None open_way other = other

abbrev pub skipping : (B : Type 0) → Option Act → (Act → Step B) → Step B
skipping B (Some a) skip = skip a
skipping B None skip = Refused

-- How the stack ss takes the token u: at most so many words open before it is taken.
abbrev pub step : (B : Type 0) → Builder B → Limits → ℕ → List Symbol → B → Lexeme → Step B
step B m lim f [] b u = when B (same u.kind t.End) (Closed b)
step B m lim f (Tk k ∷ ss) b u = when B (same u.kind k) (Took ss (m.take_in u b))
step B m lim f (Do a ∷ ss) b u = step B m lim f ss (m.act a b) u
step B m lim zero (Nt n d ∷ ss) b u = Refused
step B m lim (suc f) (Nt n d ∷ ss) b u =
    opening_by B (pick (ways n) u.kind) (λ w. when B (fits B m lim w d b) (step B m lim f (deeper d w.symbols ++ ss) b u))
    (skipping B (empty n) (λ a. step B m lim (suc f) ss (m.act a b) u))

-- more than any rank
abbrev pub depth_of_words : ℕ
depth_of_words = 64

-- Stuck n: the first n tokens fit, and the next does not.
pub data Outcome (B : Type 0) : Type 0 where
  Done : B → Outcome B
  Stuck : ℕ → Outcome B

abbrev pub one_further : (B : Type 0) → Outcome B → Outcome B
one_further B (Done b) = Done b
one_further B (Stuck n) = Stuck (suc n)

abbrev pub closed : (B : Type 0) → B → List Lexeme → Outcome B
closed B b [] = Done b
closed B b (u ∷ us) = Stuck 1

abbrev pub go_on : (B : Type 0) → (List Symbol → B → Outcome B) → Step B → List Lexeme → Outcome B
go_on B further Refused us = Stuck 0
go_on B further (Took ss b) us = one_further B (further ss b)
go_on B further (Closed b) us = closed B b us

-- the reading of tokens from a stack
abbrev pub run : (B : Type 0) → Builder B → Limits → List Symbol → B → List Lexeme → Outcome B
run B m lim ss b [] = Stuck 0
run B m lim ss b (u ∷ us) = go_on B (λ rest c. run B m lim rest c us) (step B m lim depth_of_words ss b u) us
