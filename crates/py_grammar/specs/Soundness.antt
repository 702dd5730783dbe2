-- The test that the table can be read with one token in hand. It is computed for each word.
use Rattle.std.specs.Prelude.{ℕ, Bool, true, false, not, ◌&&◌, ◌||◌, nat_lt, nat_eq, List, [], ◌∷◌, ◌++◌, Option, Some, None}
use Rattle.py_grammar.specs.declared.symbol.Guard.{Guard}
use Rattle.py_grammar.specs.declared.symbol.Symbol.{Symbol}
use Rattle.py_grammar.specs.declared.symbol.Symbol.TheVariants.{Terminal as Tk, Word as Nt, Act as Do}
use Rattle.py_grammar.specs.declared.terminal.Terminal.{Terminal}
use Rattle.py_grammar.specs.declared.terminal.Terminal.TheVariants as t
use Rattle.py_grammar.specs.declared.word.Word.{Word}
use Rattle.py_grammar.specs.Reading.{has, nullable, depth_of_words}
use Rattle.py_grammar.specs.Sets.{first, follow, rank}
use Rattle.py_grammar.specs.Table.{ways}
use Rattle.py_grammar.specs.Terminals.{same}
use Rattle.py_grammar.specs.Ways.{Way}

abbrev pub before : Bool → List Terminal → List Terminal
before true ks = ks
before false ks = []

-- the tokens that symbols begin with, where these may stand behind them
abbrev pub fronts : List Terminal → List Symbol → List Terminal
fronts behind [] = behind
fronts behind (Tk k ∷ ss) = k ∷ []
fronts behind (Do a ∷ ss) = fronts behind ss
fronts behind (Nt n d ∷ ss) = first n ++ before (nullable n) (fronts behind ss)

abbrev pub within : List Terminal → List Terminal → Bool
within [] ls = true
within (k ∷ ks) ls = has k ls && within ks ls

abbrev pub apart : List Terminal → List Terminal → Bool
apart [] ls = true
apart (k ∷ ks) ls = not (has k ls) && apart ks ls

-- the symbols begin with a token, or with words of smaller rank, not all of which may be empty
abbrev pub leads : ℕ → List Symbol → Bool
leads r [] = false
leads r (Tk k ∷ ss) = true
leads r (Do a ∷ ss) = leads r ss
leads r (Nt n d ∷ ss) = nat_lt (rank n) r && (not (nullable n) || leads r ss)

-- what may stand behind each word is in its set, and the end of the text stands in no way
abbrev pub placed : List Terminal → List Symbol → Bool
placed behind [] = true
placed behind (Tk k ∷ ss) = not (same k t.End) && placed behind ss
placed behind (Do a ∷ ss) = placed behind ss
placed behind (Nt n d ∷ ss) = within (fronts behind ss) (follow n) && placed behind ss

abbrev pub sound_way : Word → Way → Bool
sound_way n w = leads (rank n) w.symbols && (within (fronts [] w.symbols) (first n) && placed (follow n) w.symbols)

abbrev pub all_fronts : List Way → List Terminal
all_fronts [] = []
all_fronts (w ∷ ws) = fronts [] w.symbols ++ all_fronts ws

-- each way is sound, and begins with other tokens than those behind it
abbrev pub sound_ways : Word → List Way → Bool
sound_ways n [] = true
sound_ways n (w ∷ ws) = sound_way n w && (apart (fronts [] w.symbols) (all_fronts ws) && sound_ways n ws)

-- only tokens, acts, words that may be empty, and words of smaller rank at the same level
abbrev pub brief : ℕ → List Symbol → Bool
brief r [] = true
brief r (Tk k ∷ ss) = brief r ss
brief r (Do a ∷ ss) = brief r ss
brief r (Nt n d ∷ ss) = (nullable n || (nat_lt (rank n) r && nat_eq d 0)) && brief r ss

abbrev pub free : Option Guard → Bool
free None = true
free (Some g) = false

-- the first way is brief, and has no guard
abbrev pub short : ℕ → List Way → Bool
short r [] = false
short r (w ∷ ws) = free w.guard && brief r w.symbols

abbrev pub sound : Word → Bool
sound n = (sound_ways n (ways n) && nat_lt (rank n) depth_of_words) && ((not (nullable n) || apart (first n) (follow n)) && (nullable n || short (rank n) (ways n)))
