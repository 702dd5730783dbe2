-- The command lines that the program takes.
use Rattle.std.specs.Prelude.{◌≡◌, ℕ, if◌then◌else◌, Result, Ok, Err, Option, Some, None, ◌+◌, ◌<◌, ◌≤◌, ◌==◌, nat_lt, not, Bool, false, IsTrue, List, [], ◌∷◌, ◌++◌, length, take, codes, decimal}
use Rattle.std.specs.Str.{bytes_eq}
use Rattle.std.specs.Str.Parse.{digits_value}
use Rattle.rpyc_cmd.specs.declared.words.Command.{Command}
use Rattle.rpyc_cmd.specs.declared.words.Command.TheVariants as command

-- a file's name is not empty and does not begin with `-`
abbrev pub is_file_name : List ℕ → Bool
is_file_name [] = false
is_file_name (c ∷ _) = not (c == 45)

-- `pair A B`
pub record IsPair (words : List (List ℕ)) (a b : List ℕ) : Type 0 where
  pub spelled : words ≡ codes "pair" ∷ a ∷ b ∷ []
  pub named_a : IsTrue (is_file_name a)
  pub named_b : IsTrue (is_file_name b)

-- `dump FILE`
pub record IsDump (words : List (List ℕ)) (file : List ℕ) : Type 0 where
  pub spelled : words ≡ codes "dump" ∷ file ∷ []
  pub named : IsTrue (is_file_name file)

-- the units that a run may spend where none are named, and the most that may be named
abbrev pub usual_fuel : ℕ
usual_fuel = 10000000

abbrev pub most_fuel : ℕ
most_fuel = 1000000000

-- a number of units as a word: in decimal, with no 0 in front unless it is 0
pub record IsFuel (word : List ℕ) (fuel : ℕ) : Type 0 where
  pub written : word ≡ decimal fuel
  pub within : fuel ≤ most_fuel

-- what stands behind the file of a run: nothing, or `--fuel N`
abbrev pub NamesFuel : List (List ℕ) → ℕ → Type 0
NamesFuel [] fuel = fuel ≡ usual_fuel
NamesFuel (flag ∷ word ∷ []) fuel = (flag ≡ codes "--fuel") × IsFuel word fuel
NamesFuel _ fuel = ⊥

-- `run A`, and maybe `--fuel N`
pub record IsRun (words : List (List ℕ)) (file : List ℕ) (fuel : ℕ) : Type 0 where
  pub options : List (List ℕ)
  pub spelled : words ≡ codes "run" ∷ file ∷ options
  pub named : IsTrue (is_file_name file)
  pub fuelled : NamesFuel options fuel

-- what a command line asks for
pub data Asked : Type 0 where
  PairOf : List ℕ → List ℕ → Asked
  DumpOf : List ℕ → Asked
  RunOf : List ℕ → ℕ → Asked

-- the words of a command line
abbrev pub Spells : List (List ℕ) → Asked → Type 0
Spells words (PairOf a b) = IsPair words a b
Spells words (DumpOf file) = IsDump words file
Spells words (RunOf file fuel) = IsRun words file fuel

-- some command line begins with these words
abbrev pub Begins : List (List ℕ) → Type 0
Begins front = (rest : List (List ℕ)) × (asked : Asked) × Spells (front ++ rest) asked

-- The words are refused at an index: the first word that cannot continue a command line, or the number of words where more
-- are needed.
pub record IsRefusedAt (words : List (List ℕ)) (at : ℕ) : Type 0 where
  pub within : at ≤ length words
  pub begins : Begins (take at words)
  pub stops : at < length words → Begins (take (at + 1) words) → ⊥
  pub lacks : (asked : Asked) → Spells words asked → ⊥

-- the same, word by word
abbrev pub no_more : Asked → ℕ → List (List ℕ) → Result Asked ℕ
no_more asked at [] = Ok asked
no_more asked at (_ ∷ _) = Err at

abbrev pub second_name : List ℕ → List (List ℕ) → Result Asked ℕ
second_name a [] = Err 2
second_name a (b ∷ words) = if is_file_name b then no_more (PairOf a b) 3 words else Err 2

abbrev pub file_names : List (List ℕ) → Result Asked ℕ
file_names [] = Err 1
file_names (a ∷ words) = if is_file_name a then second_name a words else Err 1

abbrev pub file_name : List (List ℕ) → Result Asked ℕ
file_name [] = Err 1
file_name (file ∷ words) = if is_file_name file then no_more (DumpOf file) 2 words else Err 1

abbrev pub fuel_within : List ℕ → ℕ → Option ℕ
fuel_within word fuel = if nat_lt most_fuel fuel then None else if bytes_eq (decimal fuel) word then Some fuel else None

abbrev pub fuel_of : List ℕ → Option ℕ
fuel_of word = fuel_within word (digits_value 10 word)

abbrev pub named_fuel : List ℕ → List (List ℕ) → Option ℕ → Result Asked ℕ
named_fuel file words None = Err 3
named_fuel file words (Some fuel) = no_more (RunOf file fuel) 4 words

abbrev pub run_fuel : List ℕ → List (List ℕ) → Result Asked ℕ
run_fuel file [] = Err 3
run_fuel file (word ∷ words) = named_fuel file words (fuel_of word)

abbrev pub run_options : List ℕ → List (List ℕ) → Result Asked ℕ
run_options file [] = Ok (RunOf file usual_fuel)
run_options file (flag ∷ words) = if bytes_eq flag (codes "--fuel") then run_fuel file words else Err 2

abbrev pub run_words : List (List ℕ) → Result Asked ℕ
run_words [] = Err 1
run_words (file ∷ words) = if is_file_name file then run_options file words else Err 1

abbrev pub other_command : List ℕ → List (List ℕ) → Result Asked ℕ
other_command word words = if bytes_eq word (codes "run") then run_words words else Err 0

abbrev pub command_of : List (List ℕ) → Result Asked ℕ
command_of [] = Err 0
command_of (word ∷ words) = if bytes_eq word (codes "pair") then file_names words else if bytes_eq word (codes "dump") then file_name words else other_command word words

-- what a command asks for
abbrev pub asked_by : Command → Asked
asked_by (command.Pair a b) = PairOf a.now b.now
asked_by (command.Dump file) = DumpOf file.now
asked_by (command.Run file fuel) = RunOf file.now fuel

-- what a reader of words answers is what is read
abbrev pub Reads : Result Command ℕ → Result Asked ℕ → Type 0
Reads (Ok c) read = read ≡ Ok (asked_by c)
Reads (Err at) read = read ≡ Err at
