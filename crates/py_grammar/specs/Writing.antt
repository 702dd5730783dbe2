-- What the table means, by pieces: the tokens that are written where a list of symbols stands, and what is built of them.
use Rattle.std.specs.Prelude.{◌≡◌, ◌⊎◌, ℕ, zero, suc, true, nat_le, List, [], ◌∷◌, ◌++◌, Some}
use Rattle.py_grammar.specs.declared.act.Act.{Act}
use Rattle.py_grammar.specs.declared.symbol.Limits.{Limits}
use Rattle.py_grammar.specs.declared.symbol.Symbol.{Symbol}
use Rattle.py_grammar.specs.declared.symbol.Symbol.TheVariants.{Terminal as Tk, Word as Nt, Act as Do}
use Rattle.py_grammar.specs.declared.terminal.Terminal.{Terminal}
use Rattle.py_grammar.specs.declared.word.Word.{Word}
use Rattle.py_grammar.specs.Building.{Lexeme, Builder, passes}
use Rattle.py_grammar.specs.Table.{ways, empty}
use Rattle.py_grammar.specs.Ways.{Way}

abbrev pub Among : Way → List Way → Type 0
Among w [] = ⊥
Among w (v ∷ vs) = (w ≡ v) ⊎ Among w vs

-- e levels further in than level d
abbrev pub inward : ℕ → ℕ → ℕ
inward zero d = d
inward (suc e) d = suc (inward e d)

-- the symbols of a way that is taken at level d
abbrev pub deeper : ℕ → List Symbol → List Symbol
deeper d [] = []
deeper d (Tk k ∷ ss) = Tk k ∷ deeper d ss
deeper d (Nt n e ∷ ss) = Nt n (inward e d) ∷ deeper d ss
deeper d (Do a ∷ ss) = Do a ∷ deeper d ss

-- Writes ss b ts out: where ss stands and b was built, ts can be written, and then out is built.
pub data Writes (B : Type 0) (m : Builder B) (lim : Limits) : List Symbol → B → List Lexeme → B → Type 0 where
  NoMore : {b out : B} → b ≡ out → Writes B m lim [] b [] out
  OneToken : {k : Terminal} {ss : List Symbol} {b out : B} {t : Lexeme} {ts : List Lexeme}
      → t.kind ≡ k → Writes B m lim ss (m.take_in t b) ts out → Writes B m lim (Tk k ∷ ss) b (t ∷ ts) out
  Building : {a : Act} {ss : List Symbol} {b out : B} {ts : List Lexeme} → Writes B m lim ss (m.act a b) ts out → Writes B m lim (Do a ∷ ss) b ts out
  Absent : {n : Word} {d : ℕ} {ss : List Symbol} {b out : B} {ts : List Lexeme} (a : Act)
      → empty n ≡ Some a → Writes B m lim ss (m.act a b) ts out → Writes B m lim (Nt n d ∷ ss) b ts out
  Written : {n : Word} {d : ℕ} {ss : List Symbol} {b out : B} {ts : List Lexeme} (w : Way) (left right : List Lexeme) (middle : B)
      → Among w (ways n) → nat_le d lim.levels ≡ true → passes B m lim w.guard b ≡ true → ts ≡ left ++ right
      → Writes B m lim (deeper d w.symbols) b left middle → Writes B m lim ss middle right out → Writes B m lim (Nt n d ∷ ss) b ts out
