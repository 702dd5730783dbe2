-- What the table means, from the left, with the end of the text as a token.
use Rattle.std.specs.Prelude.{◌≡◌, ℕ, true, nat_le, List, [], ◌∷◌, ◌++◌, Some}
use Rattle.py_grammar.specs.declared.act.Act.{Act}
use Rattle.py_grammar.specs.declared.symbol.Limits.{Limits}
use Rattle.py_grammar.specs.declared.symbol.Symbol.{Symbol}
use Rattle.py_grammar.specs.declared.symbol.Symbol.TheVariants.{Terminal as Tk, Word as Nt, Act as Do}
use Rattle.py_grammar.specs.declared.terminal.Terminal.{Terminal}
use Rattle.py_grammar.specs.declared.terminal.Terminal.TheVariants as t
use Rattle.py_grammar.specs.declared.word.Word.{Word}
use Rattle.py_grammar.specs.Building.{Lexeme, Builder, passes}
use Rattle.py_grammar.specs.Table.{ways, empty}
use Rattle.py_grammar.specs.Ways.{Way}
use Rattle.py_grammar.specs.Writing.{Among, deeper}

-- Derives ss b ts out: where ss is still to come and b was built, the rest of the text may be ts, and then out is built.
pub data Derives (B : Type 0) (m : Builder B) (lim : Limits) : List Symbol → B → List Lexeme → B → Type 0 where
  Ends : {b out : B} {u : Lexeme} → u.kind ≡ t.End → b ≡ out → Derives B m lim [] b (u ∷ []) out
  Takes : {k : Terminal} {ss : List Symbol} {b out : B} {u : Lexeme} {ts : List Lexeme}
      → u.kind ≡ k → Derives B m lim ss (m.take_in u b) ts out → Derives B m lim (Tk k ∷ ss) b (u ∷ ts) out
  Makes : {a : Act} {ss : List Symbol} {b out : B} {ts : List Lexeme} → Derives B m lim ss (m.act a b) ts out → Derives B m lim (Do a ∷ ss) b ts out
  Skips : {n : Word} {d : ℕ} {ss : List Symbol} {b out : B} {ts : List Lexeme} (a : Act)
      → empty n ≡ Some a → Derives B m lim ss (m.act a b) ts out → Derives B m lim (Nt n d ∷ ss) b ts out
  Opens : {n : Word} {d : ℕ} {ss : List Symbol} {b out : B} {ts : List Lexeme} (w : Way)
      → Among w (ways n) → nat_le d lim.levels ≡ true → passes B m lim w.guard b ≡ true
      → Derives B m lim (deeper d w.symbols ++ ss) b ts out → Derives B m lim (Nt n d ∷ ss) b ts out

-- some text within the limits begins so
abbrev pub CanBegin : (B : Type 0) → Builder B → Limits → List Symbol → B → List Lexeme → Type 0
CanBegin B m lim ss b ts = (more : List Lexeme) × (out : B) × Derives B m lim ss b (ts ++ more) out
