-- Tokens as the grammar sees them, and what is built of them. The relation, the reading and the laws hold for any builder.
use Rattle.std.specs.Prelude.{ℕ, Bool, true, List, Option, Some, None}
use Rattle.py_grammar.specs.declared.act.Act.{Act}
use Rattle.py_grammar.specs.declared.symbol.Guard.{Guard}
use Rattle.py_grammar.specs.declared.symbol.Limits.{Limits}
use Rattle.py_grammar.specs.declared.terminal.Terminal.{Terminal}

-- a token with the bytes of its text and its line
pub record Lexeme : Type 0 where
  pub kind : Terminal
  pub text : List ℕ
  pub line : ℕ

-- how a state B goes on with a token and with an act, and which guards hold of it
pub record Builder (B : Type 0) : Type 0 where
  pub take_in : Lexeme → B → B
  pub act : Act → B → B
  pub holds : Limits → Guard → B → Bool

abbrev pub passes : (B : Type 0) → Builder B → Limits → Option Guard → B → Bool
passes B m lim None b = true
passes B m lim (Some g) b = m.holds lim g b
