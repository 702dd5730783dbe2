-- A way in which a word is written.
use Rattle.std.specs.Prelude.{List, Option, Some, None}
use Rattle.py_grammar.specs.declared.symbol.Guard.{Guard}
use Rattle.py_grammar.specs.declared.symbol.Symbol.{Symbol}

-- It can be taken where its guard holds of what was built so far.
pub record Way : Type 0 where
  pub guard : Option Guard
  pub symbols : List Symbol

abbrev pub way : List Symbol → Way
way ss = record { guard = None; symbols = ss }

abbrev pub guarded : Guard → List Symbol → Way
guarded g ss = record { guard = Some g; symbols = ss }
