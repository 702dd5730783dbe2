-- The builder that only writes down what happens, the latest first. Any test may stand for its guards.
use Rattle.std.specs.Prelude.{Bool, List, ◌∷◌}
use Rattle.py_grammar.specs.declared.act.Act.{Act}
use Rattle.py_grammar.specs.declared.symbol.Guard.{Guard}
use Rattle.py_grammar.specs.declared.symbol.Limits.{Limits}
use Rattle.py_grammar.specs.Building.{Lexeme, Builder}

pub data Event : Type 0 where
  TakesIn : Lexeme → Event
  Does : Act → Event

abbrev pub Tests : Type 0
Tests = Limits → Guard → List Event → Bool

abbrev pub tracing : Tests → Builder (List Event)
tracing tests = record { take_in = λ u es. TakesIn u ∷ es; act = λ a es. Does a ∷ es; holds = tests }
