-- The code's table of spellings as the definition's.
use Rattle.std.specs.Prelude.{ℕ, List, map}
use Rattle.py_grammar.specs.declared.terminal.Terminal.{Terminal}
use Rattle.py_parser.specs.declared.terminals.Spelling.{Spelling}

abbrev pub spellings_of : List Spelling → List (List ℕ × Terminal)
spellings_of spellings = map (λ s. (s.text.now, s.terminal)) spellings
