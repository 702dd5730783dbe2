-- Tokens one after another.
use Rattle.std.specs.Prelude.{ℕ, ◌≤◌, List, [], ◌∷◌}
use Rattle.py_lexer.specs.declared.token.Token.{Token}

-- the slices stand in order between two places of the text, and none over another
abbrev pub InOrder : ℕ → List Token → ℕ → Type 0
InOrder from [] to = from ≤ to
InOrder from (t ∷ ts) to = (from ≤ t.start) × (t.start ≤ t.stop) × InOrder t.stop ts to
