-- Every conversation comes to rest, whatever is read first.
use Rattle.std.specs.Prelude.{List, length, ℕ, ◌+◌, ◌*◌, ◌≤◌}
use Rattle.side_trees.specs.Sides.{Lang, Event, Half, idling}
use Rattle.side_trees.specs.SharedRun.{Text}
use Rattle.side_trees.specs.Growing.{Extends}
use Rattle.side_trees.specs.Schedules.{Quiet, Reached}

-- a schedule can be carried on, with no text more, until all that was written is read
abbrev pub CarriedOn : (L : Lang) → Half L → Half L → List (Text L) → List (Event L) → List (Event L) → Type 0
CarriedOn L a b xs ra rb =
    (qa : List (Event L)) × (qb : List (Event L)) × Extends qa ra × Extends qb rb × Reached L a b xs qa qb × Quiet L a b qa qb

-- ends: two sides read and begin no more than their units and texts allow, at most two messages for a unit, two for a text, and the text.
-- rests: every schedule can be carried on until it rests.
pub record Resting (L : Lang) : Type 0 where
  pub ends : (a b : L.A) (s v : L.S) (x y : ℕ) (xs : List (Text L)) (ra rb : List (Event L)) → Reached L (idling L a s x) (idling L b v y) xs ra rb
      → length ra + length rb ≤ 2 * (x + y) + 3 * length xs
  pub rests : (a b : L.A) (s v : L.S) (x y : ℕ) (xs : List (Text L)) (ra rb : List (Event L)) → Reached L (idling L a s x) (idling L b v y) xs ra rb
      → CarriedOn L (idling L a s x) (idling L b v y) xs ra rb
