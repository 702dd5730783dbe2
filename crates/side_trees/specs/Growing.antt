-- Law 1: a side is a function of what it reads and begins, and it grows with them.
use Rattle.std.specs.Prelude.{List, ◌++◌, ℕ, zero, ◌+◌, ◌<◌, ◌≤◌, ◌≡◌}
use Rattle.side_trees.specs.Sides.{Lang, Item, Event, Pending, OutOfFuel, Beyond, Broken, Half, Going, Failed, half, written, units, shown, sent}

-- new is old with more put before it, so old is how new began
abbrev pub Extends : {M : Type 0} → List M → List M → Type 0
Extends {M} new old = (more : List M) × (new ≡ more ++ old)

-- What d more units change over the same events: the units left, unless the side was out of fuel.
-- Then its record is the beginning of the other's; and where d is not zero, the other spent more units, having fewer than d left.
abbrev pub WithMore : (L : Lang) → ℕ → Half L → Half L → Type 0
WithMore L d (Going p s u w) y = y ≡ Going p s (u + d) w
WithMore L d (Failed OutOfFuel s u w) y = Extends (written L y) w × (0 < d → units L y < d)
WithMore L d (Failed (Beyond k) s u w) y = y ≡ Failed (Beyond k) s (u + d) w
WithMore L d (Failed Broken s u w) y = y ≡ Failed Broken s (u + d) w

-- What d more units and more events change: the record grows and the units spent do not fall, and after a failure that is not of fuel nothing changes.
-- A side out of fuel has no unit left.
abbrev pub Later : (L : Lang) → ℕ → Half L → Half L → Type 0
Later L d (Going p s u w) y = Extends (written L y) w × (units L y ≤ u + d)
Later L d (Failed OutOfFuel s u w) y = (u ≡ zero) × Extends (written L y) w × (units L y ≤ d) × (0 < d → units L y < d)
Later L d (Failed (Beyond k) s u w) y = y ≡ Failed (Beyond k) s (u + d) w
Later L d (Failed Broken s u w) y = y ≡ Failed Broken s (u + d) w

-- in_turn: what came before counts by the side that it left. writes_on, prints_on, sends_on, spends_on: record, output, messages and units spent only grow.
-- more_units: with d more units over the same events. grows: with d more units over more events.
pub record Growth (L : Lang) : Type 0 where
  pub in_turn : (start : Half L) (new old : List (Event L)) → half L start (new ++ old) ≡ half L (half L start old) new
  pub writes_on : (start : Half L) (new old : List (Event L)) → Extends (written L (half L start (new ++ old))) (written L (half L start old))
  pub prints_on : (start : Half L) (new old : List (Event L)) → Extends (shown L (written L (half L start (new ++ old)))) (shown L (written L (half L start old)))
  pub sends_on : (start : Half L) (new old : List (Event L)) → Extends (sent L (written L (half L start (new ++ old)))) (sent L (written L (half L start old)))
  pub spends_on : (start : Half L) (new old : List (Event L)) → units L (half L start (new ++ old)) ≤ units L (half L start old)
  pub more_units : (p : Pending L) (s : L.S) (u d : ℕ) (w : List (Item L)) (es : List (Event L)) → WithMore L d (half L (Going p s u w) es) (half L (Going p s (u + d) w) es)
  pub grows : (p : Pending L) (s : L.S) (u d : ℕ) (w : List (Item L)) (new old : List (Event L)) → Later L d (half L (Going p s u w) old) (half L (Going p s (u + d) w) (new ++ old))
