-- Law 3: every schedule of reads that comes to rest ends as the one interpreter does, and before that follows it.
use Rattle.std.specs.Prelude.{List, [], ◌∷◌, ℕ, zero, ◌+◌, ◌≤◌, ◌≡◌, ⊤}
use Rattle.side_trees.specs.Sides.{Lang, TreeOf, Message, Event, Got, Begin, Pending, Over, OutOfFuel, Beyond, Broken, Half, Going, Failed, half, written, got, sent}
use Rattle.side_trees.specs.SharedRun.{Side, A, B, other, Two, Heap, Entry, Text, wrote, heard, begun, Course, Rests, Leaves, Dry, log_of, one}
use Rattle.side_trees.specs.Growing.{Extends}
use Rattle.side_trees.specs.Joining.{Sides, starts, waits, fails, MayBegin}

-- all that was written is read
abbrev pub Quiet : (L : Lang) → Half L → Half L → List (Event L) → List (Event L) → Type 0
Quiet L a b ra rb = (sent L (written L (half L b rb)) ≡ got L ra) × (sent L (written L (half L a ra)) ≡ got L rb)

abbrev pub HasFuel : (L : Lang) → Half L → Type 0
HasFuel L (Going p s u w) = ⊤
HasFuel L (Failed OutOfFuel s u w) = ⊥
HasFuel L (Failed (Beyond k) s u w) = ⊤
HasFuel L (Failed Broken s u w) = ⊤

-- What sides that started as a and b can have read and begun, with the texts begun: a side reads the oldest message that the other wrote and it has not read;
-- a text begins where all is read and both sides are idle after texts that go on.
pub data Reached (L : Lang) (a b : Half L) : List (Text L) → List (Event L) → List (Event L) → Type 0 where
  Begun : Reached L a b [] [] []
  A_reads : {xs : List (Text L)} {ra rb : List (Event L)} (m : Message L) → Reached L a b xs ra rb → Extends (sent L (written L (half L b rb))) (m ∷ got L ra) → Reached L a b xs (Got m ∷ ra) rb
  B_reads : {xs : List (Text L)} {ra rb : List (Event L)} (m : Message L) → Reached L a b xs ra rb → Extends (sent L (written L (half L a ra))) (m ∷ got L rb) → Reached L a b xs ra (Got m ∷ rb)
  A_begins : {xs : List (Text L)} {ra rb : List (Event L)} (t : TreeOf L) → Reached L a b xs ra rb → Quiet L a b ra rb → MayBegin L (half L a ra) → MayBegin L (half L b rb) → Reached L a b (record { side = A; tree = t } ∷ xs) (Begin t ∷ ra) rb
  B_begins : {xs : List (Text L)} {ra rb : List (Event L)} (t : TreeOf L) → Reached L a b xs ra rb → Quiet L a b ra rb → MayBegin L (half L a ra) → MayBegin L (half L b rb) → Reached L a b (record { side = B; tree = t } ∷ xs) ra (Begin t ∷ rb)

-- what was read and what was written are beginnings of what the log has
abbrev pub Follows : (L : Lang) → Half L → Half L → List (Entry L) → List (Event L) → List (Event L) → Type 0
Follows L a b talk ra rb =
    Extends (heard L A talk) ra × Extends (heard L B talk) rb
    × Extends (wrote L A talk) (written L (half L a ra)) × Extends (wrote L B talk) (written L (half L b rb))

abbrev pub All : (L : Lang) → List (Entry L) → List (Event L) → List (Event L) → Type 0
All L talk ra rb = (ra ≡ heard L A talk) × (rb ≡ heard L B talk)

-- The log's own order is a schedule that comes to rest; every schedule follows the log; and one at rest has read all of it and ends as ea and eb.
abbrev pub Schedules : (L : Lang) → List (Entry L) → Half L → Half L → Half L → Half L → Type 0
Schedules L talk a b ea eb =
    Reached L a b (begun L talk) (heard L A talk) (heard L B talk) × Quiet L a b (heard L A talk) (heard L B talk)
    × ((ra rb : List (Event L)) → Reached L a b (begun L talk) ra rb →
    Follows L a b talk ra rb × (Quiet L a b ra rb → All L talk ra rb × (half L a ra ≡ ea) × (half L b rb ≡ eb)))

-- with n units and d more at h, and m and d' more at the other side; and with exactly n at h
abbrev pub EndsAt : (L : Lang) → Sides L → List (Entry L) → Side → ℕ → ℕ → (ℕ → Half L) → (ℕ → Half L) → Type 0
EndsAt L start talk A n m e e' = (d d' : ℕ) → Schedules L talk (start A (n + d)) (start B (m + d')) (e d) (e' d')
EndsAt L start talk B n m e e' = (d d' : ℕ) → Schedules L talk (start A (m + d)) (start B (n + d')) (e' d) (e d')

abbrev pub RunsOutAt : (L : Lang) → Sides L → List (Entry L) → Side → ℕ → ℕ → Half L → (ℕ → Half L) → Type 0
RunsOutAt L start talk A n m e e' = (d : ℕ) → Schedules L talk (start A n) (start B (m + d)) e (e' d)
RunsOutAt L start talk B n m e e' = (d : ℕ) → Schedules L talk (start A (m + d)) (start B n) (e' d) e

-- with any units every schedule follows the log; where it rests and no side is out of fuel, all was read
abbrev pub AnyUnits : (L : Lang) → Sides L → List (Entry L) → Type 0
AnyUnits L start talk = (x y : ℕ) (ra rb : List (Event L)) → Reached L (start A x) (start B y) (begun L talk) ra rb →
    Follows L (start A x) (start B y) talk ra rb
    × (Quiet L (start A x) (start B y) ra rb → HasFuel L (half L (start A x) ra) → HasFuel L (half L (start B y) rb) → All L talk ra rb)

abbrev pub FewUnits : (L : Lang) → Sides L → List (Entry L) → Side → ℕ → Type 0
FewUnits L start talk A n = (x y : ℕ) → x ≤ n → (ra rb : List (Event L)) → Reached L (start A x) (start B y) (begun L talk) ra rb → Follows L (start A x) (start B y) talk ra rb
FewUnits L start talk B n = (x y : ℕ) → y ≤ n → (ra rb : List (Event L)) → Reached L (start A x) (start B y) (begun L talk) ra rb → Follows L (start A x) (start B y) talk ra rb

-- how every schedule of a course's texts ends: as the course does, the units spent by both and those left being f together
abbrev pub PairIsOne : (L : Lang) (H : Heap L) → Sides L → ℕ → Course L H → Type 0
PairIsOne L H start f (Rests outs w u talk) =
    (n : ℕ) × (m : ℕ) × (n + m + u ≡ f)
    × EndsAt L start talk A n m (waits L H (Over outs.of_a) A w talk) (waits L H (Over outs.of_b) B w talk)
    × AnyUnits L start talk
PairIsOne L H start f (Leaves k w u talk) =
    (h : Side) × (n : ℕ) × (m : ℕ) × (p : Pending L) × (n + m + u ≡ f)
    × EndsAt L start talk h n m (fails L H (Beyond k) h w talk) (waits L H p (other h) w talk)
    × AnyUnits L start talk
PairIsOne L H start f (Dry w talk) =
    (h : Side) × (n : ℕ) × (m : ℕ) × (p : Pending L) × (n + m ≡ f)
    × RunsOutAt L start talk h n m (fails L H OutOfFuel h w talk zero) (waits L H p (other h) w talk)
    × FewUnits L start talk h n

-- law 3, over any heap
abbrev pub OneIsPair : (L : Lang) → Heap L → Type 0
OneIsPair L H = (outs : Two L.A) (w : H.W) (f : ℕ) (texts : List (Text L)) → PairIsOne L H (starts L H outs w) f (one L H outs w f texts)

-- the texts that are begun are the first of those given, in their order
abbrev pub InTurn : (L : Lang) → Heap L → Type 0
InTurn L H = (outs : Two L.A) (w : H.W) (f : ℕ) (texts : List (Text L)) → Extends texts (begun L (log_of L H (one L H outs w f texts)))
