-- Law 3 for two sides that draw their units from one number.
use Rattle.std.specs.Prelude.{List, [], ◌∷◌, ℕ, zero, ◌≡◌}
use Rattle.side_trees.specs.Sides.{Lang, TreeOf, Message, Event, Got, Begin, Pending, Over, OutOfFuel, Beyond, Half, Going, Failed, react, written, units, got, sent}
use Rattle.side_trees.specs.SharedRun.{Side, A, B, other, Two, Heap, Text, wrote, heard, begun, Course, Rests, Leaves, Dry, log_of, one}
use Rattle.side_trees.specs.Growing.{Extends}
use Rattle.side_trees.specs.Joining.{starts, waits, fails, pick, MayBegin}

-- the side with u units left
abbrev pub with_units : (L : Lang) → ℕ → Half L → Half L
with_units L u (Going p s v w) = Going p s u w
with_units L u (Failed x s v w) = Failed x s u w

-- a side at its next event, with all the units that are left
abbrev pub drawing : (L : Lang) → ℕ → Half L → Event L → Half L
drawing L u x e = react L (with_units L u x) e

-- all that was written is read
abbrev pub AllRead : (L : Lang) → Half L → Half L → List (Event L) → List (Event L) → Type 0
AllRead L x y ra rb = (sent L (written L y) ≡ got L ra) × (sent L (written L x) ≡ got L rb)

-- What two sides can have read and begun with u units left of those that they share, and where they are then: a side at its next event draws what it needs.
-- It reads the oldest message that the other wrote and it has not read; a text begins where all is read and both are idle after texts that go on.
pub data Drawn (L : Lang) (a b : Half L) (f : ℕ) : List (Text L) → List (Event L) → List (Event L) → Half L → Half L → ℕ → Type 0 where
  Opened : Drawn L a b f [] [] [] a b f
  A_takes : {xs : List (Text L)} {ra rb : List (Event L)} {x y : Half L} {u : ℕ} (m : Message L) → Drawn L a b f xs ra rb x y u → Extends (sent L (written L y)) (m ∷ got L ra)
      → Drawn L a b f xs (Got m ∷ ra) rb (drawing L u x (Got m)) y (units L (drawing L u x (Got m)))
  B_takes : {xs : List (Text L)} {ra rb : List (Event L)} {x y : Half L} {u : ℕ} (m : Message L) → Drawn L a b f xs ra rb x y u → Extends (sent L (written L x)) (m ∷ got L rb)
      → Drawn L a b f xs ra (Got m ∷ rb) x (drawing L u y (Got m)) (units L (drawing L u y (Got m)))
  A_starts : {xs : List (Text L)} {ra rb : List (Event L)} {x y : Half L} {u : ℕ} (t : TreeOf L) → Drawn L a b f xs ra rb x y u → AllRead L x y ra rb → MayBegin L x → MayBegin L y
      → Drawn L a b f (record { side = A; tree = t } ∷ xs) (Begin t ∷ ra) rb (drawing L u x (Begin t)) y (units L (drawing L u x (Begin t)))
  B_starts : {xs : List (Text L)} {ra rb : List (Event L)} {x y : Half L} {u : ℕ} (t : TreeOf L) → Drawn L a b f xs ra rb x y u → AllRead L x y ra rb → MayBegin L x → MayBegin L y
      → Drawn L a b f (record { side = B; tree = t } ∷ xs) ra (Begin t ∷ rb) x (drawing L u y (Begin t)) (units L (drawing L u y (Begin t)))

-- both sides and the units left are those with which the course ends
abbrev pub EndsWith : (L : Lang) (H : Heap L) → Course L H → Half L → Half L → ℕ → Type 0
EndsWith L H (Rests outs w v talk) x y u =
    (u ≡ v) × (with_units L v x ≡ waits L H (Over outs.of_a) A w talk v) × (with_units L v y ≡ waits L H (Over outs.of_b) B w talk v)
EndsWith L H (Leaves k w v talk) x y u =
    (h : Side) × (p : Pending L) × (u ≡ v) × (with_units L v (pick L x y h) ≡ fails L H (Beyond k) h w talk v) × (with_units L v (pick L x y (other h)) ≡ waits L H p (other h) w talk v)
EndsWith L H (Dry w talk) x y u =
    (h : Side) × (p : Pending L) × (u ≡ zero) × (with_units L zero (pick L x y h) ≡ fails L H OutOfFuel h w talk zero) × (with_units L zero (pick L x y (other h)) ≡ waits L H p (other h) w talk zero)

-- What two sides do with f units that they share is what the one interpreter does with f units: it begins the same texts;
-- what was read and what was written are beginnings of what its log has; and where all is read, both sides and the units left are those with which it ends.
pub record Shares (L : Lang) (H : Heap L) (course : Course L H) (xs : List (Text L)) (ra rb : List (Event L)) (x y : Half L) (u : ℕ) : Type 0 where
  pub texts : begun L (log_of L H course) ≡ xs
  pub a_reads : Extends (heard L A (log_of L H course)) ra
  pub b_reads : Extends (heard L B (log_of L H course)) rb
  pub a_writes : Extends (wrote L A (log_of L H course)) (written L x)
  pub b_writes : Extends (wrote L B (log_of L H course)) (written L y)
  pub ends : AllRead L x y ra rb → (ra ≡ heard L A (log_of L H course)) × (rb ≡ heard L B (log_of L H course)) × EndsWith L H course x y u

abbrev pub PairEndsAsOne : (L : Lang) → Heap L → Type 0
PairEndsAsOne L H = (outs : Two L.A) (w : H.W) (f : ℕ) (xs : List (Text L)) (ra rb : List (Event L)) (x y : Half L) (u : ℕ)
    → Drawn L (starts L H outs w A f) (starts L H outs w B f) f xs ra rb x y u → Shares L H (one L H outs w f xs) xs ra rb x y u

-- A pair can be carried on, with no text more, until all is read.
abbrev pub PairRests : (L : Lang) → Heap L → Type 0
PairRests L H = (outs : Two L.A) (w : H.W) (f : ℕ) (xs : List (Text L)) (ra rb : List (Event L)) (x y : Half L) (u : ℕ)
    → Drawn L (starts L H outs w A f) (starts L H outs w B f) f xs ra rb x y u
    → (qa : List (Event L)) × (qb : List (Event L)) × (v : Half L) × (z : Half L) × (k : ℕ)
    × Extends qa ra × Extends qb rb × Drawn L (starts L H outs w A f) (starts L H outs w B f) f xs qa qb v z k × AllRead L v z qa qb

-- And for each course there is a pair that begins its texts and comes to rest.
abbrev pub PairComes : (L : Lang) → Heap L → Type 0
PairComes L H = (outs : Two L.A) (w : H.W) (f : ℕ) (texts : List (Text L))
    → (ra : List (Event L)) × (rb : List (Event L)) × (x : Half L) × (y : Half L) × (u : ℕ)
    × Drawn L (starts L H outs w A f) (starts L H outs w B f) f (begun L (log_of L H (one L H outs w f texts))) ra rb x y u × AllRead L x y ra rb
