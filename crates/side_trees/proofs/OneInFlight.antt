-- At most one message is under way, and a side that runs out of fuel sends none.
use Rattle.std.proofs.Common.{◌≡◌, List, [], ◌∷◌, ℕ, zero, suc, ◌+◌, ◌≤◌, refl, ap, ◌∙◌, arith}
use Rattle.std.specs.Prelude.{length}
use Rattle.side_trees.specs.Trees.{Return, Act, Tell, Stop, Spend, Do, Ask, bind}
use Rattle.side_trees.specs.Sides.{Lang, TreeOf, Message, Request, Reply, Item, Shows, Event, Got, Begin, Over, Await, Task, Texting, Serving, Half, Going, Failed, go, react, half, written, got, sent}
use Rattle.side_trees.specs.SharedRun.{Text}
use Rattle.side_trees.specs.Growing.{Extends}
use Rattle.side_trees.specs.Schedules.{Quiet, Reached, Begun, A_reads, B_reads, A_begins, B_begins}
use Rattle.side_trees.proofs.OlderEnds.{extends-length, extends-equal}
use Rattle.side_trees.proofs.RestLaw.{Written, read-was-written}
use Rattle.side_trees.proofs.DrawnUnits.{IsDry}

same-count : (n : ℕ) → n ≤ suc n
same-count n = omega arith

one-count : (n : ℕ) → suc n ≤ suc n
one-count n = omega arith

-- an event sends one message at most
go-sends : (L : Lang) (task : Task L) (u : ℕ) (t : TreeOf L) (s : L.S) (w : List (Item L)) → length (sent L (written L (go L task u t s w))) ≤ suc (length (sent L w))
go-sends L Texting u (Return a) s w = same-count (length (sent L w))
go-sends L (Serving p) u (Return a) s w = one-count (length (sent L w))
go-sends L task u (Act g f) s w = go-sends L task u (f s) (g s) w
go-sends L task u (Tell o t) s w = go-sends L task u t s (Shows o ∷ w)
go-sends L task u (Stop x) s w = same-count (length (sent L w))
go-sends L task zero (Spend c k) s w = same-count (length (sent L w))
go-sends L task (suc u) (Spend c k) s w = go-sends L task u (bind (L.expand c) k) s w
go-sends L task zero (Do o c k) s w = same-count (length (sent L w))
go-sends L task (suc u) (Do o c k) s w = go-sends L task u (bind (L.expand o) (λ a. bind (L.expand (c a)) k)) s w
go-sends L task u (Ask q c k) s w = one-count (length (sent L w))

react-sends : (L : Lang) (x : Half L) (e : Event L) → length (sent L (written L (react L x e))) ≤ suc (length (sent L (written L x)))
react-sends L (Going p s u w) (Got (Request r)) = go-sends L (Serving p) u (Spend (L.read_q r) (λ a. Return a)) s w
react-sends L (Going (Over a) s u w) (Got (Reply m)) = same-count (length (sent L w))
react-sends L (Going (Await task k) s u w) (Got (Reply m)) = go-sends L task u (k (L.read_a s m)) s w
react-sends L (Going (Over a) s u w) (Begin t) = go-sends L Texting u t s w
react-sends L (Going (Await task k) s u w) (Begin t) = same-count (length (sent L w))
react-sends L (Failed x s u w) e = same-count (length (sent L w))

-- and none where the side runs out of fuel
go-dry : (L : Lang) (task : Task L) (u : ℕ) (t : TreeOf L) (s : L.S) (w : List (Item L)) → IsDry L (go L task u t s w) → sent L (written L (go L task u t s w)) ≡ sent L w
go-dry L Texting u (Return a) s w h = absurd h
go-dry L (Serving p) u (Return a) s w h = absurd h
go-dry L task u (Act g f) s w h = go-dry L task u (f s) (g s) w h
go-dry L task u (Tell o t) s w h = go-dry L task u t s (Shows o ∷ w) h
go-dry L task u (Stop x) s w h = absurd h
go-dry L task zero (Spend c k) s w h = refl
go-dry L task (suc u) (Spend c k) s w h = go-dry L task u (bind (L.expand c) k) s w h
go-dry L task zero (Do o c k) s w h = refl
go-dry L task (suc u) (Do o c k) s w h = go-dry L task u (bind (L.expand o) (λ a. bind (L.expand (c a)) k)) s w h
go-dry L task u (Ask q c k) s w h = absurd h

react-dry : (L : Lang) (x : Half L) (e : Event L) → IsDry L (react L x e) → sent L (written L (react L x e)) ≡ sent L (written L x)
react-dry L (Going p s u w) (Got (Request r)) h = go-dry L (Serving p) u (Spend (L.read_q r) (λ a. Return a)) s w h
react-dry L (Going (Over a) s u w) (Got (Reply m)) h = absurd h
react-dry L (Going (Await task k) s u w) (Got (Reply m)) h = go-dry L task u (k (L.read_a s m)) s w h
react-dry L (Going (Over a) s u w) (Begin t) h = go-dry L Texting u t s w h
react-dry L (Going (Await task k) s u w) (Begin t) h = absurd h
react-dry L (Failed x s u w) e h = refl

-- what was sent is what was read, and one message at most
none-sent : (n m : ℕ) → n ≡ zero → m ≡ zero → n + m ≤ suc (zero + zero)
none-sent n m e f = omega arith

after-read-a : (sb sa sn ga gb : ℕ) → sb + sa ≤ suc (ga + gb) → sn ≤ suc sa → sb + sn ≤ suc (suc ga + gb)
after-read-a sb sa sn ga gb h i = omega arith

after-read-b : (sb sa sn ga gb : ℕ) → sb + sa ≤ suc (ga + gb) → sn ≤ suc sb → sn + sa ≤ suc (ga + suc gb)
after-read-b sb sa sn ga gb h i = omega arith

after-begin-a : (sb sa sn ga gb : ℕ) → sb ≡ ga → sa ≡ gb → sn ≤ suc sa → sb + sn ≤ suc (ga + gb)
after-begin-a sb sa sn ga gb e f i = omega arith

after-begin-b : (sb sa sn ga gb : ℕ) → sb ≡ ga → sa ≡ gb → sn ≤ suc sb → sn + sa ≤ suc (ga + gb)
after-begin-b sb sa sn ga gb e f i = omega arith

abbrev count : (L : Lang) → Half L → List (Event L) → ℕ
count L x r = length (sent L (written L (half L x r)))

one-in-flight : (L : Lang) (a b : Half L) → written L a ≡ [] → written L b ≡ [] → {xs : List (Text L)} {ra rb : List (Event L)} → Reached L a b xs ra rb
    → count L b rb + count L a ra ≤ suc (length (got L ra) + length (got L rb))
one-in-flight L a b e f Begun = none-sent (length (sent L (written L b))) (length (sent L (written L a))) (ap (λ w. length (sent L w)) f) (ap (λ w. length (sent L w)) e)
one-in-flight L a b e f (A_reads {ra = ra} {rb = rb} m r h) =
    after-read-a (count L b rb) (count L a ra) (count L a (Got m ∷ ra)) (length (got L ra)) (length (got L rb)) (one-in-flight L a b e f r) (react-sends L (half L a ra) (Got m))
one-in-flight L a b e f (B_reads {ra = ra} {rb = rb} m r h) =
    after-read-b (count L b rb) (count L a ra) (count L b (Got m ∷ rb)) (length (got L ra)) (length (got L rb)) (one-in-flight L a b e f r) (react-sends L (half L b rb) (Got m))
one-in-flight L a b e f (A_begins {ra = ra} {rb = rb} t r (p, q) i j) =
    after-begin-a (count L b rb) (count L a ra) (count L a (Begin t ∷ ra)) (length (got L ra)) (length (got L rb)) (ap length p) (ap length q) (react-sends L (half L a ra) (Begin t))
one-in-flight L a b e f (B_begins {ra = ra} {rb = rb} t r (p, q) i j) =
    after-begin-b (count L b rb) (count L a ra) (count L b (Begin t ∷ rb)) (length (got L ra)) (length (got L rb)) (ap length p) (ap length q) (react-sends L (half L b rb) (Begin t))

-- so where a side runs out of fuel nothing is unread
read-out : (s t g k : ℕ) → s + t ≤ suc (g + k) → k ≤ t → s ≤ suc g
read-out s t g k h i = omega arith

answered : (s t g k : ℕ) → s + t ≤ suc (g + k) → suc g ≤ s → t ≤ k
answered s t g k h i = omega arith

turned : (s t g k : ℕ) → s + t ≤ suc (g + k) → t + s ≤ suc (k + g)
turned s t g k h = omega arith

pub quiet-when-dry-a : (L : Lang) (a b : Half L) {xs : List (Text L)} {ra rb : List (Event L)} (m : Message L) → written L a ≡ [] → written L b ≡ [] → Reached L a b xs ra rb
    → Extends (sent L (written L (half L b rb))) (m ∷ got L ra) → IsDry L (half L a (Got m ∷ ra)) → Quiet L a b (Got m ∷ ra) rb
quiet-when-dry-a L a b {ra = ra} {rb = rb} m e f r h dry =
    let flight : count L b rb + count L a ra ≤ suc (length (got L ra) + length (got L rb)) = one-in-flight L a b e f r in
    let w : Written L a b ra rb = read-was-written L a b r in (
      extends-equal (sent L (written L (half L b rb))) (m ∷ got L ra) h
          (read-out (count L b rb) (count L a ra) (length (got L ra)) (length (got L rb)) flight (extends-length (sent L (written L (half L a ra))) (got L rb) w.1)),
      react-dry L (half L a ra) (Got m) dry
          ∙ extends-equal (sent L (written L (half L a ra))) (got L rb) w.1
          (answered (count L b rb) (count L a ra) (length (got L ra)) (length (got L rb)) flight (extends-length (sent L (written L (half L b rb))) (m ∷ got L ra) h)),
    )

pub quiet-when-dry-b : (L : Lang) (a b : Half L) {xs : List (Text L)} {ra rb : List (Event L)} (m : Message L) → written L a ≡ [] → written L b ≡ [] → Reached L a b xs ra rb
    → Extends (sent L (written L (half L a ra))) (m ∷ got L rb) → IsDry L (half L b (Got m ∷ rb)) → Quiet L a b ra (Got m ∷ rb)
quiet-when-dry-b L a b {ra = ra} {rb = rb} m e f r h dry =
    let flight : count L a ra + count L b rb ≤ suc (length (got L rb) + length (got L ra)) =
    turned (count L b rb) (count L a ra) (length (got L ra)) (length (got L rb)) (one-in-flight L a b e f r) in
    let w : Written L a b ra rb = read-was-written L a b r in (
      react-dry L (half L b rb) (Got m) dry
          ∙ extends-equal (sent L (written L (half L b rb))) (got L ra) w.0
          (answered (count L a ra) (count L b rb) (length (got L rb)) (length (got L ra)) flight (extends-length (sent L (written L (half L a ra))) (m ∷ got L rb) h)),
      extends-equal (sent L (written L (half L a ra))) (m ∷ got L rb) h
          (read-out (count L a ra) (count L b rb) (length (got L rb)) (length (got L ra)) flight (extends-length (sent L (written L (half L b rb))) (got L ra) w.0)),
    )

pub quiet-when-text-dry-a : (L : Lang) (a b : Half L) (ra rb : List (Event L)) (t : TreeOf L) → Quiet L a b ra rb → IsDry L (half L a (Begin t ∷ ra)) → Quiet L a b (Begin t ∷ ra) rb
quiet-when-text-dry-a L a b ra rb t (p, q) dry = (p, react-dry L (half L a ra) (Begin t) dry ∙ q)

pub quiet-when-text-dry-b : (L : Lang) (a b : Half L) (ra rb : List (Event L)) (t : TreeOf L) → Quiet L a b ra rb → IsDry L (half L b (Begin t ∷ rb)) → Quiet L a b ra (Begin t ∷ rb)
quiet-when-text-dry-b L a b ra rb t (p, q) dry = (react-dry L (half L b rb) (Begin t) dry ∙ p, q)
