-- Every conversation comes to rest: what is waited for, unread or unspent falls with each message that is read.
use Rattle.std.proofs.Common.{◌≡◌, List, [], ◌∷◌, ◌++◌, ℕ, zero, suc, ◌+◌, ◌*◌, ◌≤◌, refl, sym, subst, arith}
use Rattle.std.specs.Prelude.{length}
use Rattle.side_trees.specs.Trees.{Return, Act, Tell, Stop, Spend, Do, Ask, bind}
use Rattle.side_trees.specs.Sides.{Lang, TreeOf, Message, Request, Reply, Item, Shows, Event, Got, Begin, Pending, Over, Await, Task, Texting, Serving, Half, Going, Failed, go, react, half, idling, written, units, got, sent}
use Rattle.side_trees.specs.SharedRun.{Text}
use Rattle.side_trees.specs.Growing.{Extends}
use Rattle.side_trees.specs.Schedules.{Quiet, Reached, Begun, A_reads, B_reads, A_begins, B_begins}
use Rattle.side_trees.specs.Resting.{CarriedOn, Resting}
use Rattle.side_trees.proofs.Lists.{extends-same, extends-one, extends-trans, sent-extends}
use Rattle.side_trees.proofs.OlderEnds.{Unread, None, More, unread, extends-none}
use Rattle.side_trees.proofs.TalkLists.{begins, record-extends}

-- the questions that are out
abbrev mutual
  questions : (L : Lang) → Pending L → ℕ
  questions L (Over a) = zero
  questions L (Await task k) = suc (below L task)

  below : (L : Lang) → Task L → ℕ
  below L Texting = zero
  below L (Serving p) = questions L p

-- a reply weighs more than a request, since it may be followed by one
abbrev weight : (L : Lang) → Message L → ℕ
weight L (Request r) = 1
weight L (Reply m) = 2

abbrev weigh : (L : Lang) → List (Message L) → ℕ
weigh L [] = zero
weigh L (m ∷ ms) = weight L m + weigh L ms

abbrev open_at : (L : Lang) → Half L → ℕ
open_at L (Going p s u w) = questions L p
open_at L (Failed x s u w) = zero

-- what a side has sent, may spend and waits for
abbrev load : (L : Lang) → Half L → ℕ
load L x = weigh L (sent L (written L x)) + (2 * units L x + open_at L x)

done-load : (w u q : ℕ) → w + (2 * u + zero) ≤ w + (2 * u + (2 + q))
done-load w u q = omega arith

reply-load : (w u q : ℕ) → (2 + w) + (2 * u + q) ≤ w + (2 * u + (2 + q))
reply-load w u q = omega arith

request-load : (w u q : ℕ) → (1 + w) + (2 * u + suc q) ≤ w + (2 * u + (2 + q))
request-load w u q = omega arith

spent-load : (l w u q : ℕ) → l ≤ w + (2 * u + (2 + q)) → l ≤ w + (2 * suc u + (2 + q))
spent-load l w u q h = omega arith

go-load : (L : Lang) (task : Task L) (u : ℕ) (t : TreeOf L) (s : L.S) (w : List (Item L)) → load L (go L task u t s w) ≤ weigh L (sent L w) + (2 * u + (2 + below L task))
go-load L Texting u (Return a) s w = done-load (weigh L (sent L w)) u zero
go-load L (Serving p) u (Return a) s w = reply-load (weigh L (sent L w)) u (questions L p)
go-load L task u (Act g f) s w = go-load L task u (f s) (g s) w
go-load L task u (Tell o t) s w = go-load L task u t s (Shows o ∷ w)
go-load L task u (Stop x) s w = done-load (weigh L (sent L w)) u (below L task)
go-load L task zero (Spend c k) s w = done-load (weigh L (sent L w)) zero (below L task)
go-load L task (suc u) (Spend c k) s w =
    spent-load (load L (go L task u (bind (L.expand c) k) s w)) (weigh L (sent L w)) u (below L task) (go-load L task u (bind (L.expand c) k) s w)
go-load L task zero (Do o c k) s w = done-load (weigh L (sent L w)) zero (below L task)
go-load L task (suc u) (Do o c k) s w =
    let t : TreeOf L = bind (L.expand o) (λ a. bind (L.expand (c a)) k) in
    spent-load (load L (go L task u t s w)) (weigh L (sent L w)) u (below L task) (go-load L task u t s w)
go-load L task u (Ask q c k) s w = request-load (weigh L (sent L w)) u (below L task)

served-load : (l w u q : ℕ) → l ≤ w + (2 * u + (2 + q)) → suc l ≤ 1 + (w + (2 * suc u + q))
served-load l w u q h = omega arith

resumed-load : (l w u q : ℕ) → l ≤ w + (2 * u + (2 + q)) → suc l ≤ 2 + (w + (2 * u + suc q))
resumed-load l w u q h = omega arith

dry-load : (w q : ℕ) → suc (w + (2 * zero + zero)) ≤ 1 + (w + (2 * zero + q))
dry-load w q = omega arith

more-load : (l : ℕ) → suc l ≤ 2 + l
more-load l = omega arith

same-load : (l : ℕ) → suc l ≤ 1 + l
same-load l = omega arith

-- with each message that is read the load falls, but for the weight of the message
read-load : (L : Lang) (x : Half L) (m : Message L) → suc (load L (react L x (Got m))) ≤ weight L m + load L x
read-load L (Going p s zero w) (Request r) = dry-load (weigh L (sent L w)) (questions L p)
read-load L (Going p s (suc u) w) (Request r) =
    let t : TreeOf L = bind (L.expand (L.read_q r)) (λ a. Return a) in
    served-load (load L (go L (Serving p) u t s w)) (weigh L (sent L w)) u (questions L p) (go-load L (Serving p) u t s w)
read-load L (Going (Over a) s u w) (Reply m) = more-load (weigh L (sent L w) + (2 * u + zero))
read-load L (Going (Await task k) s u w) (Reply m) =
    resumed-load (load L (go L task u (k (L.read_a s m)) s w)) (weigh L (sent L w)) u (below L task) (go-load L task u (k (L.read_a s m)) s w)
read-load L (Failed x s u w) (Request r) = same-load (weigh L (sent L w) + (2 * u + zero))
read-load L (Failed x s u w) (Reply m) = more-load (weigh L (sent L w) + (2 * u + zero))

begun-load : (l w u : ℕ) → l ≤ w + (2 * u + (2 + zero)) → l ≤ 2 + (w + (2 * u + zero))
begun-load l w u h = omega arith

broken-load : (w u q : ℕ) → w + (2 * u + zero) ≤ 2 + (w + (2 * u + suc q))
broken-load w u q = omega arith

two-more : (l : ℕ) → l ≤ 2 + l
two-more l = omega arith

begin-load : (L : Lang) (x : Half L) (t : TreeOf L) → load L (react L x (Begin t)) ≤ 2 + load L x
begin-load L (Going (Over a) s u w) t = begun-load (load L (go L Texting u t s w)) (weigh L (sent L w)) u (go-load L Texting u t s w)
begin-load L (Going (Await task k) s u w) t = broken-load (weigh L (sent L w)) u (below L task)
begin-load L (Failed x s u w) t = two-more (weigh L (sent L w) + (2 * u + zero))

-- so a list of events is no longer than the load at its start, what it read and its texts allow
none-yet : (l : ℕ) → l + zero ≤ l + (zero + 3 * zero)
none-yet l = omega arith

one-read : (l k n o g w b : ℕ) → suc l ≤ w + k → k + n ≤ o + (g + 3 * b) → l + suc n ≤ o + ((w + g) + 3 * b)
one-read l k n o g w b h i = omega arith

one-begun : (l k n o g b : ℕ) → l ≤ 2 + k → k + n ≤ o + (g + 3 * b) → l + suc n ≤ o + (g + 3 * suc b)
one-begun l k n o g b h i = omega arith

all-load : (L : Lang) (x : Half L) (es : List (Event L)) → load L (half L x es) + length es ≤ load L x + (weigh L (got L es) + 3 * begins L es)
all-load L x [] = none-yet (load L x)
all-load L x (Got m ∷ es) =
    one-read (load L (react L (half L x es) (Got m))) (load L (half L x es)) (length es) (load L x) (weigh L (got L es)) (weight L m) (begins L es)
    (read-load L (half L x es) m) (all-load L x es)
all-load L x (Begin t ∷ es) =
    one-begun (load L (react L (half L x es) (Begin t))) (load L (half L x es)) (length es) (load L x) (weigh L (got L es)) (begins L es)
    (begin-load L (half L x es) t) (all-load L x es)

-- what was read was written
as-much : (n : ℕ) → n ≤ n
as-much n = omega arith

weigh-more : (k n w : ℕ) → n ≤ k → n ≤ w + k
weigh-more k n w h = omega arith

weigh-front : (L : Lang) (xs ys : List (Message L)) → weigh L ys ≤ weigh L (xs ++ ys)
weigh-front L [] ys = as-much (weigh L ys)
weigh-front L (m ∷ xs) ys = weigh-more (weigh L (xs ++ ys)) (weigh L ys) (weight L m) (weigh-front L xs ys)

weigh-extends : (L : Lang) (xs ys : List (Message L)) → Extends xs ys → weigh L ys ≤ weigh L xs
weigh-extends L xs ys (m, e) = subst (λ l. weigh L ys ≤ weigh L l) (sym e) (weigh-front L m ys)

sent-on : (L : Lang) (x : Half L) (e : Event L) (es : List (Event L)) (ms : List (Message L)) → Extends (sent L (written L (half L x es))) ms
    → Extends (sent L (written L (half L x (e ∷ es)))) ms
sent-on L x e es ms h =
    extends-trans (sent L (written L (half L x (e ∷ es)))) (sent L (written L (half L x es))) ms
    (sent-extends L (written L (half L x (e ∷ es))) (written L (half L x es)) (record-extends L x (e ∷ es) es (extends-one e es))) h

abbrev pub Written : (L : Lang) → Half L → Half L → List (Event L) → List (Event L) → Type 0
Written L a b ra rb = Extends (sent L (written L (half L b rb))) (got L ra) × Extends (sent L (written L (half L a ra))) (got L rb)

pub read-was-written : (L : Lang) (a b : Half L) {xs : List (Text L)} {ra rb : List (Event L)} → Reached L a b xs ra rb → Written L a b ra rb
read-was-written L a b Begun = (extends-none (sent L (written L b)), extends-none (sent L (written L a)))
read-was-written L a b (A_reads {ra = ra} {rb = rb} m r h) = (h, sent-on L a (Got m) ra (got L rb) (read-was-written L a b r).1)
read-was-written L a b (B_reads {ra = ra} {rb = rb} m r h) = (sent-on L b (Got m) rb (got L ra) (read-was-written L a b r).0, h)
read-was-written L a b (A_begins {ra = ra} {rb = rb} t r q i j) = ((read-was-written L a b r).0, sent-on L a (Begin t) ra (got L rb) (read-was-written L a b r).1)
read-was-written L a b (B_begins {ra = ra} {rb = rb} t r q i j) = (sent-on L b (Begin t) rb (got L ra) (read-was-written L a b r).0, (read-was-written L a b r).1)

suc-left : (n a b : ℕ) → n ≡ a + b → suc n ≡ suc a + b
suc-left n a b e = omega arith

suc-right : (n a b : ℕ) → n ≡ a + b → suc n ≡ a + suc b
suc-right n a b e = omega arith

texts-begun : (L : Lang) (a b : Half L) {xs : List (Text L)} {ra rb : List (Event L)} → Reached L a b xs ra rb → length xs ≡ begins L ra + begins L rb
texts-begun L a b Begun = refl
texts-begun L a b (A_reads m r h) = texts-begun L a b r
texts-begun L a b (B_reads m r h) = texts-begun L a b r
texts-begun L a b (A_begins {xs = xs} {ra = ra} {rb = rb} t r q i j) = suc-left (length xs) (begins L ra) (begins L rb) (texts-begun L a b r)
texts-begun L a b (B_begins {xs = xs} {ra = ra} {rb = rb} t r q i j) = suc-right (length xs) (begins L ra) (begins L rb) (texts-begun L a b r)

-- the bound
abbrev allowed : (L : Lang) → Half L → Half L → List (Text L) → ℕ
allowed L a b xs = (load L a + load L b) + 3 * length xs

no-more : (wa wb ua ub n m la lb ga gb ta tb k : ℕ) → (wa + ua) + n ≤ la + (ga + 3 * ta) → (wb + ub) + m ≤ lb + (gb + 3 * tb) → ga ≤ wb → gb ≤ wa → k ≡ ta + tb
    → n + m ≤ (la + lb) + 3 * k
no-more wa wb ua ub n m la lb ga gb ta tb k p q i j e = omega arith

bounded : (L : Lang) (a b : Half L) {xs : List (Text L)} {ra rb : List (Event L)} → Reached L a b xs ra rb → length ra + length rb ≤ allowed L a b xs
bounded L a b {xs} {ra} {rb} r =
    let x : Half L = half L a ra in
    let y : Half L = half L b rb in
    no-more (weigh L (sent L (written L x))) (weigh L (sent L (written L y))) (2 * units L x + open_at L x) (2 * units L y + open_at L y) (length ra) (length rb)
    (load L a) (load L b) (weigh L (got L ra)) (weigh L (got L rb)) (begins L ra) (begins L rb) (length xs)
    (all-load L a ra) (all-load L b rb)
    (weigh-extends L (sent L (written L y)) (got L ra) (read-was-written L a b r).0)
    (weigh-extends L (sent L (written L x)) (got L rb) (read-was-written L a b r).1)
    (texts-begun L a b r)

-- at rest, or with a message to read
data Next (L : Lang) (a b : Half L) (xs : List (Text L)) (ra rb : List (Event L)) : Type 0 where
  Rest : Quiet L a b ra rb → Next L a b xs ra rb
  AtA : (m : Message L) → Reached L a b xs (Got m ∷ ra) rb → Next L a b xs ra rb
  AtB : (m : Message L) → Reached L a b xs ra (Got m ∷ rb) → Next L a b xs ra rb

next-of-two : (L : Lang) (a b : Half L) {xs : List (Text L)} {ra rb : List (Event L)} → Reached L a b xs ra rb
    → Unread (sent L (written L (half L b rb))) (got L ra) → Unread (sent L (written L (half L a ra))) (got L rb) → Next L a b xs ra rb
next-of-two L a b r (More m h) y = AtA m (A_reads m r h)
next-of-two L a b r (None e) (More m h) = AtB m (B_reads m r h)
next-of-two L a b r (None e) (None f) = Rest (e, f)

next-step : (L : Lang) (a b : Half L) {xs : List (Text L)} {ra rb : List (Event L)} → Reached L a b xs ra rb → Next L a b xs ra rb
next-step L a b {ra = ra} {rb = rb} r =
    let w : Written L a b ra rb = read-was-written L a b r in
    next-of-two L a b r (unread (sent L (written L (half L b rb))) (got L ra) w.0) (unread (sent L (written L (half L a ra))) (got L rb) w.1)

pub not-beyond-a : (k n m : ℕ) → suc n + m ≤ k → k ≤ (n + m) + zero → ⊥
not-beyond-a k n m h i = absurd (omega arith)

pub not-beyond-b : (k n m : ℕ) → n + suc m ≤ k → k ≤ (n + m) + zero → ⊥
not-beyond-b k n m h i = absurd (omega arith)

pub one-less-a : (k n m l : ℕ) → k ≤ (n + m) + suc l → k ≤ (suc n + m) + l
one-less-a k n m l h = omega arith

pub one-less-b : (k n m l : ℕ) → k ≤ (n + m) + suc l → k ≤ (n + suc m) + l
one-less-b k n m l h = omega arith

after-a : (L : Lang) (a b : Half L) (xs : List (Text L)) (ra rb : List (Event L)) (e : Event L) → CarriedOn L a b xs (e ∷ ra) rb → CarriedOn L a b xs ra rb
after-a L a b xs ra rb e (qa, qb, x, y, r, q) = (qa, qb, extends-trans qa (e ∷ ra) ra x (extends-one e ra), y, r, q)

after-b : (L : Lang) (a b : Half L) (xs : List (Text L)) (ra rb : List (Event L)) (e : Event L) → CarriedOn L a b xs ra (e ∷ rb) → CarriedOn L a b xs ra rb
after-b L a b xs ra rb e (qa, qb, x, y, r, q) = (qa, qb, x, extends-trans qb (e ∷ rb) rb y (extends-one e rb), r, q)

-- one read after the other, until nothing is unread
carried : (L : Lang) (a b : Half L) (n : ℕ) (xs : List (Text L)) (ra rb : List (Event L)) → Reached L a b xs ra rb
    → allowed L a b xs ≤ (length ra + length rb) + n → Next L a b xs ra rb → CarriedOn L a b xs ra rb
carried L a b n xs ra rb r h (Rest q) = (ra, rb, extends-same ra, extends-same rb, r, q)
carried L a b zero xs ra rb r h (AtA m k) = absurd (not-beyond-a (allowed L a b xs) (length ra) (length rb) (bounded L a b k) h)
carried L a b zero xs ra rb r h (AtB m k) = absurd (not-beyond-b (allowed L a b xs) (length ra) (length rb) (bounded L a b k) h)
carried L a b (suc n) xs ra rb r h (AtA m k) =
    after-a L a b xs ra rb (Got m) (
    carried L a b n xs (Got m ∷ ra) rb k (one-less-a (allowed L a b xs) (length ra) (length rb) n h) (next-step L a b k))
carried L a b (suc n) xs ra rb r h (AtB m k) =
    after-b L a b xs ra rb (Got m) (
    carried L a b n xs ra (Got m ∷ rb) k (one-less-b (allowed L a b xs) (length ra) (length rb) n h) (next-step L a b k))

pub enough : (k n : ℕ) → k ≤ n + k
enough k n = omega arith

pub comes-to-rest : (L : Lang) (a b : Half L) (xs : List (Text L)) (ra rb : List (Event L)) → Reached L a b xs ra rb → CarriedOn L a b xs ra rb
comes-to-rest L a b xs ra rb r = carried L a b (allowed L a b xs) xs ra rb r (enough (allowed L a b xs) (length ra + length rb)) (next-step L a b r)

from-idle : (n x y k : ℕ) → n ≤ ((zero + (2 * x + zero)) + (zero + (2 * y + zero))) + 3 * k → n ≤ 2 * (x + y) + 3 * k
from-idle n x y k h = omega arith

pub resting : (L : Lang) → Resting L
resting L = record {
  ends = λ a b s v x y xs ra rb r. from-idle (length ra + length rb) x y (length xs) (bounded L (idling L a s x) (idling L b v y) r);
  rests = λ a b s v x y xs ra rb r. comes-to-rest L (idling L a s x) (idling L b v y) xs ra rb r;
}
