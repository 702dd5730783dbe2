-- Sides that draw their units from one number, each with the units that it spent.
use Rattle.std.proofs.Common.{◌≡◌, List, [], ◌∷◌, ℕ, zero, suc, ◌+◌, ◌-◌, ◌<◌, ◌≤◌, refl, sym, ap, ◌∙◌, subst, arith}
use Rattle.std.specs.Prelude.{⊤}
use Rattle.side_trees.specs.Sides.{Lang, TreeOf, Message, Event, Got, Begin, Over, Await, Failure, OutOfFuel, Beyond, Broken, Half, Going, Failed, react, half, written, units, got, sent}
use Rattle.side_trees.specs.SharedRun.{A, B, Text}
use Rattle.side_trees.specs.Growing.{Extends, WithMore, Later}
use Rattle.side_trees.specs.Joining.{MayBegin}
use Rattle.side_trees.specs.Schedules.{Quiet, Reached, Begun, A_reads, B_reads, A_begins, B_begins}
use Rattle.side_trees.specs.SharedUnits.{with_units, drawing, AllRead}
use Rattle.side_trees.proofs.GrowthLaw.{half-more, half-grows, react-spends}

abbrev pub ByFuel : (L : Lang) → Failure L → Type 0
ByFuel L OutOfFuel = ⊤
ByFuel L (Beyond k) = ⊥
ByFuel L Broken = ⊥

-- the side is out of fuel
abbrev pub IsDry : (L : Lang) → Half L → Type 0
IsDry L (Going p s u w) = ⊥
IsDry L (Failed x s u w) = ByFuel L x

-- a number is at least another, by c, or below it, by c and one
pub data Apart (n m : ℕ) : Type 0 where
  AtLeast : (c : ℕ) → n ≡ m + c → Apart n m
  Below : (c : ℕ) → m ≡ n + suc c → Apart n m

one-more-apart : (n m : ℕ) → Apart n m → Apart (suc n) (suc m)
one-more-apart n m (AtLeast c e) = AtLeast c (omega arith)
one-more-apart n m (Below c e) = Below c (omega arith)

pub apart : (n m : ℕ) → Apart n m
apart n zero = AtLeast n (omega arith)
apart zero (suc m) = Below m (omega arith)
apart (suc n) (suc m) = one-more-apart n m (apart n m)

-- a side that has fuel is the same with more units, but for these
with-more : (L : Lang) (c : ℕ) (z y : Half L) → (IsDry L z → ⊥) → WithMore L c z y → y ≡ with_units L (units L z + c) z
with-more L c (Going p s u w) y f h = h
with-more L c (Failed OutOfFuel s u w) y f h = absurd (f tt)
with-more L c (Failed (Beyond k) s u w) y f h = h
with-more L c (Failed Broken s u w) y f h = h

same-left : (u c d : ℕ) → u + c ≡ d + c → u ≡ d
same-left u c d e = omega arith

not-less : (d c n : ℕ) → 0 < c → n ≡ d + c → (0 < c → n < c) → ⊥
not-less d c n h e f = let k : n < c = f h in absurd (omega arith)

-- and with fewer, as long as what is left with more is not less than what was added
with-less : (L : Lang) (c d : ℕ) (x z : Half L) → 0 < c → units L z ≡ d + c → (IsDry L z → ⊥) → WithMore L c x z → x ≡ with_units L d z
with-less L c d (Going p s u w) z h e f k =
    let left : u ≡ d = same-left u c d (sym (ap (units L) k) ∙ e) in
    ap (λ n. Going p s n w) left ∙ sym (ap (with_units L d) k)
with-less L c d (Failed OutOfFuel s u w) z h e f (k, l) = absurd (not-less d c (units L z) h e l)
with-less L c d (Failed (Beyond y) s u w) z h e f k =
    let left : u ≡ d = same-left u c d (sym (ap (units L) k) ∙ e) in
    ap (λ n. Failed (Beyond y) s n w) left ∙ sym (ap (with_units L d) k)
with-less L c d (Failed Broken s u w) z h e f k =
    let left : u ≡ d = same-left u c d (sym (ap (units L) k) ∙ e) in
    ap (λ n. Failed Broken s n w) left ∙ sym (ap (with_units L d) k)

pub data DryOr (L : Lang) (x : Half L) : Type 0 where
  Is : IsDry L x → DryOr L x
  IsNot : (IsDry L x → ⊥) → DryOr L x

pub dry-or : (L : Lang) (x : Half L) → DryOr L x
dry-or L (Going p s u w) = IsNot (λ h. h)
dry-or L (Failed OutOfFuel s u w) = Is tt
dry-or L (Failed (Beyond k) s u w) = IsNot (λ h. h)
dry-or L (Failed Broken s u w) = IsNot (λ h. h)

dry-with-none : (L : Lang) (z : Half L) → IsDry L z → units L z ≡ zero → z ≡ with_units L zero z
dry-with-none L (Going p s u w) h e = absurd h
dry-with-none L (Failed x s u w) h e = ap (λ n. Failed x s n w) e

later-dry : (L : Lang) (d : ℕ) (z y : Half L) → Later L d z y → IsDry L z → units L z ≡ zero
later-dry L d (Going p s u w) y h k = absurd k
later-dry L d (Failed OutOfFuel s u w) y h k = h.0
later-dry L d (Failed (Beyond x) s u w) y h k = absurd k
later-dry L d (Failed Broken s u w) y h k = absurd k

all-of-it : (u v d : ℕ) → v ≡ zero → d ≡ zero → (u - v) + d ≡ u
all-of-it u v d e f = omega arith

and-more : (u v d c : ℕ) → v ≤ u → d ≡ v + c → (u - v) + d ≡ u + c
and-more u v d c h e = omega arith

up-to-it : (u v d c : ℕ) → v ≤ u → v ≡ d + suc c → ((u - v) + d) + suc c ≡ u
up-to-it u v d c h e = omega arith

positive : (c : ℕ) → 0 < suc c
positive c = omega arith

-- with the units that it spent and d more a side comes to the same, with d left
exact-with-fuel : (L : Lang) (k : ℕ → Half L) (u d : ℕ) → ((n c : ℕ) → WithMore L c (k n) (k (n + c))) → units L (k u) ≤ u → (IsDry L (k u) → ⊥) → Apart d (units L (k u))
    → k ((u - units L (k u)) + d) ≡ with_units L d (k u)
exact-with-fuel L k u d g b f (AtLeast c e) =
    ap k (and-more u (units L (k u)) d c b e) ∙ with-more L c (k u) (k (u + c)) f (g u c) ∙ ap (λ n. with_units L n (k u)) (sym e)
exact-with-fuel L k u d g b f (Below c e) =
    let n : ℕ = (u - units L (k u)) + d in
    with-less L (suc c) d (k n) (k u) (positive c) e f (subst (λ i. WithMore L (suc c) (k n) (k i)) (up-to-it u (units L (k u)) d c b e) (g n (suc c)))

exact-of : (L : Lang) (k : ℕ → Half L) (u d : ℕ) → ((n c : ℕ) → WithMore L c (k n) (k (n + c))) → units L (k u) ≤ u → (IsDry L (k u) → units L (k u) ≡ zero)
    → (IsDry L (k u) → d ≡ zero) → DryOr L (k u) → k ((u - units L (k u)) + d) ≡ with_units L d (k u)
exact-of L k u d g b z h (Is dry) =
    ap k (all-of-it u (units L (k u)) d (z dry) (h dry)) ∙ dry-with-none L (k u) dry (z dry) ∙ ap (λ n. with_units L n (k u)) (sym (h dry))
exact-of L k u d g b z h (IsNot fuel) = exact-with-fuel L k u d g b fuel (apart d (units L (k u)))

no-change : (u d : ℕ) → (u - u) + d ≡ d
no-change u d = omega arith

pub drawing-dry : (L : Lang) (u : ℕ) (x : Half L) (e : Event L) → IsDry L x → IsDry L (drawing L u x e)
drawing-dry L u (Going p s v w) e h = absurd h
drawing-dry L u (Failed y s v w) e h = h

pub drawing-spends : (L : Lang) (u : ℕ) (x : Half L) (e : Event L) → units L (drawing L u x e) ≤ u
drawing-spends L u (Going p s v w) e = react-spends L (Going p s u w) e
drawing-spends L u (Failed y s v w) e = react-spends L (Failed y s u w) e

pub drawn-dry : (L : Lang) (u : ℕ) (x : Half L) (e : Event L) → (IsDry L x → u ≡ zero) → IsDry L (drawing L u x e) → units L (drawing L u x e) ≡ zero
drawn-dry L u (Going p s v w) e h k =
    later-dry L zero (react L (Going p s u w) e) (half L (Going p s (u + zero) w) (e ∷ [])) (half-grows L p s u zero w [] (e ∷ [])) k
drawn-dry L u (Failed OutOfFuel s v w) e h k = h tt
drawn-dry L u (Failed (Beyond y) s v w) e h k = absurd k
drawn-dry L u (Failed Broken s v w) e h k = absurd k

drawing-exact : (L : Lang) (u : ℕ) (x : Half L) (e : Event L) (d : ℕ) → (IsDry L x → u ≡ zero) → (IsDry L (drawing L u x e) → d ≡ zero)
    → drawing L ((u - units L (drawing L u x e)) + d) x e ≡ with_units L d (drawing L u x e)
drawing-exact L u (Going p s v w) e d h k =
    exact-of L (λ n. react L (Going p s n w) e) u d (λ n c. half-more L p s n c w (e ∷ [])) (react-spends L (Going p s u w) e) (drawn-dry L u (Going p s v w) e h) k
    (dry-or L (react L (Going p s u w) e))
drawing-exact L u (Failed y s v w) e d h k = ap (λ n. Failed y s n w) (no-change u d)

-- n units bring the side over these events to x; with d more it has d left
abbrev pub Bought : (L : Lang) → (ℕ → Half L) → ℕ → List (Event L) → Half L → Type 0
Bought L start n r x = (d : ℕ) → (IsDry L x → d ≡ zero) → half L (start (n + d)) r ≡ with_units L d x

pub none-of-none : (u v d : ℕ) → u ≡ zero → d ≡ zero → (u - v) + d ≡ zero
none-of-none u v d e f = omega arith

pub to-the-right : (n k d : ℕ) → (n + k) + d ≡ n + (k + d)
to-the-right n k d = omega arith

pub bought-on : (L : Lang) (start : ℕ → Half L) (n u : ℕ) (r : List (Event L)) (x : Half L) (e : Event L) → (IsDry L x → u ≡ zero) → Bought L start n r x
    → Bought L start (n + (u - units L (drawing L u x e))) (e ∷ r) (drawing L u x e)
bought-on L start n u r x e h b d k =
    let spent : ℕ = u - units L (drawing L u x e) in
    ap (λ i. react L (half L (start i) r) e) (to-the-right n spent d)
    ∙ ap (λ z. react L z e) (b (spent + d) (λ dry. none-of-none u (units L (drawing L u x e)) d (h dry) (k (drawing-dry L u x e dry))))
    ∙ drawing-exact L u x e d h k

-- what does not depend on the units left
pub kept-written : (L : Lang) (d : ℕ) (x : Half L) → written L (with_units L d x) ≡ written L x
kept-written L d (Going p s u w) = refl
kept-written L d (Failed y s u w) = refl

pub kept-units : (L : Lang) (d : ℕ) (x : Half L) → units L (with_units L d x) ≡ d
kept-units L d (Going p s u w) = refl
kept-units L d (Failed y s u w) = refl

pub kept-may-begin : (L : Lang) (d : ℕ) (x : Half L) → MayBegin L x → MayBegin L (with_units L d x)
kept-may-begin L d (Going (Over a) s u w) h = h
kept-may-begin L d (Going (Await task k) s u w) h = absurd h
kept-may-begin L d (Failed y s u w) h = absurd h

pub kept-dry : (L : Lang) (d : ℕ) (x : Half L) → IsDry L (with_units L d x) → IsDry L x
kept-dry L d (Going p s u w) h = absurd h
kept-dry L d (Failed y s u w) h = h

pub dry-kept : (L : Lang) (d : ℕ) (x : Half L) → IsDry L x → IsDry L (with_units L d x)
dry-kept L d (Going p s u w) h = absurd h
dry-kept L d (Failed y s u w) h = h

-- A pair as two sides: the units that each spent buy what it came to, and with those, and more where it is not out of fuel, what was read is a schedule.
pub record Spent (L : Lang) (sa sb : ℕ → Half L) (f : ℕ) (xs : List (Text L)) (ra rb : List (Event L)) (x y : Half L) (u : ℕ) : Type 0 where
  pub n : ℕ
  pub m : ℕ
  pub sum : n + m + u ≡ f
  pub bought_a : Bought L sa n ra x
  pub bought_b : Bought L sb m rb y
  pub dry_a : IsDry L x → u ≡ zero
  pub dry_b : IsDry L y → u ≡ zero
  pub reached : (d k : ℕ) → (IsDry L x → d ≡ zero) → (IsDry L y → k ≡ zero) → Reached L (sa (n + d)) (sb (m + k)) xs ra rb

pub from-none : (d : ℕ) → zero + d ≡ d
from-none d = omega arith

pub from-none-at-all : (f : ℕ) → zero + zero + f ≡ f
from-none-at-all f = omega arith

pub sum-after-a : (n m u v f : ℕ) → n + m + u ≡ f → v ≤ u → (n + (u - v)) + m + v ≡ f
sum-after-a n m u v f e h = omega arith

pub sum-after-b : (n m u v f : ℕ) → n + m + u ≡ f → v ≤ u → n + (m + (u - v)) + v ≡ f
sum-after-b n m u v f e h = omega arith

pub none-left : (u v : ℕ) → v ≤ u → u ≡ zero → v ≡ zero
none-left u v h e = omega arith

pub written-a : (L : Lang) (start : ℕ → Half L) (n : ℕ) (r : List (Event L)) (x : Half L) (d : ℕ) → Bought L start n r x → (IsDry L x → d ≡ zero)
    → written L (half L (start (n + d)) r) ≡ written L x
written-a L start n r x d b h = ap (written L) (b d h) ∙ kept-written L d x

abbrev pub Builds-a : (L : Lang) (sa sb : ℕ → Half L) (n m : ℕ) (xs more : List (Text L)) (ra rb : List (Event L)) (x y : Half L) (e : Event L) → Type 0
Builds-a L sa sb n m xs more ra rb x y e = (d k : ℕ) → (IsDry L x → d ≡ zero) → (IsDry L y → k ≡ zero)
    → Reached L (sa (n + d)) (sb (m + k)) xs ra rb → Reached L (sa (n + d)) (sb (m + k)) more (e ∷ ra) rb

abbrev pub Builds-b : (L : Lang) (sa sb : ℕ → Half L) (n m : ℕ) (xs more : List (Text L)) (ra rb : List (Event L)) (x y : Half L) (e : Event L) → Type 0
Builds-b L sa sb n m xs more ra rb x y e = (d k : ℕ) → (IsDry L x → d ≡ zero) → (IsDry L y → k ≡ zero)
    → Reached L (sa (n + d)) (sb (m + k)) xs ra rb → Reached L (sa (n + d)) (sb (m + k)) more ra (e ∷ rb)

abbrev pub step-a : (L : Lang) (sa sb : ℕ → Half L) (f : ℕ) (xs more : List (Text L)) (ra rb : List (Event L)) (x y : Half L) (u : ℕ) (e : Event L) (s : Spent L sa sb f xs ra rb x y u)
    → Builds-a L sa sb s.n s.m xs more ra rb x y e → Spent L sa sb f more (e ∷ ra) rb (drawing L u x e) y (units L (drawing L u x e))
step-a L sa sb f xs more ra rb x y u e s build =
    let v : ℕ = units L (drawing L u x e) in
    let low : v ≤ u = drawing-spends L u x e in
    record {
      n = s.n + (u - v);
      m = s.m;
      sum = sum-after-a s.n s.m u v f s.sum low;
      bought_a = bought-on L sa s.n u ra x e s.dry_a s.bought_a;
      bought_b = s.bought_b;
      dry_a = drawn-dry L u x e s.dry_a;
      dry_b = λ h. none-left u v low (s.dry_b h);
      reached = λ d k h i.
          let none : IsDry L x → (u - v) + d ≡ zero = λ dry. none-of-none u v d (s.dry_a dry) (h (drawing-dry L u x e dry)) in
          subst (λ j. Reached L (sa j) (sb (s.m + k)) more (e ∷ ra) rb) (sym (to-the-right s.n (u - v) d)) (build ((u - v) + d) k none i (s.reached ((u - v) + d) k none i));
    }

abbrev pub step-b : (L : Lang) (sa sb : ℕ → Half L) (f : ℕ) (xs more : List (Text L)) (ra rb : List (Event L)) (x y : Half L) (u : ℕ) (e : Event L) (s : Spent L sa sb f xs ra rb x y u)
    → Builds-b L sa sb s.n s.m xs more ra rb x y e → Spent L sa sb f more ra (e ∷ rb) x (drawing L u y e) (units L (drawing L u y e))
step-b L sa sb f xs more ra rb x y u e s build =
    let v : ℕ = units L (drawing L u y e) in
    let low : v ≤ u = drawing-spends L u y e in
    record {
      n = s.n;
      m = s.m + (u - v);
      sum = sum-after-b s.n s.m u v f s.sum low;
      bought_a = s.bought_a;
      bought_b = bought-on L sb s.m u rb y e s.dry_b s.bought_b;
      dry_a = λ h. none-left u v low (s.dry_a h);
      dry_b = drawn-dry L u y e s.dry_b;
      reached = λ d k h i.
          let none : IsDry L y → (u - v) + k ≡ zero = λ dry. none-of-none u v k (s.dry_b dry) (i (drawing-dry L u y e dry)) in
          subst (λ j. Reached L (sa (s.n + d)) (sb j) more ra (e ∷ rb)) (sym (to-the-right s.m (u - v) k)) (build d ((u - v) + k) h none (s.reached d ((u - v) + k) h none));
    }

quiet-of : (L : Lang) (a b x y : Half L) (ra rb : List (Event L)) → written L (half L a ra) ≡ written L x → written L (half L b rb) ≡ written L y → AllRead L x y ra rb → Quiet L a b ra rb
quiet-of L a b x y ra rb e f (p, q) = (ap (sent L) f ∙ p, ap (sent L) e ∙ q)

pub quiet-at-spent : (L : Lang) (sa sb : ℕ → Half L) (f : ℕ) (xs : List (Text L)) (ra rb : List (Event L)) (x y : Half L) (u : ℕ) (s : Spent L sa sb f xs ra rb x y u) (d k : ℕ)
    → (IsDry L x → d ≡ zero) → (IsDry L y → k ≡ zero) → AllRead L x y ra rb → Quiet L (sa (s.n + d)) (sb (s.m + k)) ra rb
quiet-at-spent L sa sb f xs ra rb x y u s d k h i still =
    quiet-of L (sa (s.n + d)) (sb (s.m + k)) x y ra rb (written-a L sa s.n ra x d s.bought_a h) (written-a L sb s.m rb y k s.bought_b i) still

may-at : (L : Lang) (start : ℕ → Half L) (n : ℕ) (r : List (Event L)) (x : Half L) (d : ℕ) → Bought L start n r x → (IsDry L x → d ≡ zero) → MayBegin L x
    → MayBegin L (half L (start (n + d)) r)
may-at L start n r x d b h i = subst (MayBegin L) (sym (b d h)) (kept-may-begin L d x i)

pub reads-at : (L : Lang) (start : ℕ → Half L) (n : ℕ) (r : List (Event L)) (x : Half L) (d : ℕ) (ms : List (Message L)) → Bought L start n r x → (IsDry L x → d ≡ zero)
    → Extends (sent L (written L x)) ms → Extends (sent L (written L (half L (start (n + d)) r))) ms
reads-at L start n r x d ms b h i = subst (λ l. Extends (sent L l) ms) (sym (written-a L start n r x d b h)) i

-- what a read and a text add to a schedule
pub takes-a : (L : Lang) (sa sb : ℕ → Half L) (f : ℕ) (xs : List (Text L)) (ra rb : List (Event L)) (x y : Half L) (u : ℕ) (m : Message L) (s : Spent L sa sb f xs ra rb x y u)
    → Extends (sent L (written L y)) (m ∷ got L ra) → Builds-a L sa sb s.n s.m xs xs ra rb x y (Got m)
takes-a L sa sb f xs ra rb x y u m s ext d k h i r = A_reads m r (reads-at L sb s.m rb y k (m ∷ got L ra) s.bought_b i ext)

pub takes-b : (L : Lang) (sa sb : ℕ → Half L) (f : ℕ) (xs : List (Text L)) (ra rb : List (Event L)) (x y : Half L) (u : ℕ) (m : Message L) (s : Spent L sa sb f xs ra rb x y u)
    → Extends (sent L (written L x)) (m ∷ got L rb) → Builds-b L sa sb s.n s.m xs xs ra rb x y (Got m)
takes-b L sa sb f xs ra rb x y u m s ext d k h i r = B_reads m r (reads-at L sa s.n ra x d (m ∷ got L rb) s.bought_a h ext)

pub starts-a : (L : Lang) (sa sb : ℕ → Half L) (f : ℕ) (xs : List (Text L)) (ra rb : List (Event L)) (x y : Half L) (u : ℕ) (t : TreeOf L) (s : Spent L sa sb f xs ra rb x y u)
    → AllRead L x y ra rb → MayBegin L x → MayBegin L y → Builds-a L sa sb s.n s.m xs (record { side = A; tree = t } ∷ xs) ra rb x y (Begin t)
starts-a L sa sb f xs ra rb x y u t s all v w d k h i r =
    A_begins t r (quiet-at-spent L sa sb f xs ra rb x y u s d k h i all) (may-at L sa s.n ra x d s.bought_a h v) (may-at L sb s.m rb y k s.bought_b i w)

pub starts-b : (L : Lang) (sa sb : ℕ → Half L) (f : ℕ) (xs : List (Text L)) (ra rb : List (Event L)) (x y : Half L) (u : ℕ) (t : TreeOf L) (s : Spent L sa sb f xs ra rb x y u)
    → AllRead L x y ra rb → MayBegin L x → MayBegin L y → Builds-b L sa sb s.n s.m xs (record { side = B; tree = t } ∷ xs) ra rb x y (Begin t)
starts-b L sa sb f xs ra rb x y u t s all v w d k h i r =
    B_begins t r (quiet-at-spent L sa sb f xs ra rb x y u s d k h i all) (may-at L sa s.n ra x d s.bought_a h v) (may-at L sb s.m rb y k s.bought_b i w)

abbrev pub opened : (L : Lang) (sa sb : ℕ → Half L) (f : ℕ) → ((n k : ℕ) → sa n ≡ with_units L n (sa k)) → ((n k : ℕ) → sb n ≡ with_units L n (sb k))
    → ((n : ℕ) → IsDry L (sa n) → ⊥) → ((n : ℕ) → IsDry L (sb n) → ⊥) → Spent L sa sb f [] [] [] (sa f) (sb f) f
opened L sa sb f p q i j = record {
  n = zero;
  m = zero;
  sum = from-none-at-all f;
  bought_a = λ d h. ap sa (from-none d) ∙ p d f;
  bought_b = λ d h. ap sb (from-none d) ∙ q d f;
  dry_a = λ h. absurd (i f h);
  dry_b = λ h. absurd (j f h);
  reached = λ d k h l. Begun;
}
