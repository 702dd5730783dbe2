-- Two sides that share their units come to rest, and for each course there is such a pair.
use Rattle.std.proofs.Common.{◌≡◌, List, [], ◌∷◌, ℕ, zero, suc, ◌+◌, ◌*◌, ◌≤◌, Bool, true, false, ◌&&◌, refl, sym, ap, ◌∙◌, subst, arith}
use Rattle.std.specs.Prelude.{length}
use Rattle.side_trees.specs.Sides.{Lang, TreeOf, Event, Got, Begin, Over, Await, Half, Going, Failed, written, units, got, sent}
use Rattle.side_trees.specs.SharedRun.{Side, A, B, Two, part, Heap, Entry, Text, begun, Course, Rests, Leaves, Dry, log_of, may_begin, text_if, one_text, one}
use Rattle.side_trees.specs.Growing.{Extends}
use Rattle.side_trees.specs.Joining.{starts, MayBegin, OneIsTwo}
use Rattle.side_trees.specs.SharedUnits.{with_units, drawing, AllRead, Drawn, Opened, A_takes, B_takes, A_starts, B_starts, EndsWith, PairRests, PairComes}
use Rattle.side_trees.proofs.Lists.{extends-same, extends-one, extends-trans}
use Rattle.side_trees.proofs.OlderEnds.{extends-none, Unread, None, More, unread}
use Rattle.side_trees.proofs.RestLaw.{resting, read-was-written, Written, not-beyond-a, not-beyond-b, one-less-a, one-less-b, enough}
use Rattle.side_trees.proofs.InTurnLaw.{Turned, all-turned, if-begun}
use Rattle.side_trees.proofs.DrawnUnits.{Spent, written-a}
use Rattle.side_trees.proofs.SharedUnitsLaw.{spent-of, pair_ends_as_one}

-- the units of both are f at most, so the bound of a schedule is one of the pair
within-f : (n m u f k l : ℕ) → n + m + u ≡ f → l ≤ 2 * ((n + zero) + (m + zero)) + 3 * k → l ≤ 2 * f + 3 * k
within-f n m u f k l e h = omega arith

abbrev Pair : (L : Lang) (H : Heap L) (outs : Two L.A) (w : H.W) (f : ℕ) (xs : List (Text L)) (ra rb : List (Event L)) (x y : Half L) (u : ℕ) → Type 0
Pair L H outs w f xs ra rb x y u = Drawn L (starts L H outs w A f) (starts L H outs w B f) f xs ra rb x y u

pair-bounded : (L : Lang) (H : Heap L) (two : OneIsTwo L H) (outs : Two L.A) (w : H.W) (f : ℕ) {xs : List (Text L)} {ra rb : List (Event L)} {x y : Half L} {u : ℕ}
    → Pair L H outs w f xs ra rb x y u → length ra + length rb ≤ 2 * f + 3 * length xs
pair-bounded L H two outs w f {xs} {ra} {rb} {x} {y} {u} r =
    let s : Spent L (starts L H outs w A) (starts L H outs w B) f xs ra rb x y u = spent-of L H two outs w f r in
    within-f s.n s.m u f (length xs) (length ra + length rb) s.sum (
    (resting L).ends (part A outs) (part B outs) (H.seen_by A w) (H.seen_by B w) (s.n + zero) (s.m + zero) xs ra rb (s.reached zero zero (λ h. refl) (λ h. refl)))

pair-written : (L : Lang) (H : Heap L) (two : OneIsTwo L H) (outs : Two L.A) (w : H.W) (f : ℕ) {xs : List (Text L)} {ra rb : List (Event L)} {x y : Half L} {u : ℕ}
    → Pair L H outs w f xs ra rb x y u → Extends (sent L (written L y)) (got L ra) × Extends (sent L (written L x)) (got L rb)
pair-written L H two outs w f {xs} {ra} {rb} {x} {y} {u} r =
    let s : Spent L (starts L H outs w A) (starts L H outs w B) f xs ra rb x y u = spent-of L H two outs w f r in
    let g : Written L (starts L H outs w A (s.n + zero)) (starts L H outs w B (s.m + zero)) ra rb =
    read-was-written L (starts L H outs w A (s.n + zero)) (starts L H outs w B (s.m + zero)) (s.reached zero zero (λ h. refl) (λ h. refl)) in (
      subst (λ l. Extends (sent L l) (got L ra)) (written-a L (starts L H outs w B) s.m rb y zero s.bought_b (λ h. refl)) g.0,
      subst (λ l. Extends (sent L l) (got L rb)) (written-a L (starts L H outs w A) s.n ra x zero s.bought_a (λ h. refl)) g.1,
    )

-- one read after the other
record Rested (L : Lang) (H : Heap L) (outs : Two L.A) (w : H.W) (f : ℕ) (xs : List (Text L)) (ra rb : List (Event L)) : Type 0 where
  qa : List (Event L)
  qb : List (Event L)
  x : Half L
  y : Half L
  u : ℕ
  more_a : Extends qa ra
  more_b : Extends qb rb
  pair : Pair L H outs w f xs qa qb x y u
  rest : AllRead L x y qa qb

after-a : (L : Lang) (H : Heap L) (outs : Two L.A) (w : H.W) (f : ℕ) (xs : List (Text L)) (ra rb : List (Event L)) (e : Event L) → Rested L H outs w f xs (e ∷ ra) rb → Rested L H outs w f xs ra rb
after-a L H outs w f xs ra rb e r = record {
  qa = r.qa;
  qb = r.qb;
  x = r.x;
  y = r.y;
  u = r.u;
  more_a = extends-trans r.qa (e ∷ ra) ra r.more_a (extends-one e ra);
  more_b = r.more_b;
  pair = r.pair;
  rest = r.rest;
}

after-b : (L : Lang) (H : Heap L) (outs : Two L.A) (w : H.W) (f : ℕ) (xs : List (Text L)) (ra rb : List (Event L)) (e : Event L) → Rested L H outs w f xs ra (e ∷ rb) → Rested L H outs w f xs ra rb
after-b L H outs w f xs ra rb e r = record {
  qa = r.qa;
  qb = r.qb;
  x = r.x;
  y = r.y;
  u = r.u;
  more_a = r.more_a;
  more_b = extends-trans r.qb (e ∷ rb) rb r.more_b (extends-one e rb);
  pair = r.pair;
  rest = r.rest;
}

abbrev ToRead : (L : Lang) (x y : Half L) (ra rb : List (Event L)) → Type 0
ToRead L x y ra rb = Unread (sent L (written L y)) (got L ra) × Unread (sent L (written L x)) (got L rb)

to-read : (L : Lang) (H : Heap L) (two : OneIsTwo L H) (outs : Two L.A) (w : H.W) (f : ℕ) {xs : List (Text L)} {ra rb : List (Event L)} {x y : Half L} {u : ℕ}
    → Pair L H outs w f xs ra rb x y u → ToRead L x y ra rb
to-read L H two outs w f {xs} {ra} {rb} {x} {y} {u} r =
    let g : Extends (sent L (written L y)) (got L ra) × Extends (sent L (written L x)) (got L rb) = pair-written L H two outs w f r in
    (unread (sent L (written L y)) (got L ra) g.0, unread (sent L (written L x)) (got L rb) g.1)

carried : (L : Lang) (H : Heap L) (two : OneIsTwo L H) (outs : Two L.A) (w : H.W) (f n : ℕ) (xs : List (Text L)) (ra rb : List (Event L)) (x y : Half L) (u : ℕ)
    → Pair L H outs w f xs ra rb x y u → 2 * f + 3 * length xs ≤ (length ra + length rb) + n → ToRead L x y ra rb → Rested L H outs w f xs ra rb
carried L H two outs w f n xs ra rb x y u r h (None p, None q) =
    record { qa = ra; qb = rb; x = x; y = y; u = u; more_a = extends-same ra; more_b = extends-same rb; pair = r; rest = (p, q) }
carried L H two outs w f zero xs ra rb x y u r h (More m p, q) =
    absurd (not-beyond-a (2 * f + 3 * length xs) (length ra) (length rb) (pair-bounded L H two outs w f (A_takes m r p)) h)
carried L H two outs w f zero xs ra rb x y u r h (None p, More m q) =
    absurd (not-beyond-b (2 * f + 3 * length xs) (length ra) (length rb) (pair-bounded L H two outs w f (B_takes m r q)) h)
carried L H two outs w f (suc n) xs ra rb x y u r h (More m p, q) =
    let k : Pair L H outs w f xs (Got m ∷ ra) rb (drawing L u x (Got m)) y (units L (drawing L u x (Got m))) = A_takes m r p in
    after-a L H outs w f xs ra rb (Got m) (
    carried L H two outs w f n xs (Got m ∷ ra) rb (drawing L u x (Got m)) y (units L (drawing L u x (Got m))) k
    (one-less-a (2 * f + 3 * length xs) (length ra) (length rb) n h) (to-read L H two outs w f k))
carried L H two outs w f (suc n) xs ra rb x y u r h (None p, More m q) =
    let k : Pair L H outs w f xs ra (Got m ∷ rb) x (drawing L u y (Got m)) (units L (drawing L u y (Got m))) = B_takes m r q in
    after-b L H outs w f xs ra rb (Got m) (
    carried L H two outs w f n xs ra (Got m ∷ rb) x (drawing L u y (Got m)) (units L (drawing L u y (Got m))) k
    (one-less-b (2 * f + 3 * length xs) (length ra) (length rb) n h) (to-read L H two outs w f k))

rested : (L : Lang) (H : Heap L) (two : OneIsTwo L H) (outs : Two L.A) (w : H.W) (f : ℕ) (xs : List (Text L)) (ra rb : List (Event L)) (x y : Half L) (u : ℕ)
    → Pair L H outs w f xs ra rb x y u → Rested L H outs w f xs ra rb
rested L H two outs w f xs ra rb x y u r =
    carried L H two outs w f (2 * f + 3 * length xs) xs ra rb x y u r (enough (2 * f + 3 * length xs) (length ra + length rb)) (to-read L H two outs w f r)

pub pair_rests : (L : Lang) (H : Heap L) → OneIsTwo L H → PairRests L H
pair_rests L H two outs w f xs ra rb x y u r =
    let g : Rested L H outs w f xs ra rb = rested L H two outs w f xs ra rb x y u r in
    (g.qa, g.qb, g.x, g.y, g.u, g.more_a, g.more_b, g.pair, g.rest)

-- text by text
abbrev Come : (L : Lang) (H : Heap L) (outs : Two L.A) (w : H.W) (f : ℕ) (xs : List (Text L)) → Type 0
Come L H outs w f xs = Rested L H outs w f xs [] []

forget : (L : Lang) (H : Heap L) (outs : Two L.A) (w : H.W) (f : ℕ) (xs : List (Text L)) (ra rb : List (Event L)) → Rested L H outs w f xs ra rb → Come L H outs w f xs
forget L H outs w f xs ra rb r =
    record { qa = r.qa; qb = r.qb; x = r.x; y = r.y; u = r.u; more_a = extends-none r.qa; more_b = extends-none r.qb; pair = r.pair; rest = r.rest }

may-be : (L : Lang) (d : ℕ) (x : Half L) → MayBegin L (with_units L d x) → MayBegin L x
may-be L d (Going (Over a) s u w) h = h
may-be L d (Going (Await task k) s u w) h = absurd h
may-be L d (Failed y s u w) h = absurd h

left-true : (a b : Bool) → (a && b) ≡ true → a ≡ true
left-true true b h = refl
left-true false b h = absurd cc

right-true : (a b : Bool) → (a && b) ≡ true → b ≡ true
right-true true b h = h
right-true false b h = absurd cc

-- a text more, where the pair is at rest and both sides may begin one
text-more : (L : Lang) (H : Heap L) (two : OneIsTwo L H) (outs : Two L.A) (w : H.W) (f : ℕ) (xs : List (Text L)) (h : Side) (t : TreeOf L)
    (c : Come L H outs w f xs) → MayBegin L c.x → MayBegin L c.y → Come L H outs w f (record { side = h; tree = t } ∷ xs)
text-more L H two outs w f xs A t c i j =
    forget L H outs w f (record { side = A; tree = t } ∷ xs) (Begin t ∷ c.qa) c.qb (
    rested L H two outs w f (record { side = A; tree = t } ∷ xs) (Begin t ∷ c.qa) c.qb (drawing L c.u c.x (Begin t)) c.y (units L (drawing L c.u c.x (Begin t))) (A_starts t c.pair c.rest i j))
text-more L H two outs w f xs B t c i j =
    forget L H outs w f (record { side = B; tree = t } ∷ xs) c.qa (Begin t ∷ c.qb) (
    rested L H two outs w f (record { side = B; tree = t } ∷ xs) c.qa (Begin t ∷ c.qb) c.x (drawing L c.u c.y (Begin t)) (units L (drawing L c.u c.y (Begin t))) (B_starts t c.pair c.rest i j))

ends-of : (L : Lang) (H : Heap L) (two : OneIsTwo L H) (outs : Two L.A) (w : H.W) (f : ℕ) (xs : List (Text L)) (c : Come L H outs w f xs) → EndsWith L H (one L H outs w f xs) c.x c.y c.u
ends-of L H two outs w f xs c = ((pair_ends_as_one L H two outs w f xs c.qa c.qb c.x c.y c.u c.pair).ends c.rest).2

text-come : (L : Lang) (H : Heap L) (two : OneIsTwo L H) (outs : Two L.A) (w : H.W) (f : ℕ) (t : Text L) (xs : List (Text L)) (o : Two L.A) (v : H.W) (k : ℕ) (talk : List (Entry L))
    → may_begin L o ≡ true → one L H outs w f xs ≡ Rests o v k talk → Come L H outs w f xs → Come L H outs w f (t ∷ xs)
text-come L H two outs w f t xs o v k talk b e c =
    let end : EndsWith L H (Rests o v k talk) c.x c.y c.u = subst (λ i. EndsWith L H i c.x c.y c.u) e (ends-of L H two outs w f xs c) in
    let a : MayBegin L c.x = may-be L k c.x (subst (MayBegin L) (sym end.1) (left-true (L.goes_on o.of_a) (L.goes_on o.of_b) b)) in
    let d : MayBegin L c.y = may-be L k c.y (subst (MayBegin L) (sym end.2) (right-true (L.goes_on o.of_a) (L.goes_on o.of_b) b)) in
    text-more L H two outs w f xs t.side t.tree c a d

come-if : (L : Lang) (H : Heap L) (two : OneIsTwo L H) (outs : Two L.A) (w : H.W) (f : ℕ) (t : Text L) (xs : List (Text L)) (o : Two L.A) (v : H.W) (k : ℕ) (talk : List (Entry L)) (b : Bool)
    → may_begin L o ≡ b → one L H outs w f xs ≡ Rests o v k talk → (may_begin L o ≡ true → begun L talk ≡ xs) → Come L H outs w f (begun L talk)
    → Come L H outs w f (begun L (log_of L H (text_if L H b t o v k talk)))
come-if L H two outs w f t xs o v k talk true i e whole c =
    subst (Come L H outs w f) (sym (if-begun L H true t o v k talk refl ∙ ap (λ l. t ∷ l) (whole i)))
    (text-come L H two outs w f t xs o v k talk i e (subst (Come L H outs w f) (whole i) c))
come-if L H two outs w f t xs o v k talk false i e whole c = c

come-next : (L : Lang) (H : Heap L) (two : OneIsTwo L H) (outs : Two L.A) (w : H.W) (f : ℕ) (t : Text L) (xs : List (Text L)) (course : Course L H)
    → one L H outs w f xs ≡ course → Turned L H xs course → Come L H outs w f (begun L (log_of L H course)) → Come L H outs w f (begun L (log_of L H (one_text L H t course)))
come-next L H two outs w f t xs (Rests o v k talk) e (first, whole) c = come-if L H two outs w f t xs o v k talk (may_begin L o) refl e whole c
come-next L H two outs w f t xs (Leaves k v u talk) e g c = c
come-next L H two outs w f t xs (Dry v talk) e g c = c

come : (L : Lang) (H : Heap L) (two : OneIsTwo L H) (outs : Two L.A) (w : H.W) (f : ℕ) (texts : List (Text L)) → Come L H outs w f (begun L (log_of L H (one L H outs w f texts)))
come L H two outs w f [] = rested L H two outs w f [] [] [] (starts L H outs w A f) (starts L H outs w B f) f Opened
come L H two outs w f (t ∷ xs) = come-next L H two outs w f t xs (one L H outs w f xs) refl (all-turned L H outs w f xs) (come L H two outs w f xs)

pub pair_comes : (L : Lang) (H : Heap L) → OneIsTwo L H → PairComes L H
pair_comes L H two outs w f texts =
    let c : Come L H outs w f (begun L (log_of L H (one L H outs w f texts))) = come L H two outs w f texts in
    (c.qa, c.qb, c.x, c.y, c.u, c.pair, c.rest)
