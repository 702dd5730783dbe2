-- Law 3 for every language and every heap, from law 2.
use Rattle.std.proofs.Common.{◌≡◌, List, [], ◌∷◌, ℕ, zero, ◌+◌, ◌≤◌, refl, sym, ap, ◌∙◌, subst, arith}
use Rattle.std.specs.Prelude.{◌-◌}
use Rattle.side_trees.specs.Sides.{Lang, Message, Event, Over, Await, OutOfFuel, Beyond, Broken, Half, Going, Failed, half, written, got, sent}
use Rattle.side_trees.specs.SharedRun.{Side, A, B, other, Two, part, Heap, Entry, Text, wrote, begun, Course, Rests, Leaves, Dry, one}
use Rattle.side_trees.specs.Growing.{Extends, WithMore}
use Rattle.side_trees.specs.Joining.{Sides, starts, waits, fails, MayBegin, Causal, CausalAt, Comes, ComesExactly, Joined, OneIsTwo}
use Rattle.side_trees.specs.Schedules.{Quiet, HasFuel, Reached, Begun, A_reads, B_reads, A_begins, B_begins, Follows, All, Schedules, EndsAt, RunsOutAt, AnyUnits, FewUnits, PairIsOne, OneIsPair}
use Rattle.side_trees.proofs.Lists.{extends-same, extends-trans, sent-extends}
use Rattle.side_trees.proofs.Following.{schedules}
use Rattle.side_trees.proofs.GrowthLaw.{half-more}

-- What more units change at a side: its record only grows, and it stays where the side was not out of fuel.
grown-record : (L : Lang) (d : ℕ) (x y : Half L) → WithMore L d x y → Extends (written L y) (written L x)
grown-record L d (Going p s u w) y h = subst (λ l. Extends l w) (sym (ap (written L) h)) (extends-same w)
grown-record L d (Failed OutOfFuel s u w) y h = h.0
grown-record L d (Failed (Beyond k) s u w) y h = subst (λ l. Extends l w) (sym (ap (written L) h)) (extends-same w)
grown-record L d (Failed Broken s u w) y h = subst (λ l. Extends l w) (sym (ap (written L) h)) (extends-same w)

pub kept-record : (L : Lang) (d : ℕ) (x y : Half L) → HasFuel L x → WithMore L d x y → written L y ≡ written L x
kept-record L d (Going p s u w) y f h = ap (written L) h
kept-record L d (Failed OutOfFuel s u w) y f h = absurd f
kept-record L d (Failed (Beyond k) s u w) y f h = ap (written L) h
kept-record L d (Failed Broken s u w) y f h = ap (written L) h

begins-with-fuel : (L : Lang) (x : Half L) → MayBegin L x → HasFuel L x
begins-with-fuel L (Going p s u w) i = tt
begins-with-fuel L (Failed x s u w) i = absurd i

still-may-begin : (L : Lang) (d : ℕ) (x y : Half L) → MayBegin L x → WithMore L d x y → MayBegin L y
still-may-begin L d (Going (Over a) s u w) y i h = subst (MayBegin L) (sym h) i
still-may-begin L d (Going (Await task k) s u w) y i h = absurd i
still-may-begin L d (Failed x s u w) y i h = absurd i

-- y is x with d more units, over any events
abbrev pub More : (L : Lang) → ℕ → Half L → Half L → Type 0
More L d x y = (es : List (Event L)) → WithMore L d (half L x es) (half L y es)

quiet-with-more : (L : Lang) (a b a' b' : Half L) (d d' : ℕ) (ra rb : List (Event L)) → More L d a a' → More L d' b b'
    → HasFuel L (half L a ra) → HasFuel L (half L b rb) → Quiet L a b ra rb → Quiet L a' b' ra rb
quiet-with-more L a b a' b' d d' ra rb p q i j (x, y) = (
  ap (sent L) (kept-record L d' (half L b rb) (half L b' rb) j (q rb)) ∙ x,
  ap (sent L) (kept-record L d (half L a ra) (half L a' ra) i (p ra)) ∙ y,
)

-- a schedule is one with more units
still-sent : (L : Lang) (d : ℕ) (x y : Half L) (es : List (Event L)) (ms : List (Message L)) → More L d x y
    → Extends (sent L (written L (half L x es))) ms → Extends (sent L (written L (half L y es))) ms
still-sent L d x y es ms p h =
    extends-trans (sent L (written L (half L y es))) (sent L (written L (half L x es))) ms
    (sent-extends L (written L (half L y es)) (written L (half L x es)) (grown-record L d (half L x es) (half L y es) (p es))) h

pub reach-more : (L : Lang) (a b a' b' : Half L) (d d' : ℕ) {xs : List (Text L)} {ra rb : List (Event L)} → More L d a a' → More L d' b b'
    → Reached L a b xs ra rb → Reached L a' b' xs ra rb
reach-more L a b a' b' d d' p q Begun = Begun
reach-more L a b a' b' d d' p q (A_reads {ra = ra} {rb = rb} m r h) = A_reads m (reach-more L a b a' b' d d' p q r) (still-sent L d' b b' rb (m ∷ got L ra) q h)
reach-more L a b a' b' d d' p q (B_reads {ra = ra} {rb = rb} m r h) = B_reads m (reach-more L a b a' b' d d' p q r) (still-sent L d a a' ra (m ∷ got L rb) p h)
reach-more L a b a' b' d d' p q (A_begins {ra = ra} {rb = rb} t r k i j) =
    A_begins t (reach-more L a b a' b' d d' p q r)
    (quiet-with-more L a b a' b' d d' ra rb p q (begins-with-fuel L (half L a ra) i) (begins-with-fuel L (half L b rb) j) k)
    (still-may-begin L d (half L a ra) (half L a' ra) i (p ra)) (still-may-begin L d' (half L b rb) (half L b' rb) j (q rb))
reach-more L a b a' b' d d' p q (B_begins {ra = ra} {rb = rb} t r k i j) =
    B_begins t (reach-more L a b a' b' d d' p q r)
    (quiet-with-more L a b a' b' d d' ra rb p q (begins-with-fuel L (half L a ra) i) (begins-with-fuel L (half L b rb) j) k)
    (still-may-begin L d (half L a ra) (half L a' ra) i (p ra)) (still-may-begin L d' (half L b rb) (half L b' rb) j (q rb))

-- so what holds of schedules with more units holds with fewer
follows-with-less : (L : Lang) (a b a' b' : Half L) (d d' : ℕ) (talk : List (Entry L)) (ra rb : List (Event L)) → More L d a a' → More L d' b b'
    → Follows L a' b' talk ra rb → Follows L a b talk ra rb
follows-with-less L a b a' b' d d' talk ra rb p q (v, w, x, y) = (
  v,
  w,
  extends-trans (wrote L A talk) (written L (half L a' ra)) (written L (half L a ra)) x (grown-record L d (half L a ra) (half L a' ra) (p ra)),
  extends-trans (wrote L B talk) (written L (half L b' rb)) (written L (half L b rb)) y (grown-record L d' (half L b rb) (half L b' rb) (q rb)),
)

pub follows-of : (L : Lang) (a b a' b' : Half L) (d d' : ℕ) (talk : List (Entry L)) (ea eb : Half L) → More L d a a' → More L d' b b'
    → Schedules L talk a' b' ea eb → (ra rb : List (Event L)) → Reached L a b (begun L talk) ra rb → Follows L a b talk ra rb
follows-of L a b a' b' d d' talk ea eb p q (o, k, all) ra rb r =
    follows-with-less L a b a' b' d d' talk ra rb p q (all ra rb (reach-more L a b a' b' d d' p q r)).0

pub all-of : (L : Lang) (a b a' b' : Half L) (d d' : ℕ) (talk : List (Entry L)) (ea eb : Half L) → More L d a a' → More L d' b b'
    → Schedules L talk a' b' ea eb → (ra rb : List (Event L)) → Reached L a b (begun L talk) ra rb
    → Quiet L a b ra rb → HasFuel L (half L a ra) → HasFuel L (half L b rb) → All L talk ra rb
all-of L a b a' b' d d' talk ea eb p q (o, k, all) ra rb r quiet i j =
    ((all ra rb (reach-more L a b a' b' d d' p q r)).1 (quiet-with-more L a b a' b' d d' ra rb p q i j quiet)).0

-- sides by their units
turned : (n x : ℕ) → n + x ≡ x + n
turned n x = omega arith

pub start-more : (L : Lang) (H : Heap L) (outs : Two L.A) (w : H.W) (h : Side) (n x : ℕ) → More L n (starts L H outs w h x) (starts L H outs w h (n + x))
start-more L H outs w h n x es =
    subst (λ k. WithMore L n (half L (starts L H outs w h x) es) (half L (starts L H outs w h k) es)) (sym (turned n x))
    (half-more L (Over (part h outs)) (H.seen_by h w) x n [] es)

up-to : (x n : ℕ) → x ≤ n → x + (n - x) ≡ n
up-to x n h = omega arith

pub start-up-to : (L : Lang) (H : Heap L) (outs : Two L.A) (w : H.W) (h : Side) (x n : ℕ) → x ≤ n → More L (n - x) (starts L H outs w h x) (starts L H outs w h n)
start-up-to L H outs w h x n less es =
    subst (λ k. WithMore L (n - x) (half L (starts L H outs w h x) es) (half L (starts L H outs w h k) es)) (up-to x n less)
    (half-more L (Over (part h outs)) (H.seen_by h w) x (n - x) [] es)

pub any-units : (L : Lang) (H : Heap L) (outs : Two L.A) (w : H.W) (talk : List (Entry L)) (n m : ℕ) (ea eb : ℕ → Half L)
    → ((d d' : ℕ) → Schedules L talk (starts L H outs w A (n + d)) (starts L H outs w B (m + d')) (ea d) (eb d')) → AnyUnits L (starts L H outs w) talk
any-units L H outs w talk n m ea eb all x y ra rb r = (
  follows-of L (starts L H outs w A x) (starts L H outs w B y) (starts L H outs w A (n + x)) (starts L H outs w B (m + y)) n m talk (ea x) (eb y)
      (start-more L H outs w A n x) (start-more L H outs w B m y) (all x y) ra rb r,
  all-of L (starts L H outs w A x) (starts L H outs w B y) (starts L H outs w A (n + x)) (starts L H outs w B (m + y)) n m talk (ea x) (eb y)
      (start-more L H outs w A n x) (start-more L H outs w B m y) (all x y) ra rb r,
)

pub any-units-at : (L : Lang) (H : Heap L) (outs : Two L.A) (w : H.W) (talk : List (Entry L)) (h : Side) (n m : ℕ) (e e' : ℕ → Half L)
    → EndsAt L (starts L H outs w) talk h n m e e' → AnyUnits L (starts L H outs w) talk
any-units-at L H outs w talk A n m e e' all = any-units L H outs w talk n m e e' all
any-units-at L H outs w talk B n m e e' all = any-units L H outs w talk m n e' e all

few-units-at : (L : Lang) (H : Heap L) (outs : Two L.A) (w : H.W) (talk : List (Entry L)) (h : Side) (n m : ℕ) (e : Half L) (e' : ℕ → Half L)
    → RunsOutAt L (starts L H outs w) talk h n m e e' → FewUnits L (starts L H outs w) talk h n
few-units-at L H outs w talk A n m e e' all = λ x y less ra rb r.
    follows-of L (starts L H outs w A x) (starts L H outs w B y) (starts L H outs w A n) (starts L H outs w B (m + y)) (n - x) m talk e (e' y)
    (start-up-to L H outs w A x n less) (start-more L H outs w B m y) (all y) ra rb r
few-units-at L H outs w talk B n m e e' all = λ x y less ra rb r.
    follows-of L (starts L H outs w A x) (starts L H outs w B y) (starts L H outs w A (m + x)) (starts L H outs w B n) m (n - y) talk (e' x) e
    (start-more L H outs w A m x) (start-up-to L H outs w B y n less) (all x) ra rb r

-- where law 2 says how two sides come over the log, every schedule ends so
pub ends-at : (L : Lang) (start : Sides L) (talk : List (Entry L)) (h : Side) (n m : ℕ) (e e' : ℕ → Half L)
    → Comes L start h n talk e → Comes L start (other h) m talk e' → CausalAt L start h n m talk
    → ((d : ℕ) → written L (e d) ≡ wrote L h talk) → ((d : ℕ) → written L (e' d) ≡ wrote L (other h) talk) → EndsAt L start talk h n m e e'
ends-at L start talk A n m e e' p q c i j = λ d d'. schedules L talk (start A (n + d)) (start B (m + d')) (e d) (e' d') (c d d') (p d) (q d') (i d) (j d')
ends-at L start talk B n m e e' p q c i j = λ d d'. schedules L talk (start A (m + d)) (start B (n + d')) (e' d) (e d') (c d d') (q d) (p d') (j d) (i d')

none-more : (n : ℕ) → n + zero ≡ n
none-more n = omega arith

pub runs-out-at : (L : Lang) (start : Sides L) (talk : List (Entry L)) (h : Side) (n m : ℕ) (e : Half L) (e' : ℕ → Half L)
    → ComesExactly L start h n talk e → Comes L start (other h) m talk e' → CausalAt L start h n m talk
    → written L e ≡ wrote L h talk → ((d : ℕ) → written L (e' d) ≡ wrote L (other h) talk) → RunsOutAt L start talk h n m e e'
runs-out-at L start talk A n m e e' p q c i j = λ d.
    schedules L talk (start A n) (start B (m + d)) e (e' d) (subst (λ k. Causal L (start A k) (start B (m + d)) talk) (none-more n) (c zero d)) p (q d) i (j d)
runs-out-at L start talk B n m e e' p q c i j = λ d.
    schedules L talk (start A (m + d)) (start B n) (e' d) e (subst (λ k. Causal L (start A (m + d)) (start B k) talk) (none-more n) (c d zero)) (q d) p (j d) i

pair-is-one : (L : Lang) (H : Heap L) (outs : Two L.A) (w : H.W) (f : ℕ) (course : Course L H) → Joined L H (starts L H outs w) f course → PairIsOne L H (starts L H outs w) f course
pair-is-one L H outs w f (Rests last v u talk) (n, m, sum, (p, q, c)) =
    let all : EndsAt L (starts L H outs w) talk A n m (waits L H (Over last.of_a) A v talk) (waits L H (Over last.of_b) B v talk) =
    ends-at L (starts L H outs w) talk A n m (waits L H (Over last.of_a) A v talk) (waits L H (Over last.of_b) B v talk) p q c (λ d. refl) (λ d. refl) in
    (n, m, sum, all, any-units-at L H outs w talk A n m (waits L H (Over last.of_a) A v talk) (waits L H (Over last.of_b) B v talk) all)
pair-is-one L H outs w f (Leaves k v u talk) (h, n, m, p, sum, i, j, c) =
    let all : EndsAt L (starts L H outs w) talk h n m (fails L H (Beyond k) h v talk) (waits L H p (other h) v talk) =
    ends-at L (starts L H outs w) talk h n m (fails L H (Beyond k) h v talk) (waits L H p (other h) v talk) i j c (λ d. refl) (λ d. refl) in
    (h, n, m, p, sum, all, any-units-at L H outs w talk h n m (fails L H (Beyond k) h v talk) (waits L H p (other h) v talk) all)
pair-is-one L H outs w f (Dry v talk) (h, n, m, p, sum, i, j, c) =
    let all : RunsOutAt L (starts L H outs w) talk h n m (fails L H OutOfFuel h v talk zero) (waits L H p (other h) v talk) =
    runs-out-at L (starts L H outs w) talk h n m (fails L H OutOfFuel h v talk zero) (waits L H p (other h) v talk) i j c refl (λ d. refl) in
    (h, n, m, p, sum, all, few-units-at L H outs w talk h n m (fails L H OutOfFuel h v talk zero) (waits L H p (other h) v talk) all)

-- law 3
pub one_is_pair : (L : Lang) (H : Heap L) → OneIsTwo L H → OneIsPair L H
one_is_pair L H two outs w f texts = pair-is-one L H outs w f (one L H outs w f texts) (two outs w f texts)
