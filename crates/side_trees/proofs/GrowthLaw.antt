-- Law 1 for every language.
use Rattle.std.proofs.Common.{◌≡◌, List, [], ◌∷◌, ◌++◌, ℕ, zero, suc, ◌+◌, ◌<◌, ◌≤◌, refl, sym, ap, ◌∙◌, subst, arith}
use Rattle.std.specs.Prelude.{⊤}
use Rattle.side_trees.specs.Trees.{Return, Act, Tell, Stop, Spend, Do, Ask, Done, Asked, Stopped, NoFuel, bind, run}
use Rattle.side_trees.specs.Sides.{Lang, TreeOf, Request, Reply, Item, Sends, Shows, Event, Got, Begin, EndedOf, Pending, Over, Await, Task, Texting, Serving, Failure, OutOfFuel, Beyond, Broken, Half, Going, Failed, settle, go, react, half, written, units}
use Rattle.side_trees.specs.Growing.{Extends, WithMore, Later, Growth}
use Rattle.side_trees.proofs.Lists.{extends-same, extends-one, extends-trans, shown-extends, sent-extends}

-- a side's own run, its record and its units at the end
abbrev pub own : (L : Lang) → ℕ → TreeOf L → L.S → List (Item L) → EndedOf L
own L u t s w = run L.expand (λ o is. Shows o ∷ is) u t s w

abbrev pub noted : (L : Lang) → EndedOf L → List (Item L)
noted L (Done a s u w) = w
noted L (Asked q k s u w) = w
noted L (Stopped x s u w) = w
noted L (NoFuel s w) = w

abbrev left : (L : Lang) → EndedOf L → ℕ
left L (Done a s u w) = u
left L (Asked q k s u w) = u
left L (Stopped x s u w) = u
left L (NoFuel s w) = zero

own-extends : (L : Lang) (u : ℕ) (t : TreeOf L) (s : L.S) (w : List (Item L)) → Extends (noted L (own L u t s w)) w
own-extends L u (Return a) s w = extends-same w
own-extends L u (Act g f) s w = own-extends L u (f s) (g s) w
own-extends L u (Tell o t) s w = extends-trans (noted L (own L u t s (Shows o ∷ w))) (Shows o ∷ w) w (own-extends L u t s (Shows o ∷ w)) (extends-one (Shows o) w)
own-extends L u (Stop x) s w = extends-same w
own-extends L zero (Spend c k) s w = extends-same w
own-extends L (suc u) (Spend c k) s w = own-extends L u (bind (L.expand c) k) s w
own-extends L zero (Do o c k) s w = extends-same w
own-extends L (suc u) (Do o c k) s w = own-extends L u (bind (L.expand o) (λ a. bind (L.expand (c a)) k)) s w
own-extends L u (Ask q c k) s w = extends-same w

below-suc : (n u : ℕ) → n ≤ u → n ≤ suc u
below-suc n u h = omega arith

same-below : (u : ℕ) → u ≤ u
same-below u = omega arith

none-below : (u : ℕ) → zero ≤ u
none-below u = omega arith

own-spends : (L : Lang) (u : ℕ) (t : TreeOf L) (s : L.S) (w : List (Item L)) → left L (own L u t s w) ≤ u
own-spends L u (Return a) s w = same-below u
own-spends L u (Act g f) s w = own-spends L u (f s) (g s) w
own-spends L u (Tell o t) s w = own-spends L u t s (Shows o ∷ w)
own-spends L u (Stop x) s w = same-below u
own-spends L zero (Spend c k) s w = same-below zero
own-spends L (suc u) (Spend c k) s w = below-suc (left L (own L u (bind (L.expand c) k) s w)) u (own-spends L u (bind (L.expand c) k) s w)
own-spends L zero (Do o c k) s w = same-below zero
own-spends L (suc u) (Do o c k) s w =
    let t : TreeOf L = bind (L.expand o) (λ a. bind (L.expand (c a)) k) in
    below-suc (left L (own L u t s w)) u (own-spends L u t s w)
own-spends L u (Ask q c k) s w = same-below u

-- what d more units change in a run
abbrev RunMore : (L : Lang) → ℕ → EndedOf L → EndedOf L → Type 0
RunMore L d (Done a s u w) y = y ≡ Done a s (u + d) w
RunMore L d (Asked q k s u w) y = y ≡ Asked q k s (u + d) w
RunMore L d (Stopped x s u w) y = y ≡ Stopped x s (u + d) w
RunMore L d (NoFuel s w) y = Extends (noted L y) w × (0 < d → left L y < d)

nothing-less : {X : Type 0} → 0 < 0 → X
nothing-less h = absurd (omega arith)

below-less : (n d : ℕ) → n ≤ d → n < suc d
below-less n d h = omega arith

zero-plus : (d : ℕ) → zero + d ≡ d
zero-plus d = omega arith

suc-plus : (u d : ℕ) → suc u + d ≡ suc (u + d)
suc-plus u d = omega arith

-- where a unit is due and d are there, one is spent
spend-lowers : (L : Lang) (d : ℕ) (c : L.C) (k : L.A → TreeOf L) (s : L.S) (w : List (Item L)) → 0 < d → left L (own L d (Spend c k) s w) < d
spend-lowers L zero c k s w h = nothing-less h
spend-lowers L (suc d) c k s w h = below-less (left L (own L d (bind (L.expand c) k) s w)) d (own-spends L d (bind (L.expand c) k) s w)

do-lowers : (L : Lang) (d : ℕ) (o : L.C) (c : L.A → L.C) (k : L.A → TreeOf L) (s : L.S) (w : List (Item L)) → 0 < d → left L (own L d (Do o c k) s w) < d
do-lowers L zero o c k s w h = nothing-less h
do-lowers L (suc d) o c k s w h =
    let t : TreeOf L = bind (L.expand o) (λ a. bind (L.expand (c a)) k) in
    below-less (left L (own L d t s w)) d (own-spends L d t s w)

own-more : (L : Lang) (d u : ℕ) (t : TreeOf L) (s : L.S) (w : List (Item L)) → RunMore L d (own L u t s w) (own L (u + d) t s w)
own-more L d u (Return a) s w = refl
own-more L d u (Act g f) s w = own-more L d u (f s) (g s) w
own-more L d u (Tell o t) s w = own-more L d u t s (Shows o ∷ w)
own-more L d u (Stop x) s w = refl
own-more L d zero (Spend c k) s w =
    subst (λ n. RunMore L d (NoFuel s w) (own L n (Spend c k) s w)) (sym (zero-plus d)) (own-extends L d (Spend c k) s w, spend-lowers L d c k s w)
own-more L d (suc u) (Spend c k) s w =
    subst (λ n. RunMore L d (own L u (bind (L.expand c) k) s w) (own L n (Spend c k) s w)) (sym (suc-plus u d)) (own-more L d u (bind (L.expand c) k) s w)
own-more L d zero (Do o c k) s w =
    subst (λ n. RunMore L d (NoFuel s w) (own L n (Do o c k) s w)) (sym (zero-plus d)) (own-extends L d (Do o c k) s w, do-lowers L d o c k s w)
own-more L d (suc u) (Do o c k) s w =
    let t : TreeOf L = bind (L.expand o) (λ a. bind (L.expand (c a)) k) in
    subst (λ n. RunMore L d (own L u t s w) (own L n (Do o c k) s w)) (sym (suc-plus u d)) (own-more L d u t s w)
own-more L d u (Ask q c k) s w = refl

-- settling adds to the record and keeps the units
settle-extends : (L : Lang) (task : Task L) (x : EndedOf L) → Extends (written L (settle L task x)) (noted L x)
settle-extends L Texting (Done a s u w) = extends-same w
settle-extends L (Serving p) (Done a s u w) = extends-one (Sends (Reply (L.box_a s a))) w
settle-extends L task (Asked q k s u w) = extends-one (Sends (Request (L.box_q s q))) w
settle-extends L task (Stopped x s u w) = extends-same w
settle-extends L task (NoFuel s w) = extends-same w

settle-units : (L : Lang) (task : Task L) (x : EndedOf L) → units L (settle L task x) ≡ left L x
settle-units L Texting (Done a s u w) = refl
settle-units L (Serving p) (Done a s u w) = refl
settle-units L task (Asked q k s u w) = refl
settle-units L task (Stopped x s u w) = refl
settle-units L task (NoFuel s w) = refl

settle-more : (L : Lang) (d : ℕ) (task : Task L) (x y : EndedOf L) → RunMore L d x y → WithMore L d (settle L task x) (settle L task y)
settle-more L d Texting (Done a s u w) y e = ap (settle L Texting) e
settle-more L d (Serving p) (Done a s u w) y e = ap (settle L (Serving p)) e
settle-more L d task (Asked q k s u w) y e = ap (settle L task) e
settle-more L d task (Stopped x s u w) y e = ap (settle L task) e
settle-more L d task (NoFuel s w) y (e, f) =
    (extends-trans (written L (settle L task y)) (noted L y) w (settle-extends L task y) e, λ h. subst (λ n. n < d) (sym (settle-units L task y)) (f h))

-- one reaction
pub go-extends : (L : Lang) (task : Task L) (u : ℕ) (t : TreeOf L) (s : L.S) (w : List (Item L)) → Extends (written L (go L task u t s w)) w
go-extends L task u t s w =
    extends-trans (written L (go L task u t s w)) (noted L (own L u t s w)) w (settle-extends L task (own L u t s w)) (own-extends L u t s w)

go-spends : (L : Lang) (task : Task L) (u : ℕ) (t : TreeOf L) (s : L.S) (w : List (Item L)) → units L (go L task u t s w) ≤ u
go-spends L task u t s w = subst (λ n. n ≤ u) (sym (settle-units L task (own L u t s w))) (own-spends L u t s w)

go-more : (L : Lang) (d : ℕ) (task : Task L) (u : ℕ) (t : TreeOf L) (s : L.S) (w : List (Item L)) → WithMore L d (go L task u t s w) (go L task (u + d) t s w)
go-more L d task u t s w = settle-more L d task (own L u t s w) (own L (u + d) t s w) (own-more L d u t s w)

abbrev pub serve : (L : Lang) → L.Req → TreeOf L
serve L r = Spend (L.read_q r) (λ a. Return a)

pub react-extends : (L : Lang) (x : Half L) (e : Event L) → Extends (written L (react L x e)) (written L x)
react-extends L (Going p s u w) (Got (Request r)) = go-extends L (Serving p) u (serve L r) s w
react-extends L (Going (Over a) s u w) (Got (Reply m)) = extends-same w
react-extends L (Going (Await task k) s u w) (Got (Reply m)) = go-extends L task u (k (L.read_a s m)) s w
react-extends L (Going (Over a) s u w) (Begin t) = go-extends L Texting u t s w
react-extends L (Going (Await task k) s u w) (Begin t) = extends-same w
react-extends L (Failed x s u w) e = extends-same w

pub react-spends : (L : Lang) (x : Half L) (e : Event L) → units L (react L x e) ≤ units L x
react-spends L (Going p s u w) (Got (Request r)) = go-spends L (Serving p) u (serve L r) s w
react-spends L (Going (Over a) s u w) (Got (Reply m)) = same-below u
react-spends L (Going (Await task k) s u w) (Got (Reply m)) = go-spends L task u (k (L.read_a s m)) s w
react-spends L (Going (Over a) s u w) (Begin t) = go-spends L Texting u t s w
react-spends L (Going (Await task k) s u w) (Begin t) = same-below u
react-spends L (Failed x s u w) e = same-below u

going-more : (L : Lang) (d : ℕ) (p : Pending L) (s : L.S) (u : ℕ) (w : List (Item L)) (e : Event L)
    → WithMore L d (react L (Going p s u w) e) (react L (Going p s (u + d) w) e)
going-more L d p s u w (Got (Request r)) = go-more L d (Serving p) u (serve L r) s w
going-more L d (Over a) s u w (Got (Reply m)) = refl
going-more L d (Await task k) s u w (Got (Reply m)) = go-more L d task u (k (L.read_a s m)) s w
going-more L d (Over a) s u w (Begin t) = go-more L d Texting u t s w
going-more L d (Await task k) s u w (Begin t) = refl

at-most-less : (m n d : ℕ) → m ≤ n → n < d → m < d
at-most-less m n d h k = omega arith

react-more : (L : Lang) (d : ℕ) (x y : Half L) (e : Event L) → WithMore L d x y → WithMore L d (react L x e) (react L y e)
react-more L d (Going p s u w) y e h =
    subst (λ z. WithMore L d (react L (Going p s u w) e) (react L z e)) (sym h) (going-more L d p s u w e)
react-more L d (Failed OutOfFuel s u w) y e (h, k) = (
  extends-trans (written L (react L y e)) (written L y) w (react-extends L y e) h,
  λ more. at-most-less (units L (react L y e)) (units L y) d (react-spends L y e) (k more),
)
react-more L d (Failed (Beyond k) s u w) y e h = ap (λ z. react L z e) h
react-more L d (Failed Broken s u w) y e h = ap (λ z. react L z e) h

-- a list of events
pub half-in_turn : (L : Lang) (start : Half L) (new old : List (Event L)) → half L start (new ++ old) ≡ half L (half L start old) new
half-in_turn L start [] old = refl
half-in_turn L start (e ∷ es) old = ap (λ x. react L x e) (half-in_turn L start es old)

pub half-extends : (L : Lang) (start : Half L) (es : List (Event L)) → Extends (written L (half L start es)) (written L start)
half-extends L start [] = extends-same (written L start)
half-extends L start (e ∷ es) =
    extends-trans (written L (half L start (e ∷ es))) (written L (half L start es)) (written L start) (react-extends L (half L start es) e) (half-extends L start es)

at-most-trans : (m n d : ℕ) → m ≤ n → n ≤ d → m ≤ d
at-most-trans m n d h k = omega arith

pub half-spends : (L : Lang) (start : Half L) (es : List (Event L)) → units L (half L start es) ≤ units L start
half-spends L start [] = same-below (units L start)
half-spends L start (e ∷ es) =
    at-most-trans (units L (half L start (e ∷ es))) (units L (half L start es)) (units L start) (react-spends L (half L start es) e) (half-spends L start es)

pub half-more : (L : Lang) (p : Pending L) (s : L.S) (u d : ℕ) (w : List (Item L)) (es : List (Event L))
    → WithMore L d (half L (Going p s u w) es) (half L (Going p s (u + d) w) es)
half-more L p s u d w [] = refl
half-more L p s u d w (e ∷ es) = react-more L d (half L (Going p s u w) es) (half L (Going p s (u + d) w) es) e (half-more L p s u d w es)

pub half-failed : (L : Lang) (x : Failure L) (s : L.S) (u : ℕ) (w : List (Item L)) (es : List (Event L)) → half L (Failed x s u w) es ≡ Failed x s u w
half-failed L x s u w [] = refl
half-failed L x s u w (e ∷ es) = ap (λ y. react L y e) (half-failed L x s u w es)

-- a side out of fuel has no unit left
abbrev DryAtZero : (L : Lang) → Half L → Type 0
DryAtZero L (Going p s u w) = ⊤
DryAtZero L (Failed OutOfFuel s u w) = u ≡ zero
DryAtZero L (Failed (Beyond k) s u w) = ⊤
DryAtZero L (Failed Broken s u w) = ⊤

settle-dry : (L : Lang) (task : Task L) (x : EndedOf L) → DryAtZero L (settle L task x)
settle-dry L Texting (Done a s u w) = tt
settle-dry L (Serving p) (Done a s u w) = tt
settle-dry L task (Asked q k s u w) = tt
settle-dry L task (Stopped x s u w) = tt
settle-dry L task (NoFuel s w) = refl

react-dry : (L : Lang) (x : Half L) (e : Event L) → DryAtZero L x → DryAtZero L (react L x e)
react-dry L (Going p s u w) (Got (Request r)) h = settle-dry L (Serving p) (own L u (serve L r) s w)
react-dry L (Going (Over a) s u w) (Got (Reply m)) h = tt
react-dry L (Going (Await task k) s u w) (Got (Reply m)) h = settle-dry L task (own L u (k (L.read_a s m)) s w)
react-dry L (Going (Over a) s u w) (Begin t) h = settle-dry L Texting (own L u t s w)
react-dry L (Going (Await task k) s u w) (Begin t) h = tt
react-dry L (Failed x s u w) e h = h

half-dry : (L : Lang) (start : Half L) (es : List (Event L)) → DryAtZero L start → DryAtZero L (half L start es)
half-dry L start [] h = h
half-dry L start (e ∷ es) h = react-dry L (half L start es) e (half-dry L start es h)

less-at-most : (d : ℕ) (m n : ℕ) → m ≤ n → (0 < d → n < d) → (0 < d → m < d)
less-at-most d m n h f more = at-most-less m n d h (f more)

half-later : (L : Lang) (d : ℕ) (x y : Half L) (es : List (Event L)) → DryAtZero L x → units L y ≤ units L x + d → WithMore L d x y → Later L d x (half L y es)
half-later L d (Going p s u w) y es z b h = (
  subst (λ l. Extends (written L (half L y es)) l) (ap (written L) h) (half-extends L y es),
  at-most-trans (units L (half L y es)) (units L y) (u + d) (half-spends L y es) b,
)
half-later L d (Failed OutOfFuel s u w) y es z b (h, k) = (
  z,
  extends-trans (written L (half L y es)) (written L y) w (half-extends L y es) h,
  at-most-trans (units L (half L y es)) (units L y) d (half-spends L y es) (subst (λ n. units L y ≤ n) (ap (λ n. n + d) z ∙ zero-plus d) b),
  less-at-most d (units L (half L y es)) (units L y) (half-spends L y es) k,
)
half-later L d (Failed (Beyond k) s u w) y es z b h = ap (λ v. half L v es) h ∙ half-failed L (Beyond k) s (u + d) w es
half-later L d (Failed Broken s u w) y es z b h = ap (λ v. half L v es) h ∙ half-failed L Broken s (u + d) w es

plus-zero : (u : ℕ) → u + zero ≡ u
plus-zero u = omega arith

same-and-none : (u : ℕ) → u ≤ u + zero
same-and-none u = omega arith

less-below : (n d v : ℕ) → (0 < suc d → n < suc d) → n ≤ v + suc d
less-below n d v f = let h : n < suc d = f (omega arith) in omega arith

-- more units leave at most as many more
more-below : (L : Lang) (d : ℕ) (x y : Half L) → WithMore L (suc d) x y → units L y ≤ units L x + suc d
more-below L d (Going p s u w) y h = subst (λ n. n ≤ u + suc d) (sym (ap (units L) h)) (same-below (u + suc d))
more-below L d (Failed OutOfFuel s u w) y (h, k) = less-below (units L y) d u k
more-below L d (Failed (Beyond x) s u w) y h = subst (λ n. n ≤ u + suc d) (sym (ap (units L) h)) (same-below (u + suc d))
more-below L d (Failed Broken s u w) y h = subst (λ n. n ≤ u + suc d) (sym (ap (units L) h)) (same-below (u + suc d))

half-below : (L : Lang) (p : Pending L) (s : L.S) (u d : ℕ) (w : List (Item L)) (es : List (Event L))
    → units L (half L (Going p s (u + d) w) es) ≤ units L (half L (Going p s u w) es) + d
half-below L p s u zero w es =
    subst (λ n. units L (half L (Going p s n w) es) ≤ units L (half L (Going p s u w) es) + zero) (sym (plus-zero u)) (same-and-none (units L (half L (Going p s u w) es)))
half-below L p s u (suc d) w es =
    more-below L d (half L (Going p s u w) es) (half L (Going p s (u + suc d) w) es) (half-more L p s u (suc d) w es)

pub half-grows : (L : Lang) (p : Pending L) (s : L.S) (u d : ℕ) (w : List (Item L)) (new old : List (Event L))
    → Later L d (half L (Going p s u w) old) (half L (Going p s (u + d) w) (new ++ old))
half-grows L p s u d w new old =
    subst (λ z. Later L d (half L (Going p s u w) old) z) (sym (half-in_turn L (Going p s (u + d) w) new old)) (
    half-later L d (half L (Going p s u w) old) (half L (Going p s (u + d) w) old) new
    (half-dry L (Going p s u w) old (tt)) (half-below L p s u d w old) (half-more L p s u d w old))

-- law 1
pub growth : (L : Lang) → Growth L
growth L = record {
  in_turn = half-in_turn L;
  writes_on = λ start new old. subst (λ x. Extends (written L x) (written L (half L start old))) (sym (half-in_turn L start new old)) (half-extends L (half L start old) new);
  prints_on = λ start new old. shown-extends L (written L (half L start (new ++ old))) (written L (half L start old))
      (subst (λ x. Extends (written L x) (written L (half L start old))) (sym (half-in_turn L start new old)) (half-extends L (half L start old) new));
  sends_on = λ start new old. sent-extends L (written L (half L start (new ++ old))) (written L (half L start old))
      (subst (λ x. Extends (written L x) (written L (half L start old))) (sym (half-in_turn L start new old)) (half-extends L (half L start old) new));
  spends_on = λ start new old. subst (λ x. units L x ≤ units L (half L start old)) (sym (half-in_turn L start new old)) (half-spends L (half L start old) new);
  more_units = half-more L;
  grows = half-grows L;
}
