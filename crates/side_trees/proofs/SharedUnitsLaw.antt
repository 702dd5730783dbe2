-- Two sides that draw their units from one number end as the one interpreter does with that number.
use Rattle.std.proofs.Common.{◌≡◌, List, [], ◌∷◌, ℕ, zero, suc, ◌+◌, ◌-◌, ◌≤◌, Bool, true, false, ◌&&◌, refl, sym, ap, ◌∙◌, subst, arith}
use Rattle.std.specs.Prelude.{⊤, IsTrue}
use Rattle.side_trees.specs.Sides.{Lang, TreeOf, Message, Event, Got, Begin, Over, OutOfFuel, Beyond, Broken, Half, Going, Failed, react, half, written, units, got, sent}
use Rattle.side_trees.specs.SharedRun.{Side, A, B, Two, part, Heap, Entry, Text, wrote, heard, begun, Course, Rests, Leaves, Dry, log_of, may_begin, one_text, one}
use Rattle.side_trees.specs.Growing.{Extends, WithMore}
use Rattle.side_trees.specs.Joining.{Sides, starts, waits, fails, MayBegin, Joined, OneIsTwo}
use Rattle.side_trees.specs.Schedules.{Quiet, HasFuel, Reached, Begun, A_reads, B_reads, A_begins, B_begins, Follows, All, Schedules, AnyUnits}
use Rattle.side_trees.specs.SharedUnits.{with_units, drawing, AllRead, Drawn, Opened, A_takes, B_takes, A_starts, B_starts, EndsWith, PairEndsAsOne}
use Rattle.side_trees.proofs.GrowthLaw.{half-in_turn, half-spends, half-more}
use Rattle.side_trees.proofs.EverySchedule.{More, follows-of, any-units-at, ends-at, runs-out-at}
use Rattle.side_trees.proofs.InTurnLaw.{text-begun}
use Rattle.side_trees.proofs.DrawnUnits.{IsDry, Apart, AtLeast, Below, apart, DryOr, Is, IsNot, dry-or, Bought, bought-on, kept-units, kept-may-begin, kept-dry, dry-kept, Spent, written-a, Builds-a, Builds-b, step-a, step-b, takes-a, takes-b, starts-a, starts-b, opened, quiet-at-spent, reads-at}
use Rattle.side_trees.proofs.OneInFlight.{quiet-when-dry-a, quiet-when-dry-b, quiet-when-text-dry-a, quiet-when-text-dry-b}

-- a side that is out of fuel stays so, and units only fall
react-stays : (L : Lang) (x : Half L) (e : Event L) → IsDry L x → IsDry L (react L x e)
react-stays L (Going p s u w) e h = absurd h
react-stays L (Failed x s u w) e h = h

half-stays : (L : Lang) (x : Half L) (es : List (Event L)) → IsDry L x → IsDry L (half L x es)
half-stays L x [] h = h
half-stays L x (e ∷ es) h = react-stays L (half L x es) e (half-stays L x es h)

dry-stays : (L : Lang) (start : Half L) (xs ys : List (Event L)) → Extends xs ys → IsDry L (half L start ys) → IsDry L (half L start xs)
dry-stays L start xs ys (m, e) h = subst (IsDry L) (sym (ap (half L start) e ∙ half-in_turn L start m ys)) (half-stays L (half L start ys) m h)

units-fall : (L : Lang) (start : Half L) (xs ys : List (Event L)) → Extends xs ys → units L (half L start xs) ≤ units L (half L start ys)
units-fall L start xs ys (m, e) = subst (λ x. units L x ≤ units L (half L start ys)) (sym (ap (half L start) e ∙ half-in_turn L start m ys)) (half-spends L (half L start ys) m)

never-none : (u c : ℕ) → u + suc c ≡ zero → ⊥
never-none u c e = absurd (omega arith)

-- where c units more leave none, the side is out of fuel without them
dry-below : (L : Lang) (c : ℕ) (q y : Half L) → WithMore L (suc c) q y → units L y ≡ zero → IsDry L q
dry-below L c (Going p s u w) y h e = absurd (never-none u c (sym (ap (units L) h) ∙ e))
dry-below L c (Failed OutOfFuel s u w) y h e = tt
dry-below L c (Failed (Beyond k) s u w) y h e = absurd (never-none u c (sym (ap (units L) h) ∙ e))
dry-below L c (Failed Broken s u w) y h e = absurd (never-none u c (sym (ap (units L) h) ∙ e))

fuel-of : (L : Lang) (x : Half L) → (IsDry L x → ⊥) → HasFuel L x
fuel-of L (Going p s u w) h = tt
fuel-of L (Failed OutOfFuel s u w) h = absurd (h tt)
fuel-of L (Failed (Beyond k) s u w) h = tt
fuel-of L (Failed Broken s u w) h = tt

may-not-dry : (L : Lang) (x : Half L) → MayBegin L x → IsDry L x → ⊥
may-not-dry L (Going p s u w) h k = k
may-not-dry L (Failed x s u w) h k = absurd h

-- sides at their start, by their units
record Fresh (L : Lang) (start : Sides L) : Type 0 where
  more : (h : Side) (n c : ℕ) (es : List (Event L)) → WithMore L c (half L (start h n) es) (half L (start h (n + c)) es)
  same : (h : Side) (n k : ℕ) → start h n ≡ with_units L n (start h k)
  fuel : (h : Side) (n : ℕ) → IsDry L (start h n) → ⊥
  empty : (h : Side) (n : ℕ) → written L (start h n) ≡ []

fresh : (L : Lang) (H : Heap L) (outs : Two L.A) (w : H.W) → Fresh L (starts L H outs w)
fresh L H outs w = record {
  more = λ h n c es. half-more L (Over (part h outs)) (H.seen_by h w) n c [] es;
  same = λ h n k. refl;
  fuel = λ h n dry. dry;
  empty = λ h n. refl;
}

-- What law 2 and law 3 say of a course from f units. It ends with v units left, na and nb being spent; or it runs dry, na and nb being all of them.
record End (L : Lang) (start : Sides L) (f : ℕ) (talk : List (Entry L)) (v na nb : ℕ) (ea eb : ℕ → Half L) : Type 0 where
  sum : na + nb + v ≡ f
  any : AnyUnits L start talk
  at_a : (d : ℕ) → half L (start A (na + d)) (heard L A talk) ≡ ea d
  at_b : (d : ℕ) → half L (start B (nb + d)) (heard L B talk) ≡ eb d
  left_a : (d : ℕ) → units L (ea d) ≡ d
  left_b : (d : ℕ) → units L (eb d) ≡ d
  fuel_a : (d : ℕ) → IsDry L (ea d) → ⊥
  fuel_b : (d : ℕ) → IsDry L (eb d) → ⊥

record Drying (L : Lang) (start : Sides L) (f : ℕ) (talk : List (Entry L)) (na nb : ℕ) (ea eb : Half L) : Type 0 where
  sum : na + nb ≡ f
  all : Schedules L talk (start A na) (start B nb) ea eb
  left_a : units L ea ≡ zero
  left_b : units L eb ≡ zero
  none : MayBegin L ea → MayBegin L eb → ⊥

data Known (L : Lang) (start : Sides L) (f : ℕ) (talk : List (Entry L)) : Type 0 where
  Ends : (v na nb : ℕ) (ea eb : ℕ → Half L) → End L start f talk v na nb ea eb → Known L start f talk
  Dries : (na nb : ℕ) (ea eb : Half L) → Drying L start f talk na nb ea eb → Known L start f talk

abbrev Settled : (L : Lang) (start : Sides L) (f : ℕ) (talk : List (Entry L)) → Known L start f talk → Half L → Half L → ℕ → Type 0
Settled L start f talk (Ends v na nb ea eb r) x y u = (u ≡ v) × (with_units L v x ≡ ea v) × (with_units L v y ≡ eb v)
Settled L start f talk (Dries na nb ea eb r) x y u = (u ≡ zero) × (with_units L zero x ≡ ea) × (with_units L zero y ≡ eb)

-- where the course runs dry, neither side has spent more than its part
abbrev Bounds : (L : Lang) (start : Sides L) (f : ℕ) (talk : List (Entry L)) → Known L start f talk → ℕ → ℕ → Type 0
Bounds L start f talk (Ends v na nb ea eb r) n m = ⊤
Bounds L start f talk (Dries na nb ea eb r) n m = (n ≤ na) × (m ≤ nb)

swap-sum : (n m v f : ℕ) → n + m + v ≡ f → m + n + v ≡ f
swap-sum n m v f e = omega arith

swap-two : (n m f : ℕ) → n + m ≡ f → m + n ≡ f
swap-two n m f e = omega arith

none-more : (n : ℕ) → n + zero ≡ n
none-more n = omega arith

abbrev known : (L : Lang) (H : Heap L) (outs : Two L.A) (w : H.W) (f : ℕ) (course : Course L H) → Joined L H (starts L H outs w) f course → Known L (starts L H outs w) f (log_of L H course)
known L H outs w f (Rests last v u talk) (n, m, sum, (p, q, c)) =
    Ends u n m (waits L H (Over last.of_a) A v talk) (waits L H (Over last.of_b) B v talk) (record {
      sum = sum;
      any = any-units-at L H outs w talk A n m (waits L H (Over last.of_a) A v talk) (waits L H (Over last.of_b) B v talk)
          (ends-at L (starts L H outs w) talk A n m (waits L H (Over last.of_a) A v talk) (waits L H (Over last.of_b) B v talk) p q c (λ d. refl) (λ d. refl));
      at_a = p;
      at_b = q;
      left_a = λ d. refl;
      left_b = λ d. refl;
      fuel_a = λ d h. h;
      fuel_b = λ d h. h;
    })
known L H outs w f (Leaves k v u talk) (A, n, m, p, sum, i, j, c) =
    Ends u n m (fails L H (Beyond k) A v talk) (waits L H p B v talk) (record {
      sum = sum;
      any = any-units-at L H outs w talk A n m (fails L H (Beyond k) A v talk) (waits L H p B v talk)
          (ends-at L (starts L H outs w) talk A n m (fails L H (Beyond k) A v talk) (waits L H p B v talk) i j c (λ d. refl) (λ d. refl));
      at_a = i;
      at_b = j;
      left_a = λ d. refl;
      left_b = λ d. refl;
      fuel_a = λ d h. h;
      fuel_b = λ d h. h;
    })
known L H outs w f (Leaves k v u talk) (B, n, m, p, sum, i, j, c) =
    Ends u m n (waits L H p A v talk) (fails L H (Beyond k) B v talk) (record {
      sum = swap-sum n m u f sum;
      any = any-units-at L H outs w talk B n m (fails L H (Beyond k) B v talk) (waits L H p A v talk)
          (ends-at L (starts L H outs w) talk B n m (fails L H (Beyond k) B v talk) (waits L H p A v talk) i j c (λ d. refl) (λ d. refl));
      at_a = j;
      at_b = i;
      left_a = λ d. refl;
      left_b = λ d. refl;
      fuel_a = λ d h. h;
      fuel_b = λ d h. h;
    })
known L H outs w f (Dry v talk) (A, n, m, p, sum, i, j, c) =
    Dries n m (fails L H OutOfFuel A v talk zero) (waits L H p B v talk zero) (record {
      sum = sum;
      all = subst (λ k. Schedules L talk (starts L H outs w A n) (starts L H outs w B k) (fails L H OutOfFuel A v talk zero) (waits L H p B v talk zero)) (none-more m)
          (runs-out-at L (starts L H outs w) talk A n m (fails L H OutOfFuel A v talk zero) (waits L H p B v talk) i j c refl (λ d. refl) zero);
      left_a = refl;
      left_b = refl;
      none = λ a b. a;
    })
known L H outs w f (Dry v talk) (B, n, m, p, sum, i, j, c) =
    Dries m n (waits L H p A v talk zero) (fails L H OutOfFuel B v talk zero) (record {
      sum = swap-two n m f sum;
      all = subst (λ k. Schedules L talk (starts L H outs w A k) (starts L H outs w B n) (waits L H p A v talk zero) (fails L H OutOfFuel B v talk zero)) (none-more m)
          (runs-out-at L (starts L H outs w) talk B n m (fails L H OutOfFuel B v talk zero) (waits L H p A v talk) i j c refl (λ d. refl) zero);
      left_a = refl;
      left_b = refl;
      none = λ a b. b;
    })

ends-with : (L : Lang) (H : Heap L) (outs : Two L.A) (w : H.W) (f : ℕ) (course : Course L H) (j : Joined L H (starts L H outs w) f course) (x y : Half L) (u : ℕ)
    → Settled L (starts L H outs w) f (log_of L H course) (known L H outs w f course j) x y u → EndsWith L H course x y u
ends-with L H outs w f (Rests last v k talk) (n, m, sum, (p, q, c)) x y u s = s
ends-with L H outs w f (Leaves k v l talk) (A, n, m, p, sum, i, j, c) x y u (e, a, b) = (A, p, e, a, b)
ends-with L H outs w f (Leaves k v l talk) (B, n, m, p, sum, i, j, c) x y u (e, a, b) = (B, p, e, b, a)
ends-with L H outs w f (Dry v talk) (A, n, m, p, sum, i, j, c) x y u (e, a, b) = (A, p, e, a, b)
ends-with L H outs w f (Dry v talk) (B, n, m, p, sum, i, j, c) x y u (e, a, b) = (B, p, e, b, a)

-- Where the course ends with units left, neither side runs out of fuel.
more-than-that : (n n' c : ℕ) → n ≡ n' + c → n + zero ≡ n' + c
more-than-that n n' c e = omega arith

the-other-more : (n m u n' m' v f c : ℕ) → n + m + u ≡ f → n' + m' + v ≡ f → u ≡ zero → n' ≡ n + suc c → m + zero ≡ m' + (v + suc c)
the-other-more n m u n' m' v f c e h i k = omega arith

not-left : (v c k : ℕ) → k ≡ v + suc c → k ≤ zero → ⊥
not-left v c k e h = absurd (omega arith)

not-dry : (L : Lang) (mine theirs : ℕ → Half L) (n m n' m' v f u : ℕ) (r s hm ho : List (Event L)) (x y : Half L) (e e' : ℕ → Half L)
    → n + m + u ≡ f → n' + m' + v ≡ f → Bought L mine n r x → Bought L theirs m s y → (IsDry L x → u ≡ zero) → Extends hm r → Extends ho s
    → ((d : ℕ) → half L (mine (n' + d)) hm ≡ e d) → ((d : ℕ) → half L (theirs (m' + d)) ho ≡ e' d) → ((d : ℕ) → IsDry L (e d) → ⊥) → ((d : ℕ) → units L (e' d) ≡ d)
    → Apart n n' → IsDry L x → ⊥
not-dry L mine theirs n m n' m' v f u r s hm ho x y e e' sum sum' b b' none i j at at' fuel left (AtLeast c k) dry =
    let now : IsDry L (half L (mine (n + zero)) r) = subst (IsDry L) (sym (b zero (λ h. refl))) (dry-kept L zero x dry) in
    let then : IsDry L (half L (mine (n + zero)) hm) = dry-stays L (mine (n + zero)) hm r i now in
    fuel c (subst (IsDry L) (ap (λ l. half L (mine l) hm) (more-than-that n n' c k) ∙ at c) then)
not-dry L mine theirs n m n' m' v f u r s hm ho x y e e' sum sum' b b' none i j at at' fuel left (Below c k) dry =
    let falls : units L (half L (theirs (m + zero)) ho) ≤ units L (half L (theirs (m + zero)) s) = units-fall L (theirs (m + zero)) ho s j in
    let end : units L (half L (theirs (m + zero)) s) ≡ zero = ap (units L) (b' zero (λ h. refl)) ∙ kept-units L zero y in
    let over : units L (half L (theirs (m + zero)) ho) ≡ v + suc c =
    ap (λ l. units L (half L (theirs l) ho)) (the-other-more n m u n' m' v f c sum sum' (none dry) k) ∙ ap (units L) (at' (v + suc c)) ∙ left (v + suc c) in
    not-left v c (units L (half L (theirs (m + zero)) ho)) over (subst (λ k. units L (half L (theirs (m + zero)) ho) ≤ k) end falls)

-- the schedule with what each side spent
abbrev reached-now : (L : Lang) (sa sb : ℕ → Half L) (f : ℕ) (xs : List (Text L)) (ra rb : List (Event L)) (x y : Half L) (u : ℕ) (s : Spent L sa sb f xs ra rb x y u)
    → Reached L (sa (s.n + zero)) (sb (s.m + zero)) xs ra rb
reached-now L sa sb f xs ra rb x y u s = s.reached zero zero (λ h. refl) (λ h. refl)

ends-follow : (L : Lang) (start : Sides L) (f : ℕ) (talk : List (Entry L)) (v na nb : ℕ) (ea eb : ℕ → Half L) (k : End L start f talk v na nb ea eb)
    (xs : List (Text L)) (ra rb : List (Event L)) (x y : Half L) (u : ℕ) (s : Spent L (start A) (start B) f xs ra rb x y u) → begun L talk ≡ xs
    → Follows L (start A (s.n + zero)) (start B (s.m + zero)) talk ra rb
ends-follow L start f talk v na nb ea eb k xs ra rb x y u s e =
    (k.any (s.n + zero) (s.m + zero) ra rb
    (subst (λ l. Reached L (start A (s.n + zero)) (start B (s.m + zero)) l ra rb) (sym e) (reached-now L (start A) (start B) f xs ra rb x y u s))).0

ends-not-dry-a : (L : Lang) (start : Sides L) (f : ℕ) (talk : List (Entry L)) (v na nb : ℕ) (ea eb : ℕ → Half L) (k : End L start f talk v na nb ea eb)
    (xs : List (Text L)) (ra rb : List (Event L)) (x y : Half L) (u : ℕ) (s : Spent L (start A) (start B) f xs ra rb x y u) → begun L talk ≡ xs → IsDry L x → ⊥
ends-not-dry-a L start f talk v na nb ea eb k xs ra rb x y u s e dry =
    let g : Follows L (start A (s.n + zero)) (start B (s.m + zero)) talk ra rb = ends-follow L start f talk v na nb ea eb k xs ra rb x y u s e in
    not-dry L (start A) (start B) s.n s.m na nb v f u ra rb (heard L A talk) (heard L B talk) x y ea eb s.sum k.sum s.bought_a s.bought_b s.dry_a g.0 g.1
    k.at_a k.at_b k.fuel_a k.left_b (apart s.n na) dry

ends-not-dry-b : (L : Lang) (start : Sides L) (f : ℕ) (talk : List (Entry L)) (v na nb : ℕ) (ea eb : ℕ → Half L) (k : End L start f talk v na nb ea eb)
    (xs : List (Text L)) (ra rb : List (Event L)) (x y : Half L) (u : ℕ) (s : Spent L (start A) (start B) f xs ra rb x y u) → begun L talk ≡ xs → IsDry L y → ⊥
ends-not-dry-b L start f talk v na nb ea eb k xs ra rb x y u s e dry =
    let g : Follows L (start A (s.n + zero)) (start B (s.m + zero)) talk ra rb = ends-follow L start f talk v na nb ea eb k xs ra rb x y u s e in
    not-dry L (start B) (start A) s.m s.n nb na v f u rb ra (heard L B talk) (heard L A talk) y x eb ea (swap-sum s.n s.m u f s.sum) (swap-sum na nb v f k.sum)
    s.bought_b s.bought_a s.dry_b g.1 g.0 k.at_b k.at_a k.fuel_b k.left_a (apart s.m nb) dry

-- at rest it has spent what the course spends there
turned : (n m : ℕ) → n + m ≡ m + n
turned n m = omega arith

same-spent : (L : Lang) (mine : ℕ → Half L) (n n' : ℕ) (r hm : List (Event L)) (x : Half L) (e : ℕ → Half L) → r ≡ hm → Bought L mine n r x → (IsDry L x → ⊥)
    → ((d : ℕ) → half L (mine (n' + d)) hm ≡ e d) → ((d : ℕ) → units L (e d) ≡ d) → n ≡ n'
same-spent L mine n n' r hm x e same b fuel at left =
    sym (
    sym (kept-units L n' x) ∙ sym (ap (units L) (b n' (λ h. absurd (fuel h)))) ∙ ap (λ k. units L (half L (mine k) r)) (turned n n')
    ∙ ap (λ l. units L (half L (mine (n' + n)) l)) same ∙ ap (units L) (at n) ∙ left n)

same-end : (L : Lang) (mine : ℕ → Half L) (n n' : ℕ) (r hm : List (Event L)) (x : Half L) (e : ℕ → Half L) (d : ℕ) → r ≡ hm → Bought L mine n r x → (IsDry L x → ⊥)
    → ((d : ℕ) → half L (mine (n' + d)) hm ≡ e d) → n ≡ n' → with_units L d x ≡ e d
same-end L mine n n' r hm x e d same b fuel at spent =
    sym (b d (λ h. absurd (fuel h))) ∙ ap (λ k. half L (mine (k + d)) r) spent ∙ ap (half L (mine (n' + d))) same ∙ at d

same-left : (n m u v f : ℕ) (na nb : ℕ) → n + m + u ≡ f → na + nb + v ≡ f → n ≡ na → m ≡ nb → u ≡ v
same-left n m u v f na nb e h i j = omega arith

fuel-now : (L : Lang) (start : ℕ → Half L) (n : ℕ) (r : List (Event L)) (x : Half L) → Bought L start n r x → (IsDry L x → ⊥) → HasFuel L (half L (start (n + zero)) r)
fuel-now L start n r x b fuel = fuel-of L (half L (start (n + zero)) r) (λ h. fuel (kept-dry L zero x (subst (IsDry L) (b zero (λ k. refl)) h)))

ends-all : (L : Lang) (start : Sides L) (f : ℕ) (talk : List (Entry L)) (v na nb : ℕ) (ea eb : ℕ → Half L) (k : End L start f talk v na nb ea eb)
    (xs : List (Text L)) (ra rb : List (Event L)) (x y : Half L) (u : ℕ) (s : Spent L (start A) (start B) f xs ra rb x y u) → begun L talk ≡ xs → AllRead L x y ra rb
    → All L talk ra rb
ends-all L start f talk v na nb ea eb k xs ra rb x y u s e rest =
    (k.any (s.n + zero) (s.m + zero) ra rb
    (subst (λ l. Reached L (start A (s.n + zero)) (start B (s.m + zero)) l ra rb) (sym e) (reached-now L (start A) (start B) f xs ra rb x y u s))).1
    (quiet-at-spent L (start A) (start B) f xs ra rb x y u s zero zero (λ h. refl) (λ h. refl) rest)
    (fuel-now L (start A) s.n ra x s.bought_a (ends-not-dry-a L start f talk v na nb ea eb k xs ra rb x y u s e))
    (fuel-now L (start B) s.m rb y s.bought_b (ends-not-dry-b L start f talk v na nb ea eb k xs ra rb x y u s e))

ends-settled : (L : Lang) (start : Sides L) (f : ℕ) (talk : List (Entry L)) (v na nb : ℕ) (ea eb : ℕ → Half L) (k : End L start f talk v na nb ea eb)
    (xs : List (Text L)) (ra rb : List (Event L)) (x y : Half L) (u : ℕ) (s : Spent L (start A) (start B) f xs ra rb x y u) → begun L talk ≡ xs → AllRead L x y ra rb
    → Settled L start f talk (Ends v na nb ea eb k) x y u
ends-settled L start f talk v na nb ea eb k xs ra rb x y u s e rest =
    let read : All L talk ra rb = ends-all L start f talk v na nb ea eb k xs ra rb x y u s e rest in
    let a : IsDry L x → ⊥ = ends-not-dry-a L start f talk v na nb ea eb k xs ra rb x y u s e in
    let b : IsDry L y → ⊥ = ends-not-dry-b L start f talk v na nb ea eb k xs ra rb x y u s e in
    let p : s.n ≡ na = same-spent L (start A) s.n na ra (heard L A talk) x ea read.0 s.bought_a a k.at_a k.left_a in
    let q : s.m ≡ nb = same-spent L (start B) s.m nb rb (heard L B talk) y eb read.1 s.bought_b b k.at_b k.left_b in (
      same-left s.n s.m u v f na nb s.sum k.sum p q,
      same-end L (start A) s.n na ra (heard L A talk) x ea v read.0 s.bought_a a k.at_a p,
      same-end L (start B) s.m nb rb (heard L B talk) y eb v read.1 s.bought_b b k.at_b q,
    )

-- Where the course runs dry, no side spends more than its part, and at rest each has spent it.
up-to : (n na : ℕ) → n ≤ na → n + (na - n) ≡ na
up-to n na h = omega arith

there : (L : Lang) (start : Sides L) (n m i j na nb : ℕ) (xs : List (Text L)) (ra rb : List (Event L)) → n + i ≡ na → m + j ≡ nb
    → Reached L (start A (n + i)) (start B (m + j)) xs ra rb → Reached L (start A na) (start B nb) xs ra rb
there L start n m i j na nb xs ra rb p q r =
    subst (λ k. Reached L (start A k) (start B nb) xs ra rb) p (subst (λ k. Reached L (start A (n + i)) (start B k) xs ra rb) q r)

quiet-there : (L : Lang) (start : Sides L) (n m i j na nb : ℕ) (ra rb : List (Event L)) → n + i ≡ na → m + j ≡ nb
    → Quiet L (start A (n + i)) (start B (m + j)) ra rb → Quiet L (start A na) (start B nb) ra rb
quiet-there L start n m i j na nb ra rb p q r =
    subst (λ k. Quiet L (start A k) (start B nb) ra rb) p (subst (λ k. Quiet L (start A (n + i)) (start B k) ra rb) q r)

-- the units left over, where n units come to x and n and i to a side with none
none-over : (L : Lang) (mine : ℕ → Half L) (n i na : ℕ) (r : List (Event L)) (x e : Half L) → n + i ≡ na → Bought L mine n r x → (IsDry L x → i ≡ zero)
    → half L (mine na) r ≡ e → units L e ≡ zero → i ≡ zero
none-over L mine n i na r x e p b h q left =
    sym (kept-units L i x) ∙ ap (units L) (sym (b i h) ∙ ap (λ k. half L (mine k) r) p ∙ q) ∙ left

all-spent : (n m u i j f na nb : ℕ) → n + m + u ≡ f → na + nb ≡ f → n + i ≡ na → m + j ≡ nb → i ≡ zero → j ≡ zero → u ≡ zero
all-spent n m u i j f na nb e h p q a b = omega arith

dries-settled-at : (L : Lang) (start : Sides L) (f : ℕ) (talk : List (Entry L)) (na nb : ℕ) (ea eb : Half L) (k : Drying L start f talk na nb ea eb)
    (xs : List (Text L)) (ra rb : List (Event L)) (x y : Half L) (u : ℕ) (s : Spent L (start A) (start B) f xs ra rb x y u) → begun L talk ≡ xs → AllRead L x y ra rb
    → (i j : ℕ) → (IsDry L x → i ≡ zero) → (IsDry L y → j ≡ zero) → s.n + i ≡ na → s.m + j ≡ nb
    → All L talk ra rb × Settled L start f talk (Dries na nb ea eb k) x y u
dries-settled-at L start f talk na nb ea eb k xs ra rb x y u s e rest i j h l p q =
    let r : Reached L (start A na) (start B nb) (begun L talk) ra rb =
    subst (λ t. Reached L (start A na) (start B nb) t ra rb) (sym e) (there L start s.n s.m i j na nb xs ra rb p q (s.reached i j h l)) in
    let quiet : Quiet L (start A na) (start B nb) ra rb =
    quiet-there L start s.n s.m i j na nb ra rb p q (quiet-at-spent L (start A) (start B) f xs ra rb x y u s i j h l rest) in
    let end : All L talk ra rb × (half L (start A na) ra ≡ ea) × (half L (start B nb) rb ≡ eb) = (k.all.2 ra rb r).1 quiet in
    let a : i ≡ zero = none-over L (start A) s.n i na ra x ea p s.bought_a h end.1 k.left_a in
    let b : j ≡ zero = none-over L (start B) s.m j nb rb y eb q s.bought_b l end.2 k.left_b in (
      end.0,
      (
        all-spent s.n s.m u i j f na nb s.sum k.sum p q a b,
        sym (ap (λ d. with_units L d x) a) ∙ sym (s.bought_a i h) ∙ ap (λ d. half L (start A d) ra) p ∙ end.1,
        sym (ap (λ d. with_units L d y) b) ∙ sym (s.bought_b j l) ∙ ap (λ d. half L (start B d) rb) q ∙ end.2,
      ),
    )

no-more-here : (n m u na nb f : ℕ) → n + m + u ≡ f → na + nb ≡ f → n ≤ na → m ≤ nb → u ≡ zero → n + zero ≡ na
no-more-here n m u na nb f e h i j k = omega arith

no-more-there : (n m u na nb f : ℕ) → n + m + u ≡ f → na + nb ≡ f → n ≤ na → m ≤ nb → u ≡ zero → m + zero ≡ nb
no-more-there n m u na nb f e h i j k = omega arith

dries-by : (L : Lang) (start : Sides L) (f : ℕ) (talk : List (Entry L)) (na nb : ℕ) (ea eb : Half L) (k : Drying L start f talk na nb ea eb)
    (xs : List (Text L)) (ra rb : List (Event L)) (x y : Half L) (u : ℕ) (s : Spent L (start A) (start B) f xs ra rb x y u) → begun L talk ≡ xs → s.n ≤ na → s.m ≤ nb → AllRead L x y ra rb
    → DryOr L x → DryOr L y → All L talk ra rb × Settled L start f talk (Dries na nb ea eb k) x y u
dries-by L start f talk na nb ea eb k xs ra rb x y u s e p q rest (Is h) l =
    dries-settled-at L start f talk na nb ea eb k xs ra rb x y u s e rest zero zero (λ i. refl) (λ i. refl)
    (no-more-here s.n s.m u na nb f s.sum k.sum p q (s.dry_a h)) (no-more-there s.n s.m u na nb f s.sum k.sum p q (s.dry_a h))
dries-by L start f talk na nb ea eb k xs ra rb x y u s e p q rest (IsNot h) (Is l) =
    dries-settled-at L start f talk na nb ea eb k xs ra rb x y u s e rest zero zero (λ i. refl) (λ i. refl)
    (no-more-here s.n s.m u na nb f s.sum k.sum p q (s.dry_b l)) (no-more-there s.n s.m u na nb f s.sum k.sum p q (s.dry_b l))
dries-by L start f talk na nb ea eb k xs ra rb x y u s e p q rest (IsNot h) (IsNot l) =
    dries-settled-at L start f talk na nb ea eb k xs ra rb x y u s e rest (na - s.n) (nb - s.m) (λ i. absurd (h i)) (λ i. absurd (l i)) (up-to s.n na p) (up-to s.m nb q)

up-from : (n na : ℕ) → n ≤ na → (n + zero) + (na - n) ≡ na
up-from n na h = omega arith

more-up : (L : Lang) (start : Sides L) (z : Fresh L start) (h : Side) (n na : ℕ) → n ≤ na → More L (na - n) (start h (n + zero)) (start h na)
more-up L start z h n na less es =
    subst (λ k. WithMore L (na - n) (half L (start h (n + zero)) es) (half L (start h k) es)) (up-from n na less) (z.more h (n + zero) (na - n) es)

dries-follow : (L : Lang) (start : Sides L) (z : Fresh L start) (f : ℕ) (talk : List (Entry L)) (na nb : ℕ) (ea eb : Half L) (k : Drying L start f talk na nb ea eb)
    (xs : List (Text L)) (ra rb : List (Event L)) (x y : Half L) (u : ℕ) (s : Spent L (start A) (start B) f xs ra rb x y u) → begun L talk ≡ xs → s.n ≤ na → s.m ≤ nb
    → Follows L (start A (s.n + zero)) (start B (s.m + zero)) talk ra rb
dries-follow L start z f talk na nb ea eb k xs ra rb x y u s e p q =
    follows-of L (start A (s.n + zero)) (start B (s.m + zero)) (start A na) (start B nb) (na - s.n) (nb - s.m) talk ea eb (more-up L start z A s.n na p) (more-up L start z B s.m nb q) k.all
    ra rb (subst (λ l. Reached L (start A (s.n + zero)) (start B (s.m + zero)) l ra rb) (sym e) (reached-now L (start A) (start B) f xs ra rb x y u s))

-- one event more
spends-none : (n u v na c : ℕ) → n ≤ na → n + (u - v) ≡ na + suc c → u ≡ zero → ⊥
spends-none n u v na c h e i = absurd (omega arith)

no-excess : (n m u v j f na nb c : ℕ) → n + m + u ≡ f → na + nb ≡ f → m + j ≡ nb → j ≡ zero → n + (u - v) ≡ na + suc c → ⊥
no-excess n m u v j f na nb c e h i k l = absurd (omega arith)

within : (n na c : ℕ) → na ≡ n + c → n ≤ na
within n na c e = omega arith

ran-out : (L : Lang) (start : Sides L) (z : Fresh L start) (h : Side) (n na c : ℕ) (r : List (Event L)) (x : Half L) → n ≡ na + suc c → Bought L (start h) n r x → IsDry L (half L (start h na) r)
ran-out L start z h n na c r x e b =
    dry-below L c (half L (start h na) r) (half L (start h (na + suc c)) r) (z.more h na (suc c) r)
    (ap (λ k. units L (half L (start h k) r)) (sym e ∙ sym (none-more n)) ∙ ap (units L) (b zero (λ d. refl)) ∙ kept-units L zero x)

abbrev Quiets-a : (L : Lang) (sa sb : ℕ → Half L) (n m : ℕ) (xs : List (Text L)) (ra rb : List (Event L)) (x y : Half L) (e : Event L) → Type 0
Quiets-a L sa sb n m xs ra rb x y e = (d k : ℕ) → (IsDry L x → d ≡ zero) → (IsDry L y → k ≡ zero) → Reached L (sa (n + d)) (sb (m + k)) xs ra rb
    → IsDry L (half L (sa (n + d)) (e ∷ ra)) → Quiet L (sa (n + d)) (sb (m + k)) (e ∷ ra) rb

abbrev Quiets-b : (L : Lang) (sa sb : ℕ → Half L) (n m : ℕ) (xs : List (Text L)) (ra rb : List (Event L)) (x y : Half L) (e : Event L) → Type 0
Quiets-b L sa sb n m xs ra rb x y e = (d k : ℕ) → (IsDry L x → d ≡ zero) → (IsDry L y → k ≡ zero) → Reached L (sa (n + d)) (sb (m + k)) xs ra rb
    → IsDry L (half L (sb (m + k)) (e ∷ rb)) → Quiet L (sa (n + d)) (sb (m + k)) ra (e ∷ rb)

within-a : (L : Lang) (start : Sides L) (z : Fresh L start) (f : ℕ) (talk : List (Entry L)) (na nb : ℕ) (ea eb : Half L) (k : Drying L start f talk na nb ea eb)
    (xs more : List (Text L)) (ra rb : List (Event L)) (x y : Half L) (u : ℕ) (e : Event L) (s : Spent L (start A) (start B) f xs ra rb x y u)
    → Builds-a L (start A) (start B) s.n s.m xs more ra rb x y e → Quiets-a L (start A) (start B) s.n s.m xs ra rb x y e → begun L talk ≡ more → s.n ≤ na → s.m ≤ nb
    → Apart na (s.n + (u - units L (drawing L u x e))) → s.n + (u - units L (drawing L u x e)) ≤ na
within-a L start z f talk na nb ea eb k xs more ra rb x y u e s build quiets t p q (AtLeast c l) = within (s.n + (u - units L (drawing L u x e))) na c l
within-a L start z f talk na nb ea eb k xs more ra rb x y u e s build quiets t p q (Below c l) =
    let v : ℕ = units L (drawing L u x e) in
    let i : ℕ = na - s.n in
    let j : ℕ = nb - s.m in
    let h : IsDry L x → i ≡ zero = λ dry. absurd (spends-none s.n u v na c p l (s.dry_a dry)) in
    let g : IsDry L y → j ≡ zero = λ dry. absurd (spends-none s.n u v na c p l (s.dry_b dry)) in
    let r : Reached L (start A (s.n + i)) (start B (s.m + j)) xs ra rb = s.reached i j h g in
    let dry : IsDry L (half L (start A na) (e ∷ ra)) = ran-out L start z A (s.n + (u - v)) na c (e ∷ ra) (drawing L u x e) l (bought-on L (start A) s.n u ra x e s.dry_a s.bought_a) in
    let quiet : Quiet L (start A (s.n + i)) (start B (s.m + j)) (e ∷ ra) rb =
    quiets i j h g r (subst (λ d. IsDry L (half L (start A d) (e ∷ ra))) (sym (up-to s.n na p)) dry) in
    let end : All L talk (e ∷ ra) rb × (half L (start A na) (e ∷ ra) ≡ ea) × (half L (start B nb) rb ≡ eb) =
    (k.all.2 (e ∷ ra) rb (subst (λ d. Reached L (start A na) (start B nb) d (e ∷ ra) rb) (sym t)
    (there L start s.n s.m i j na nb more (e ∷ ra) rb (up-to s.n na p) (up-to s.m nb q) (build i j h g r)))).1
    (quiet-there L start s.n s.m i j na nb (e ∷ ra) rb (up-to s.n na p) (up-to s.m nb q) quiet) in
    let none : j ≡ zero = none-over L (start B) s.m j nb rb y eb (up-to s.m nb q) s.bought_b g end.2 k.left_b in
    absurd (no-excess s.n s.m u v j f na nb c s.sum k.sum (up-to s.m nb q) none l)

within-b : (L : Lang) (start : Sides L) (z : Fresh L start) (f : ℕ) (talk : List (Entry L)) (na nb : ℕ) (ea eb : Half L) (k : Drying L start f talk na nb ea eb)
    (xs more : List (Text L)) (ra rb : List (Event L)) (x y : Half L) (u : ℕ) (e : Event L) (s : Spent L (start A) (start B) f xs ra rb x y u)
    → Builds-b L (start A) (start B) s.n s.m xs more ra rb x y e → Quiets-b L (start A) (start B) s.n s.m xs ra rb x y e → begun L talk ≡ more → s.n ≤ na → s.m ≤ nb
    → Apart nb (s.m + (u - units L (drawing L u y e))) → s.m + (u - units L (drawing L u y e)) ≤ nb
within-b L start z f talk na nb ea eb k xs more ra rb x y u e s build quiets t p q (AtLeast c l) = within (s.m + (u - units L (drawing L u y e))) nb c l
within-b L start z f talk na nb ea eb k xs more ra rb x y u e s build quiets t p q (Below c l) =
    let v : ℕ = units L (drawing L u y e) in
    let i : ℕ = na - s.n in
    let j : ℕ = nb - s.m in
    let h : IsDry L x → i ≡ zero = λ dry. absurd (spends-none s.m u v nb c q l (s.dry_a dry)) in
    let g : IsDry L y → j ≡ zero = λ dry. absurd (spends-none s.m u v nb c q l (s.dry_b dry)) in
    let r : Reached L (start A (s.n + i)) (start B (s.m + j)) xs ra rb = s.reached i j h g in
    let dry : IsDry L (half L (start B nb) (e ∷ rb)) = ran-out L start z B (s.m + (u - v)) nb c (e ∷ rb) (drawing L u y e) l (bought-on L (start B) s.m u rb y e s.dry_b s.bought_b) in
    let quiet : Quiet L (start A (s.n + i)) (start B (s.m + j)) ra (e ∷ rb) =
    quiets i j h g r (subst (λ d. IsDry L (half L (start B d) (e ∷ rb))) (sym (up-to s.m nb q)) dry) in
    let end : All L talk ra (e ∷ rb) × (half L (start A na) ra ≡ ea) × (half L (start B nb) (e ∷ rb) ≡ eb) =
    (k.all.2 ra (e ∷ rb) (subst (λ d. Reached L (start A na) (start B nb) d ra (e ∷ rb)) (sym t)
    (there L start s.n s.m i j na nb more ra (e ∷ rb) (up-to s.n na p) (up-to s.m nb q) (build i j h g r)))).1
    (quiet-there L start s.n s.m i j na nb ra (e ∷ rb) (up-to s.n na p) (up-to s.m nb q) quiet) in
    let none : i ≡ zero = none-over L (start A) s.n i na ra x ea (up-to s.n na p) s.bought_a h end.1 k.left_a in
    absurd (no-excess s.m s.n u v i f nb na c (swap-sum s.n s.m u f s.sum) (swap-two na nb f k.sum) (up-to s.n na p) none l)

-- a message under way is the only one, so a side that runs out of fuel over it leaves nothing unread
quiets-read-a : (L : Lang) (start : Sides L) (z : Fresh L start) (f : ℕ) (xs : List (Text L)) (ra rb : List (Event L)) (x y : Half L) (u : ℕ) (m : Message L)
    (s : Spent L (start A) (start B) f xs ra rb x y u) → Extends (sent L (written L y)) (m ∷ got L ra) → Quiets-a L (start A) (start B) s.n s.m xs ra rb x y (Got m)
quiets-read-a L start z f xs ra rb x y u m s ext d k h i r dry =
    quiet-when-dry-a L (start A (s.n + d)) (start B (s.m + k)) m (z.empty A (s.n + d)) (z.empty B (s.m + k)) r (reads-at L (start B) s.m rb y k (m ∷ got L ra) s.bought_b i ext) dry

quiets-read-b : (L : Lang) (start : Sides L) (z : Fresh L start) (f : ℕ) (xs : List (Text L)) (ra rb : List (Event L)) (x y : Half L) (u : ℕ) (m : Message L)
    (s : Spent L (start A) (start B) f xs ra rb x y u) → Extends (sent L (written L x)) (m ∷ got L rb) → Quiets-b L (start A) (start B) s.n s.m xs ra rb x y (Got m)
quiets-read-b L start z f xs ra rb x y u m s ext d k h i r dry =
    quiet-when-dry-b L (start A (s.n + d)) (start B (s.m + k)) m (z.empty A (s.n + d)) (z.empty B (s.m + k)) r (reads-at L (start A) s.n ra x d (m ∷ got L rb) s.bought_a h ext) dry

quiets-text-a : (L : Lang) (start : Sides L) (f : ℕ) (xs : List (Text L)) (ra rb : List (Event L)) (x y : Half L) (u : ℕ) (t : TreeOf L)
    (s : Spent L (start A) (start B) f xs ra rb x y u) → AllRead L x y ra rb → Quiets-a L (start A) (start B) s.n s.m xs ra rb x y (Begin t)
quiets-text-a L start f xs ra rb x y u t s rest d k h i r dry =
    quiet-when-text-dry-a L (start A (s.n + d)) (start B (s.m + k)) ra rb t (quiet-at-spent L (start A) (start B) f xs ra rb x y u s d k h i rest) dry

quiets-text-b : (L : Lang) (start : Sides L) (f : ℕ) (xs : List (Text L)) (ra rb : List (Event L)) (x y : Half L) (u : ℕ) (t : TreeOf L)
    (s : Spent L (start A) (start B) f xs ra rb x y u) → AllRead L x y ra rb → Quiets-b L (start A) (start B) s.n s.m xs ra rb x y (Begin t)
quiets-text-b L start f xs ra rb x y u t s rest d k h i r dry =
    quiet-when-text-dry-b L (start A (s.n + d)) (start B (s.m + k)) ra rb t (quiet-at-spent L (start A) (start B) f xs ra rb x y u s d k h i rest) dry

-- where a schedule began its last text
record Point (L : Lang) (a b : Half L) (xs : List (Text L)) : Type 0 where
  ra : List (Event L)
  rb : List (Event L)
  reached : Reached L a b xs ra rb
  quiet : Quiet L a b ra rb
  may_a : MayBegin L (half L a ra)
  may_b : MayBegin L (half L b rb)

abbrev less-one : {M : Type 0} → List M → List M
less-one [] = []
less-one (x ∷ xs) = xs

point : (L : Lang) (a b : Half L) (x : Text L) (xs : List (Text L)) {ys : List (Text L)} {ra rb : List (Event L)} → Reached L a b ys ra rb → ys ≡ x ∷ xs → Point L a b xs
point L a b x xs Begun e = absurd cc
point L a b x xs (A_reads m r h) e = point L a b x xs r e
point L a b x xs (B_reads m r h) e = point L a b x xs r e
point L a b x xs (A_begins {ra = ra} {rb = rb} t r q i j) e =
    record { ra = ra; rb = rb; reached = subst (λ l. Reached L a b l ra rb) (ap less-one e) r; quiet = q; may_a = i; may_b = j }
point L a b x xs (B_begins {ra = ra} {rb = rb} t r q i j) e =
    record { ra = ra; rb = rb; reached = subst (λ l. Reached L a b l ra rb) (ap less-one e) r; quiet = q; may_a = i; may_b = j }

-- what was spent before a text is no more than what its course spends
before-at : (L : Lang) (start : Sides L) (z : Fresh L start) (h : Side) (n na : ℕ) (r old : List (Event L)) (x : Half L) → old ≡ r → Bought L (start h) n r x
    → MayBegin L (half L (start h na) old) → Apart na n → n ≤ na
before-at L start z h n na r old x e b may (AtLeast c l) = within n na c l
before-at L start z h n na r old x e b may (Below c l) =
    absurd (may-not-dry L (half L (start h na) old) may (subst (λ k. IsDry L (half L (start h na) k)) (sym e) (ran-out L start z h n na c r x l b)))

before-text : (L : Lang) (start : Sides L) (z : Fresh L start) (f : ℕ) (talk : List (Entry L)) (v ka kb : ℕ) (da db : ℕ → Half L) (k : End L start f talk v ka kb da db)
    (xs : List (Text L)) (ra rb : List (Event L)) (x y : Half L) (u : ℕ) (s : Spent L (start A) (start B) f xs ra rb x y u) → begun L talk ≡ xs → AllRead L x y ra rb
    → (later : List (Entry L)) (na nb : ℕ) (ea eb : Half L) (l : Drying L start f later na nb ea eb) (t : Text L) → begun L later ≡ t ∷ xs → (s.n ≤ na) × (s.m ≤ nb)
before-text L start z f talk v ka kb da db k xs ra rb x y u s e rest later na nb ea eb l t i =
    let p : Point L (start A na) (start B nb) xs = point L (start A na) (start B nb) t xs l.all.0 i in
    let then : All L talk p.ra p.rb =
    (k.any na nb p.ra p.rb (subst (λ d. Reached L (start A na) (start B nb) d p.ra p.rb) (sym e) p.reached)).1 p.quiet
    (fuel-of L (half L (start A na) p.ra) (may-not-dry L (half L (start A na) p.ra) p.may_a)) (fuel-of L (half L (start B nb) p.rb) (may-not-dry L (half L (start B nb) p.rb) p.may_b)) in
    let now : All L talk ra rb = ends-all L start f talk v ka kb da db k xs ra rb x y u s e rest in (
      before-at L start z A s.n na ra p.ra x (then.0 ∙ sym now.0) s.bought_a p.may_a (apart na s.n),
      before-at L start z B s.m nb rb p.rb y (then.1 ∙ sym now.1) s.bought_b p.may_b (apart nb s.m),
    )

-- any course at rest
known-follow : (L : Lang) (start : Sides L) (z : Fresh L start) (f : ℕ) (talk : List (Entry L)) (k : Known L start f talk)
    (xs : List (Text L)) (ra rb : List (Event L)) (x y : Half L) (u : ℕ) (s : Spent L (start A) (start B) f xs ra rb x y u) → begun L talk ≡ xs → Bounds L start f talk k s.n s.m
    → Follows L (start A (s.n + zero)) (start B (s.m + zero)) talk ra rb
known-follow L start z f talk (Ends v na nb ea eb k) xs ra rb x y u s e b = ends-follow L start f talk v na nb ea eb k xs ra rb x y u s e
known-follow L start z f talk (Dries na nb ea eb k) xs ra rb x y u s e (p, q) = dries-follow L start z f talk na nb ea eb k xs ra rb x y u s e p q

known-rest : (L : Lang) (start : Sides L) (f : ℕ) (talk : List (Entry L)) (k : Known L start f talk)
    (xs : List (Text L)) (ra rb : List (Event L)) (x y : Half L) (u : ℕ) (s : Spent L (start A) (start B) f xs ra rb x y u) → begun L talk ≡ xs → Bounds L start f talk k s.n s.m → AllRead L x y ra rb
    → All L talk ra rb × Settled L start f talk k x y u
known-rest L start f talk (Ends v na nb ea eb k) xs ra rb x y u s e b rest =
    (ends-all L start f talk v na nb ea eb k xs ra rb x y u s e rest, ends-settled L start f talk v na nb ea eb k xs ra rb x y u s e rest)
known-rest L start f talk (Dries na nb ea eb k) xs ra rb x y u s e (p, q) rest = dries-by L start f talk na nb ea eb k xs ra rb x y u s e p q rest (dry-or L x) (dry-or L y)

-- a message more, and a text more
known-a : (L : Lang) (start : Sides L) (z : Fresh L start) (f : ℕ) (talk : List (Entry L)) (k : Known L start f talk)
    (xs more : List (Text L)) (ra rb : List (Event L)) (x y : Half L) (u : ℕ) (e : Event L) (s : Spent L (start A) (start B) f xs ra rb x y u)
    → Builds-a L (start A) (start B) s.n s.m xs more ra rb x y e → Quiets-a L (start A) (start B) s.n s.m xs ra rb x y e → begun L talk ≡ more → Bounds L start f talk k s.n s.m
    → Bounds L start f talk k (s.n + (u - units L (drawing L u x e))) s.m
known-a L start z f talk (Ends v na nb ea eb k) xs more ra rb x y u e s build quiets t b = tt
known-a L start z f talk (Dries na nb ea eb k) xs more ra rb x y u e s build quiets t (p, q) =
    (within-a L start z f talk na nb ea eb k xs more ra rb x y u e s build quiets t p q (apart na (s.n + (u - units L (drawing L u x e)))), q)

known-b : (L : Lang) (start : Sides L) (z : Fresh L start) (f : ℕ) (talk : List (Entry L)) (k : Known L start f talk)
    (xs more : List (Text L)) (ra rb : List (Event L)) (x y : Half L) (u : ℕ) (e : Event L) (s : Spent L (start A) (start B) f xs ra rb x y u)
    → Builds-b L (start A) (start B) s.n s.m xs more ra rb x y e → Quiets-b L (start A) (start B) s.n s.m xs ra rb x y e → begun L talk ≡ more → Bounds L start f talk k s.n s.m
    → Bounds L start f talk k s.n (s.m + (u - units L (drawing L u y e)))
known-b L start z f talk (Ends v na nb ea eb k) xs more ra rb x y u e s build quiets t b = tt
known-b L start z f talk (Dries na nb ea eb k) xs more ra rb x y u e s build quiets t (p, q) =
    (p, within-b L start z f talk na nb ea eb k xs more ra rb x y u e s build quiets t p q (apart nb (s.m + (u - units L (drawing L u y e)))))

may-settle : (L : Lang) (d : ℕ) (x e : Half L) → with_units L d x ≡ e → MayBegin L x → MayBegin L e
may-settle L d x e h i = subst (MayBegin L) h (kept-may-begin L d x i)

known-text : (L : Lang) (start : Sides L) (z : Fresh L start) (f : ℕ) (talk : List (Entry L)) (k : Known L start f talk)
    (xs : List (Text L)) (ra rb : List (Event L)) (x y : Half L) (u : ℕ) (s : Spent L (start A) (start B) f xs ra rb x y u) → begun L talk ≡ xs → AllRead L x y ra rb
    → Settled L start f talk k x y u → MayBegin L x → MayBegin L y
    → (later : List (Entry L)) (l : Known L start f later) (t : Text L) → begun L later ≡ t ∷ xs → Bounds L start f later l s.n s.m
known-text L start z f talk k xs ra rb x y u s e rest end i j later (Ends v na nb ea eb l) t g = tt
known-text L start z f talk (Ends v ka kb da db k) xs ra rb x y u s e rest end i j later (Dries na nb ea eb l) t g =
    before-text L start z f talk v ka kb da db k xs ra rb x y u s e rest later na nb ea eb l t g
known-text L start z f talk (Dries ka kb da db k) xs ra rb x y u s e rest end i j later (Dries na nb ea eb l) t g =
    absurd (k.none (may-settle L zero x da end.1 i) (may-settle L zero y db end.2 j))

-- where the pair may begin a text, so may the one interpreter
abbrev GoesOn : (L : Lang) (H : Heap L) → Course L H → Type 0
GoesOn L H (Rests outs w u talk) = may_begin L outs ≡ true
GoesOn L H (Leaves k w u talk) = ⊥
GoesOn L H (Dry w talk) = ⊥

both-true : (a b : Bool) → IsTrue a → IsTrue b → (a && b) ≡ true
both-true true true h k = refl
both-true false b h k = absurd cc
both-true true false h k = absurd cc

goes-on : (L : Lang) (H : Heap L) (outs : Two L.A) (w : H.W) (f : ℕ) (course : Course L H) (j : Joined L H (starts L H outs w) f course) (x y : Half L) (u : ℕ)
    → Settled L (starts L H outs w) f (log_of L H course) (known L H outs w f course j) x y u → MayBegin L x → MayBegin L y → GoesOn L H course
goes-on L H outs w f (Rests last v k talk) (n, m, sum, (p, q, c)) x y u (e, a, b) i j =
    both-true (L.goes_on last.of_a) (L.goes_on last.of_b) (may-settle L k x (waits L H (Over last.of_a) A v talk k) a i) (may-settle L k y (waits L H (Over last.of_b) B v talk k) b j)
goes-on L H outs w f (Leaves k v l talk) (A, n, m, p, sum, r, t, c) x y u (e, a, b) i j = may-settle L l x (fails L H (Beyond k) A v talk l) a i
goes-on L H outs w f (Leaves k v l talk) (B, n, m, p, sum, r, t, c) x y u (e, a, b) i j = may-settle L l y (fails L H (Beyond k) B v talk l) b j
goes-on L H outs w f (Dry v talk) (A, n, m, p, sum, r, t, c) x y u (e, a, b) i j = may-settle L zero x (fails L H OutOfFuel A v talk zero) a i
goes-on L H outs w f (Dry v talk) (B, n, m, p, sum, r, t, c) x y u (e, a, b) i j = may-settle L zero y (fails L H OutOfFuel B v talk zero) b j

next-begun : (L : Lang) (H : Heap L) (t : Text L) (course : Course L H) → GoesOn L H course → begun L (log_of L H (one_text L H t course)) ≡ t ∷ begun L (log_of L H course)
next-begun L H t (Rests outs w u talk) g = text-begun L H t outs w u talk g
next-begun L H t (Leaves k w u talk) g = absurd g
next-begun L H t (Dry w talk) g = absurd g

-- The pair and the one interpreter, kept together from event to event.
record Held (L : Lang) (H : Heap L) (two : OneIsTwo L H) (outs : Two L.A) (w : H.W) (f : ℕ) (xs : List (Text L)) (ra rb : List (Event L)) (x y : Half L) (u : ℕ) : Type 0 where
  spent : Spent L (starts L H outs w A) (starts L H outs w B) f xs ra rb x y u
  texts : begun L (log_of L H (one L H outs w f xs)) ≡ xs
  bounds : Bounds L (starts L H outs w) f (log_of L H (one L H outs w f xs)) (known L H outs w f (one L H outs w f xs) (two outs w f xs)) spent.n spent.m

abbrev talk-of : (L : Lang) (H : Heap L) (outs : Two L.A) (w : H.W) (f : ℕ) (xs : List (Text L)) → List (Entry L)
talk-of L H outs w f xs = log_of L H (one L H outs w f xs)

abbrev known-of : (L : Lang) (H : Heap L) (two : OneIsTwo L H) (outs : Two L.A) (w : H.W) (f : ℕ) (xs : List (Text L)) → Known L (starts L H outs w) f (talk-of L H outs w f xs)
known-of L H two outs w f xs = known L H outs w f (one L H outs w f xs) (two outs w f xs)

held-rest : (L : Lang) (H : Heap L) (two : OneIsTwo L H) (outs : Two L.A) (w : H.W) (f : ℕ) (xs : List (Text L)) (ra rb : List (Event L)) (x y : Half L) (u : ℕ)
    → Held L H two outs w f xs ra rb x y u → AllRead L x y ra rb
    → All L (talk-of L H outs w f xs) ra rb × Settled L (starts L H outs w) f (talk-of L H outs w f xs) (known-of L H two outs w f xs) x y u
held-rest L H two outs w f xs ra rb x y u h rest =
    known-rest L (starts L H outs w) f (talk-of L H outs w f xs) (known-of L H two outs w f xs) xs ra rb x y u h.spent h.texts h.bounds rest

held-takes-a : (L : Lang) (H : Heap L) (two : OneIsTwo L H) (outs : Two L.A) (w : H.W) (f : ℕ) (xs : List (Text L)) (ra rb : List (Event L)) (x y : Half L) (u : ℕ) (m : Message L)
    → Held L H two outs w f xs ra rb x y u → Extends (sent L (written L y)) (m ∷ got L ra)
    → Held L H two outs w f xs (Got m ∷ ra) rb (drawing L u x (Got m)) y (units L (drawing L u x (Got m)))
held-takes-a L H two outs w f xs ra rb x y u m h ext =
    let start : Sides L = starts L H outs w in
    let build : Builds-a L (start A) (start B) h.spent.n h.spent.m xs xs ra rb x y (Got m) = takes-a L (start A) (start B) f xs ra rb x y u m h.spent ext in
    record {
      spent = step-a L (start A) (start B) f xs xs ra rb x y u (Got m) h.spent build;
      texts = h.texts;
      bounds = known-a L start (fresh L H outs w) f (talk-of L H outs w f xs) (known-of L H two outs w f xs) xs xs ra rb x y u (Got m) h.spent build
          (quiets-read-a L start (fresh L H outs w) f xs ra rb x y u m h.spent ext) h.texts h.bounds;
    }

held-takes-b : (L : Lang) (H : Heap L) (two : OneIsTwo L H) (outs : Two L.A) (w : H.W) (f : ℕ) (xs : List (Text L)) (ra rb : List (Event L)) (x y : Half L) (u : ℕ) (m : Message L)
    → Held L H two outs w f xs ra rb x y u → Extends (sent L (written L x)) (m ∷ got L rb)
    → Held L H two outs w f xs ra (Got m ∷ rb) x (drawing L u y (Got m)) (units L (drawing L u y (Got m)))
held-takes-b L H two outs w f xs ra rb x y u m h ext =
    let start : Sides L = starts L H outs w in
    let build : Builds-b L (start A) (start B) h.spent.n h.spent.m xs xs ra rb x y (Got m) = takes-b L (start A) (start B) f xs ra rb x y u m h.spent ext in
    record {
      spent = step-b L (start A) (start B) f xs xs ra rb x y u (Got m) h.spent build;
      texts = h.texts;
      bounds = known-b L start (fresh L H outs w) f (talk-of L H outs w f xs) (known-of L H two outs w f xs) xs xs ra rb x y u (Got m) h.spent build
          (quiets-read-b L start (fresh L H outs w) f xs ra rb x y u m h.spent ext) h.texts h.bounds;
    }

held-next : (L : Lang) (H : Heap L) (two : OneIsTwo L H) (outs : Two L.A) (w : H.W) (f : ℕ) (xs : List (Text L)) (ra rb : List (Event L)) (x y : Half L) (u : ℕ) (t : Text L)
    → Held L H two outs w f xs ra rb x y u → AllRead L x y ra rb → MayBegin L x → MayBegin L y → begun L (talk-of L H outs w f (t ∷ xs)) ≡ t ∷ xs
held-next L H two outs w f xs ra rb x y u t h rest i j =
    next-begun L H t (one L H outs w f xs) (goes-on L H outs w f (one L H outs w f xs) (two outs w f xs) x y u (held-rest L H two outs w f xs ra rb x y u h rest).1 i j)
    ∙ ap (λ l. t ∷ l) h.texts

held-bounds : (L : Lang) (H : Heap L) (two : OneIsTwo L H) (outs : Two L.A) (w : H.W) (f : ℕ) (xs : List (Text L)) (ra rb : List (Event L)) (x y : Half L) (u : ℕ) (t : Text L)
    (h : Held L H two outs w f xs ra rb x y u) → AllRead L x y ra rb → MayBegin L x → MayBegin L y → begun L (talk-of L H outs w f (t ∷ xs)) ≡ t ∷ xs
    → Bounds L (starts L H outs w) f (talk-of L H outs w f (t ∷ xs)) (known-of L H two outs w f (t ∷ xs)) h.spent.n h.spent.m
held-bounds L H two outs w f xs ra rb x y u t h rest i j e =
    known-text L (starts L H outs w) (fresh L H outs w) f (talk-of L H outs w f xs) (known-of L H two outs w f xs) xs ra rb x y u h.spent h.texts rest
    (held-rest L H two outs w f xs ra rb x y u h rest).1 i j (talk-of L H outs w f (t ∷ xs)) (known-of L H two outs w f (t ∷ xs)) t e

held-starts-a : (L : Lang) (H : Heap L) (two : OneIsTwo L H) (outs : Two L.A) (w : H.W) (f : ℕ) (xs : List (Text L)) (ra rb : List (Event L)) (x y : Half L) (u : ℕ) (t : TreeOf L)
    → Held L H two outs w f xs ra rb x y u → AllRead L x y ra rb → MayBegin L x → MayBegin L y
    → Held L H two outs w f (record { side = A; tree = t } ∷ xs) (Begin t ∷ ra) rb (drawing L u x (Begin t)) y (units L (drawing L u x (Begin t)))
held-starts-a L H two outs w f xs ra rb x y u t h rest i j =
    let start : Sides L = starts L H outs w in
    let text : Text L = record { side = A; tree = t } in
    let texts : begun L (talk-of L H outs w f (text ∷ xs)) ≡ text ∷ xs = held-next L H two outs w f xs ra rb x y u text h rest i j in
    let build : Builds-a L (start A) (start B) h.spent.n h.spent.m xs (text ∷ xs) ra rb x y (Begin t) = starts-a L (start A) (start B) f xs ra rb x y u t h.spent rest i j in
    record {
      spent = step-a L (start A) (start B) f xs (text ∷ xs) ra rb x y u (Begin t) h.spent build;
      texts = texts;
      bounds = known-a L start (fresh L H outs w) f (talk-of L H outs w f (text ∷ xs)) (known-of L H two outs w f (text ∷ xs)) xs (text ∷ xs) ra rb x y u (Begin t) h.spent build
          (quiets-text-a L start f xs ra rb x y u t h.spent rest) texts (held-bounds L H two outs w f xs ra rb x y u text h rest i j texts);
    }

held-starts-b : (L : Lang) (H : Heap L) (two : OneIsTwo L H) (outs : Two L.A) (w : H.W) (f : ℕ) (xs : List (Text L)) (ra rb : List (Event L)) (x y : Half L) (u : ℕ) (t : TreeOf L)
    → Held L H two outs w f xs ra rb x y u → AllRead L x y ra rb → MayBegin L x → MayBegin L y
    → Held L H two outs w f (record { side = B; tree = t } ∷ xs) ra (Begin t ∷ rb) x (drawing L u y (Begin t)) (units L (drawing L u y (Begin t)))
held-starts-b L H two outs w f xs ra rb x y u t h rest i j =
    let start : Sides L = starts L H outs w in
    let text : Text L = record { side = B; tree = t } in
    let texts : begun L (talk-of L H outs w f (text ∷ xs)) ≡ text ∷ xs = held-next L H two outs w f xs ra rb x y u text h rest i j in
    let build : Builds-b L (start A) (start B) h.spent.n h.spent.m xs (text ∷ xs) ra rb x y (Begin t) = starts-b L (start A) (start B) f xs ra rb x y u t h.spent rest i j in
    record {
      spent = step-b L (start A) (start B) f xs (text ∷ xs) ra rb x y u (Begin t) h.spent build;
      texts = texts;
      bounds = known-b L start (fresh L H outs w) f (talk-of L H outs w f (text ∷ xs)) (known-of L H two outs w f (text ∷ xs)) xs (text ∷ xs) ra rb x y u (Begin t) h.spent build
          (quiets-text-b L start f xs ra rb x y u t h.spent rest) texts (held-bounds L H two outs w f xs ra rb x y u text h rest i j texts);
    }

opened-bounds : (L : Lang) (H : Heap L) (outs : Two L.A) (w : H.W) (f : ℕ) (j : Joined L H (starts L H outs w) f (Rests outs w f []))
    → Bounds L (starts L H outs w) f [] (known L H outs w f (Rests outs w f []) j) zero zero
opened-bounds L H outs w f (n, m, sum, (p, q, c)) = tt

held : (L : Lang) (H : Heap L) (two : OneIsTwo L H) (outs : Two L.A) (w : H.W) (f : ℕ) {xs : List (Text L)} {ra rb : List (Event L)} {x y : Half L} {u : ℕ}
    → Drawn L (starts L H outs w A f) (starts L H outs w B f) f xs ra rb x y u → Held L H two outs w f xs ra rb x y u
held L H two outs w f Opened =
    let z : Fresh L (starts L H outs w) = fresh L H outs w in
    record { spent = opened L (starts L H outs w A) (starts L H outs w B) f (z.same A) (z.same B) (z.fuel A) (z.fuel B); texts = refl; bounds = opened-bounds L H outs w f (two outs w f []) }
held L H two outs w f (A_takes {xs = xs} {ra = ra} {rb = rb} {x = x} {y = y} {u = u} m r ext) = held-takes-a L H two outs w f xs ra rb x y u m (held L H two outs w f r) ext
held L H two outs w f (B_takes {xs = xs} {ra = ra} {rb = rb} {x = x} {y = y} {u = u} m r ext) = held-takes-b L H two outs w f xs ra rb x y u m (held L H two outs w f r) ext
held L H two outs w f (A_starts {xs = xs} {ra = ra} {rb = rb} {x = x} {y = y} {u = u} t r rest i j) = held-starts-a L H two outs w f xs ra rb x y u t (held L H two outs w f r) rest i j
held L H two outs w f (B_starts {xs = xs} {ra = ra} {rb = rb} {x = x} {y = y} {u = u} t r rest i j) = held-starts-b L H two outs w f xs ra rb x y u t (held L H two outs w f r) rest i j

pub spent-of : (L : Lang) (H : Heap L) (two : OneIsTwo L H) (outs : Two L.A) (w : H.W) (f : ℕ) {xs : List (Text L)} {ra rb : List (Event L)} {x y : Half L} {u : ℕ}
    → Drawn L (starts L H outs w A f) (starts L H outs w B f) f xs ra rb x y u → Spent L (starts L H outs w A) (starts L H outs w B) f xs ra rb x y u
spent-of L H two outs w f r = (held L H two outs w f r).spent

-- the law of pairs
pub pair_ends_as_one : (L : Lang) (H : Heap L) → OneIsTwo L H → PairEndsAsOne L H
pair_ends_as_one L H two outs w f xs ra rb x y u r =
    let h : Held L H two outs w f xs ra rb x y u = held L H two outs w f r in
    let talk : List (Entry L) = talk-of L H outs w f xs in
    let start : Sides L = starts L H outs w in
    let g : Follows L (start A (h.spent.n + zero)) (start B (h.spent.m + zero)) talk ra rb =
    known-follow L start (fresh L H outs w) f talk (known-of L H two outs w f xs) xs ra rb x y u h.spent h.texts h.bounds in
    record {
      texts = h.texts;
      a_reads = g.0;
      b_reads = g.1;
      a_writes = subst (λ l. Extends (wrote L A talk) l) (written-a L (start A) h.spent.n ra x zero h.spent.bought_a (λ i. refl)) g.2;
      b_writes = subst (λ l. Extends (wrote L B talk) l) (written-a L (start B) h.spent.m rb y zero h.spent.bought_b (λ i. refl)) g.3;
      ends = λ rest.
          let end : All L talk ra rb × Settled L start f talk (known-of L H two outs w f xs) x y u = held-rest L H two outs w f xs ra rb x y u h rest in
          (end.0.0, end.0.1, ends-with L H outs w f (one L H outs w f xs) (two outs w f xs) x y u end.1);
    }
