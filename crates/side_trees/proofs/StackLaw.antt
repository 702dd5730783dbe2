-- A numbered side keeps a number for each question without an answer, and for each request that it serves.
use Rattle.std.proofs.Common.{◌≡◌, true, false, if◌then◌else◌, Bool, List, [], ◌∷◌, ◌++◌, length, ℕ, zero, suc, ◌==◌, refl, sym, ap, ◌∙◌, subst, arith}
use Rattle.side_trees.specs.Trees.{Return, Act, Tell, Stop, Spend, Do, Ask, Done, Asked, Stopped, NoFuel, bind}
use Rattle.side_trees.specs.Sides.{Lang, TreeOf, Message, Request, Reply, Item, Sends, Shows, Got, Begin, EndedOf, Over, Await, Task, Texting, Serving, Half, Going, Failed, settle, go, react, idling, written, sent}
use Rattle.side_trees.specs.Numbers.{Brings, Opens, Tally, outer, number_due, tallied, puts_all, moves, breaks, tally, questions, servings, Stacked, StacksFit}
use Rattle.side_trees.proofs.GrowthLaw.{own, noted, serve}
use Rattle.side_trees.proofs.FreeLaw.{since-more}

-- A run by itself sends nothing, and where a side settles it sends at most one message.
own-sends : (L : Lang) (u : ℕ) (t : TreeOf L) (s : L.S) (w : List (Item L)) → sent L (noted L (own L u t s w)) ≡ sent L w
own-sends L u (Return a) s w = refl
own-sends L u (Act g f) s w = own-sends L u (f s) (g s) w
own-sends L u (Tell o t) s w = own-sends L u t s (Shows o ∷ w)
own-sends L u (Stop x) s w = refl
own-sends L zero (Spend c k) s w = refl
own-sends L (suc u) (Spend c k) s w = own-sends L u (bind (L.expand c) k) s w
own-sends L zero (Do o c k) s w = refl
own-sends L (suc u) (Do o c k) s w = own-sends L u (bind (L.expand o) (λ a. bind (L.expand (c a)) k)) s w
own-sends L u (Ask q c k) s w = refl

-- the stacks under a task that runs
abbrev asks-under : (L : Lang) → Task L → ℕ
asks-under L Texting = zero
asks-under L (Serving p) = questions L p

abbrev serves-under : (L : Lang) → Task L → ℕ
serves-under L Texting = zero
serves-under L (Serving p) = suc (servings L p)

one-less : (ns : List ℕ) (n : ℕ) → length ns ≡ suc n → length (outer ns) ≡ n
one-less [] n h = cc
one-less (m ∷ ns) n h = omega arith

-- after one message, or none
abbrev After : (L : Lang) → Tally L → Half L → List (Message L) → Type 0
After L x y ms = Stacked L y (puts_all L x ms).asked (puts_all L x ms).served

after : (L : Lang) (x : Tally L) (y : Half L) (ms : List (Message L)) → sent L (written L y) ≡ ms ++ sent L (written L x.side) → After L x y ms
    → Stacked L (moves L x y).side (moves L x y).asked (moves L x y).served
after L x y ms e h = subst (After L x y) (sym (since-more ms (sent L (written L y)) (sent L (written L x.side)) e)) h

waiting : (L : Lang) (task : Task L) (k : L.A → TreeOf L) (s : L.S) (u : ℕ) (w : List (Item L)) (asked served : List ℕ) (n : ℕ)
    → length asked ≡ asks-under L task → length served ≡ serves-under L task → Stacked L (Going (Await task k) s u w) (n ∷ asked) served
waiting L Texting k s u w asked served n a b = (ap suc a, b)
waiting L (Serving p) k s u w asked served n a b = (ap suc a, b)

settle-stacks : (L : Lang) (x : Tally L) (task : Task L) (e : EndedOf L) → sent L (noted L e) ≡ sent L (written L x.side)
    → length x.asked ≡ asks-under L task → length x.served ≡ serves-under L task
    → Stacked L (moves L x (settle L task e)).side (moves L x (settle L task e)).asked (moves L x (settle L task e)).served
settle-stacks L x Texting (Done o s u w) h a b = after L x (Going (Over o) s u w) [] h (a, b)
settle-stacks L x (Serving p) (Done o s u w) h a b =
    let m : Message L = Reply (L.box_a s o) in
    after L x (Going p s u (Sends m ∷ w)) (m ∷ []) (ap (λ l. m ∷ l) h) (a, one-less x.served (servings L p) b)
settle-stacks L x task (Asked q k s u w) h a b =
    let m : Message L = Request (L.box_q s q) in
    after L x (Going (Await task k) s u (Sends m ∷ w)) (m ∷ []) (ap (λ l. m ∷ l) h)
    (waiting L task k s u (Sends m ∷ w) x.asked x.served x.next a b)
settle-stacks L x task (Stopped k s u w) h a b = tt
settle-stacks L x task (NoFuel s w) h a b = tt

go-stacks : (L : Lang) (x : Tally L) (task : Task L) (u : ℕ) (t : TreeOf L) (s : L.S) (w : List (Item L)) → sent L w ≡ sent L (written L x.side)
    → length x.asked ≡ asks-under L task → length x.served ≡ serves-under L task
    → Stacked L (moves L x (go L task u t s w)).side (moves L x (go L task u t s w)).asked (moves L x (go L task u t s w)).served
go-stacks L x task u t s w h a b = settle-stacks L x task (own L u t s w) (own-sends L u t s w ∙ h) a b

awaits-more : (L : Lang) (task : Task L) (k : L.A → TreeOf L) (asked : List ℕ) → length asked ≡ questions L (Await task k) → length asked ≡ suc (asks-under L task)
awaits-more L Texting k asked h = h
awaits-more L (Serving p) k asked h = h

serves-same : (L : Lang) (task : Task L) (k : L.A → TreeOf L) (served : List ℕ) → length served ≡ servings L (Await task k) → length served ≡ serves-under L task
serves-same L Texting k served h = h
serves-same L (Serving p) k served h = h

-- one arrival, the side being y
same-sent : (L : Lang) (x y : Half L) → x ≡ y → sent L (written L y) ≡ sent L (written L x)
same-sent L x y q = ap (λ z. sent L (written L z)) (sym q)

reads-stacks : (L : Lang) (x : Tally L) (y : Half L) (m : Message L) → x.side ≡ y → Stacked L y x.asked x.served →
    (let z : Tally L = moves L (tallied L x m) (react L y (Got m)) in Stacked L z.side z.asked z.served)
reads-stacks L x (Going p s u w) (Request r) q (a, b) =
    go-stacks L (tallied L x (Request r)) (Serving p) u (serve L r) s w (same-sent L x.side (Going p s u w) q) a (ap suc b)
reads-stacks L x (Going (Over o) s u w) (Reply m) q h = tt
reads-stacks L x (Going (Await task k) s u w) (Reply m) q (a, b) =
    go-stacks L (tallied L x (Reply m)) task u (k (L.read_a s m)) s w (same-sent L x.side (Going (Await task k) s u w) q)
    (one-less x.asked (asks-under L task) (awaits-more L task k x.asked a)) (serves-same L task k x.served b)
reads-stacks L x (Failed f s u w) m q h = tt

begins-stacks : (L : Lang) (x : Tally L) (y : Half L) (t : TreeOf L) → x.side ≡ y → Stacked L y x.asked x.served →
    (let z : Tally L = moves L x (react L y (Begin t)) in Stacked L z.side z.asked z.served)
begins-stacks L x (Going (Over o) s u w) t q (a, b) = go-stacks L x Texting u t s w (same-sent L x.side (Going (Over o) s u w) q) a b
begins-stacks L x (Going (Await task k) s u w) t q h = tt
begins-stacks L x (Failed f s u w) t q h = tt

breaks-stacks : (L : Lang) (y : Half L) (asked served : List ℕ) → Stacked L (breaks L y) asked served
breaks-stacks L (Going p s u w) asked served = tt
breaks-stacks L (Failed f s u w) asked served = tt

brings-stacks : (L : Lang) (x : Tally L) (m : Message L) (b : Bool) → Stacked L x.side x.asked x.served →
    (let z : Tally L = (if b then moves L (tallied L x m) (react L x.side (Got m)) else record x { side = breaks L x.side }) in Stacked L z.side z.asked z.served)
brings-stacks L x m true h = reads-stacks L x x.side m refl h
brings-stacks L x m false h = breaks-stacks L x.side x.asked x.served

pub stacks_fit : (L : Lang) → StacksFit L
stacks_fit L a s u [] = (refl, refl)
stacks_fit L a s u (Brings n m ∷ es) =
    let x : Tally L = tally L (idling L a s u) es in brings-stacks L x m (n == number_due L x m) (stacks_fit L a s u es)
stacks_fit L a s u (Opens t ∷ es) =
    let x : Tally L = tally L (idling L a s u) es in begins-stacks L x x.side t refl (stacks_fit L a s u es)
