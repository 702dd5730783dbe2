-- Law 2 for every language and every heap: while the one interpreter runs, its continuations are what waits at the two sides in turn.
use Rattle.std.proofs.Common.{◌≡◌, Bool, true, false, ◌&&◌, List, [], ◌∷◌, ℕ, zero, suc, ◌+◌, refl, sym, ap, ◌∙◌, subst, arith}
use Rattle.std.proofs.Math.Path.{fun_ext}
use Rattle.side_trees.specs.Trees.{Return, Act, Tell, Stop, Spend, Do, Ask, bind}
use Rattle.side_trees.specs.Sides.{Lang, TreeOf, Request, Reply, Item, Sends, Shows, Got, Begin, Pending, Over, Await, Task, Texting, Serving, Going, go, react, half, written}
use Rattle.side_trees.specs.SharedRun.{Side, A, B, other, Two, part, Heap, Entry, Puts, Begins, Tree2, answer, both, run2, wrote, heard, Text, Course, Rests, Leaves, Dry, closes, may_begin, text_if, one_text, one}
use Rattle.side_trees.specs.Growing.{Extends}
use Rattle.side_trees.specs.Joining.{Sides, starts, Comes, waits, MayBegin, Causal, CausalAt, Joined, OneIsTwo}
use Rattle.side_trees.proofs.GrowthLaw.{go-extends}
use Rattle.side_trees.proofs.BindLaw.{bind-return, bind-bind}
use Rattle.side_trees.proofs.HomeTrees.{both-bind}

-- The continuations that are pending while the one interpreter runs at a side, innermost first. They alternate between the sides, since a side that runs under another serves it.
data Stack (L : Lang) : Type 0 where
  Bottom : Stack L
  Under : (L.A → TreeOf L) → Stack L → Stack L

-- the side whose text it is, where side h runs over a stack
abbrev home : (L : Lang) → Side → Stack L → Side
home L h Bottom = h
home L h (Under k j) = home L (other h) j

-- the stack as the one interpreter's continuation
abbrev rest : (L : Lang) (H : Heap L) → Side → Stack L → L.A → Tree2 L H
rest L H h Bottom a = Return a
rest L H h (Under k j) a = answer L H h a (λ a'. bind (both L H (other h) (k a')) (λ v. rest L H (other h) j v))

-- the stack as the running side's task, and as what waits at the other side, whose last text gave b
abbrev hold : (L : Lang) → L.A → Stack L → Task L × Pending L
hold L b Bottom = (Texting, Over b)
hold L b (Under k j) = (Serving (hold L b j).1, Await (hold L b j).0 k)

-- side h is in the middle of a tree, and the other side waits
abbrev Meeting : (L : Lang) (H : Heap L) → Sides L → L.A → Side → Stack L → TreeOf L → H.W → List (Entry L) → ℕ → ℕ → Type 0
Meeting L H start b h j t w talk n m =
    Comes L start h n talk (λ d. go L (hold L b j).0 d t (H.seen_by h w) (wrote L h talk))
    × Comes L start (other h) m talk (waits L H (hold L b j).1 (other h) w talk)
    × CausalAt L start h n m talk

-- an item put by the side that runs
put-causal : (L : Lang) (start : Sides L) (h : Side) (n m : ℕ) (i : Item L) (talk : List (Entry L)) → CausalAt L start h n m talk
    → ((d : ℕ) → Extends (written L (half L (start h (n + d)) (heard L h talk))) (i ∷ wrote L h talk))
    → CausalAt L start h n m (Puts h i ∷ talk)
put-causal L start A n m i talk causal puts = λ d d'. (causal d d', puts d)
put-causal L start B n m i talk causal puts = λ d d'. (causal d d', puts d')

moved : (n d : ℕ) → suc n + d ≡ n + suc d
moved n d = omega arith

more-causal : (L : Lang) (start : Sides L) (h : Side) (n m : ℕ) (talk : List (Entry L)) → CausalAt L start h n m talk → CausalAt L start h (suc n) m talk
more-causal L start A n m talk causal = λ d d'. subst (λ x. Causal L (start A x) (start B (m + d')) talk) (sym (moved n d)) (causal (suc d) d')
more-causal L start B n m talk causal = λ d d'. subst (λ x. Causal L (start A (m + d)) (start B x) talk) (sym (moved n d')) (causal d (suc d'))

-- a change of the state: the side sees it, the other does not
meets-act : (L : Lang) (H : Heap L) (start : Sides L) (b : L.A) (h : Side) (j : Stack L) (g : L.S → L.S) (f : L.S → TreeOf L) (w : H.W) (talk : List (Entry L)) (n m : ℕ)
    → Meeting L H start b h j (Act g f) w talk n m → Meeting L H start b h j (f (H.seen_by h w)) (H.changed_by h g w) talk n m
meets-act L H start b h j g f w talk n m (own, across, causal) = (
  λ d. own d ∙ ap (λ s. go L (hold L b j).0 d (f (H.seen_by h w)) s (wrote L h talk)) (sym (H.seen_changed h g w)),
  λ d. across d ∙ ap (λ s. Going (hold L b j).1 s d (wrote L (other h) talk)) (sym (H.seen_across h g w)),
  causal,
)

-- a print: only the record grows
shown-more : (L : Lang) (H : Heap L) (start : Sides L) (b : L.A) (h : Side) (j : Stack L) (o : L.O) (t : TreeOf L) (w : H.W) (talk : List (Entry L)) (n m : ℕ)
    → Meeting L H start b h j (Tell o t) w talk n m → (d : ℕ) → Extends (written L (half L (start h (n + d)) (heard L h talk))) (Shows o ∷ wrote L h talk)
shown-more L H start b h j o t w talk n m (own, across, causal) d =
    subst (λ x. Extends (written L x) (Shows o ∷ wrote L h talk)) (sym (own d)) (go-extends L (hold L b j).0 d t (H.seen_by h w) (Shows o ∷ wrote L h talk))

meets-shows : (L : Lang) (H : Heap L) (start : Sides L) (b : L.A) (h : Side) (j : Stack L) (o : L.O) (t : TreeOf L) (w : H.W) (talk : List (Entry L)) (n m : ℕ)
    → Meeting L H start b h j (Tell o t) w talk n m → Meeting L H start b h j t w (Puts h (Shows o) ∷ talk) n m
meets-shows L H start b A j o t w talk n m (own, across, causal) =
    (own, across, put-causal L start A n m (Shows o) talk causal (shown-more L H start b A j o t w talk n m (own, across, causal)))
meets-shows L H start b B j o t w talk n m (own, across, causal) =
    (own, across, put-causal L start B n m (Shows o) talk causal (shown-more L H start b B j o t w talk n m (own, across, causal)))

-- a reply: the sides change places
abbrev reply : (L : Lang) (H : Heap L) → Side → H.W → L.A → L.Ans
reply L H h w a = L.box_a (H.seen_by h w) a

meets-replies : (L : Lang) (H : Heap L) (start : Sides L) (b : L.A) (h : Side) (k : L.A → TreeOf L) (j : Stack L) (a : L.A) (w : H.W) (talk : List (Entry L)) (n m : ℕ)
    → Meeting L H start b h (Under k j) (Return a) w talk n m
    → Meeting L H start b (other h) j (k (L.read_a (H.seen_by (other h) w) (reply L H h w a))) w (Puts h (Sends (Reply (reply L H h w a))) ∷ talk) m n
meets-replies L H start b A k j a w talk n m (own, across, causal) = (
  λ d. ap (λ x. react L x (Got (Reply (reply L H A w a)))) (across d),
  own,
  put-causal L start A n m (Sends (Reply (reply L H A w a))) talk causal (λ d. ([], ap (written L) (own d))),
)
meets-replies L H start b B k j a w talk n m (own, across, causal) = (
  λ d. ap (λ x. react L x (Got (Reply (reply L H B w a)))) (across d),
  own,
  put-causal L start B n m (Sends (Reply (reply L H B w a))) talk causal (λ d. ([], ap (written L) (own d))),
)

-- a request: the sides change places, and a unit is due
abbrev request : (L : Lang) (H : Heap L) → Side → H.W → L.Q → L.Req
request L H h w q = L.box_q (H.seen_by h w) q

abbrev after : (L : Lang) → (L.A → L.C) → (L.A → TreeOf L) → L.A → TreeOf L
after L c k a = bind (L.expand (c a)) k

meets-asks : (L : Lang) (H : Heap L) (start : Sides L) (b : L.A) (h : Side) (j : Stack L) (q : L.Q) (c : L.A → L.C) (k : L.A → TreeOf L) (w : H.W) (talk : List (Entry L)) (n m : ℕ)
    → Meeting L H start b h j (Ask q c k) w talk n m
    → Meeting L H start b (other h) (Under (after L c k) j) (Spend (L.read_q (request L H h w q)) (λ a. Return a)) w (Puts h (Sends (Request (request L H h w q))) ∷ talk) m n
meets-asks L H start b A j q c k w talk n m (own, across, causal) = (
  λ d. ap (λ x. react L x (Got (Request (request L H A w q)))) (across d),
  own,
  put-causal L start A n m (Sends (Request (request L H A w q))) talk causal (λ d. ([], ap (written L) (own d))),
)
meets-asks L H start b B j q c k w talk n m (own, across, causal) = (
  λ d. ap (λ x. react L x (Got (Request (request L H B w q)))) (across d),
  own,
  put-causal L start B n m (Sends (Request (request L H B w q))) talk causal (λ d. ([], ap (written L) (own d))),
)

-- one unit is spent by the side that runs
meets-spends : (L : Lang) (H : Heap L) (start : Sides L) (b : L.A) (h : Side) (j : Stack L) (c : L.C) (k : L.A → TreeOf L) (w : H.W) (talk : List (Entry L)) (n m : ℕ)
    → Meeting L H start b h j (Spend c k) w talk n m → Meeting L H start b h j (bind (L.expand c) k) w talk (suc n) m
meets-spends L H start b h j c k w talk n m (own, across, causal) =
    (λ d. ap (λ x. half L (start h x) (heard L h talk)) (moved n d) ∙ own (suc d), across, more-causal L start h n m talk causal)

meets-does : (L : Lang) (H : Heap L) (start : Sides L) (b : L.A) (h : Side) (j : Stack L) (o : L.C) (c : L.A → L.C) (k : L.A → TreeOf L) (w : H.W) (talk : List (Entry L)) (n m : ℕ)
    → Meeting L H start b h j (Do o c k) w talk n m → Meeting L H start b h j (bind (L.expand o) (after L c k)) w talk (suc n) m
meets-does L H start b h j o c k w talk n m (own, across, causal) =
    (λ d. ap (λ x. half L (start h x) (heard L h talk)) (moved n d) ∙ own (suc d), across, more-causal L start h n m talk causal)

-- no unit is left
plus-zero : (n : ℕ) → n ≡ n + zero
plus-zero n = omega arith

dries-spend : (L : Lang) (H : Heap L) (start : Sides L) (f : ℕ) (b : L.A) (h : Side) (j : Stack L) (c : L.C) (k : L.A → TreeOf L) (w : H.W) (talk : List (Entry L)) (n m : ℕ)
    → n + m ≡ f → Meeting L H start b h j (Spend c k) w talk n m → Joined L H start f (Dry w talk)
dries-spend L H start f b h j c k w talk n m e (own, across, causal) =
    (h, n, m, (hold L b j).1, e, ap (λ x. half L (start h x) (heard L h talk)) (plus-zero n) ∙ own zero, across, causal)

dries-do : (L : Lang) (H : Heap L) (start : Sides L) (f : ℕ) (b : L.A) (h : Side) (j : Stack L) (o : L.C) (c : L.A → L.C) (k : L.A → TreeOf L) (w : H.W) (talk : List (Entry L)) (n m : ℕ)
    → n + m ≡ f → Meeting L H start b h j (Do o c k) w talk n m → Joined L H start f (Dry w talk)
dries-do L H start f b h j o c k w talk n m e (own, across, causal) =
    (h, n, m, (hold L b j).1, e, ap (λ x. half L (start h x) (heard L h talk)) (plus-zero n) ∙ own zero, across, causal)

-- a request is carried out at the other home, its answer comes back, and the side that asked goes on
crosses : (L : Lang) (H : Heap L) (g : Side) (j : Stack L) (t : TreeOf L) (c : L.A → L.C) (k : L.A → TreeOf L)
    → bind (both L H g (bind t (λ a. Return a))) (λ v. rest L H g (Under (after L c k) j) v)
    ≡ bind (bind (both L H g t) (λ a. answer L H g a (λ a'. both L H (other g) (L.expand (c a'))))) (λ a. bind (both L H (other g) (k a)) (λ v. rest L H (other g) j v))
crosses L H g j t c k =
    both-bind L H g t (λ a. Return a) (λ v. rest L H g (Under (after L c k) j) v)
    ∙ ap (λ (r : L.A → Tree2 L H). bind (both L H g t) r)
    (fun_ext (λ a. ap (λ (r : L.A → Tree2 L H). answer L H g a r) (fun_ext (λ a'. both-bind L H (other g) (L.expand (c a')) k (λ v. rest L H (other g) j v)))))
    ∙ sym (bind-bind (both L H g t) (λ a. answer L H g a (λ a'. both L H (other g) (L.expand (c a')))) (λ a. bind (both L H (other g) (k a)) (λ v. rest L H (other g) j v)))

does : (L : Lang) (H : Heap L) (h : Side) (t : TreeOf L) (c : L.A → L.C) (k : L.A → TreeOf L) (r : L.A → Tree2 L H)
    → bind (both L H h (bind t (after L c k))) r ≡ bind (both L H h t) (λ a. bind (both L H h (L.expand (c a))) (λ a'. bind (both L H h (k a')) r))
does L H h t c k r =
    both-bind L H h t (after L c k) r ∙ ap (λ (x : L.A → Tree2 L H). bind (both L H h t) x) (fun_ext (λ a. both-bind L H h (L.expand (c a)) k r))

-- the units that are spent and those that are left
swapped : (n m u f : ℕ) → n + m + u ≡ f → m + n + u ≡ f
swapped n m u f e = omega arith

spent : (n m u f : ℕ) → n + m + suc u ≡ f → suc n + m + u ≡ f
spent n m u f e = omega arith

spent-across : (n m u f : ℕ) → n + m + suc u ≡ f → suc m + n + u ≡ f
spent-across n m u f e = omega arith

none-left : (n m f : ℕ) → n + m + zero ≡ f → n + m ≡ f
none-left n m f e = omega arith

none-left-across : (n m f : ℕ) → n + m + zero ≡ f → m + n ≡ f
none-left-across n m f e = omega arith

-- From the middle of a tree the one interpreter ends as the two sides do. The recursion is on the units, the stack and the tree.
meets-on : (L : Lang) (H : Heap L) (start : Sides L) (f : ℕ) (outs : Two L.A) (u : ℕ) (j : Stack L) (t : TreeOf L) (h : Side) (w : H.W) (talk : List (Entry L)) (n m : ℕ)
    → n + m + u ≡ f → Meeting L H start (part (other (home L h j)) outs) h j t w talk n m
    → Joined L H start f (closes L H (home L h j) outs (run2 L H u (bind (both L H h t) (λ v. rest L H h j v)) w talk))
meets-on L H start f outs u Bottom (Return a) A w talk n m e (own, across, causal) = (n, m, e, (own, across, causal))
meets-on L H start f outs u Bottom (Return a) B w talk n m e (own, across, causal) = (m, n, swapped n m u f e, (across, own, causal))
meets-on L H start f outs u (Under k j) (Return a) h w talk n m e meeting =
    meets-on L H start f outs u j (k (L.read_a (H.seen_by (other h) w) (reply L H h w a))) (other h) w (Puts h (Sends (Reply (reply L H h w a))) ∷ talk) m n
    (swapped n m u f e) (meets-replies L H start (part (other (home L h (Under k j))) outs) h k j a w talk n m meeting)
meets-on L H start f outs u j (Act g t) h w talk n m e meeting =
    meets-on L H start f outs u j (t (H.seen_by h w)) h (H.changed_by h g w) talk n m e (meets-act L H start (part (other (home L h j)) outs) h j g t w talk n m meeting)
meets-on L H start f outs u j (Tell o t) h w talk n m e meeting =
    meets-on L H start f outs u j t h w (Puts h (Shows o) ∷ talk) n m e (meets-shows L H start (part (other (home L h j)) outs) h j o t w talk n m meeting)
meets-on L H start f outs u j (Stop x) h w talk n m e (own, across, causal) =
    (h, n, m, (hold L (part (other (home L h j)) outs) j).1, e, own, across, causal)
meets-on L H start f outs zero j (Spend c k) h w talk n m e meeting =
    dries-spend L H start f (part (other (home L h j)) outs) h j c k w talk n m (none-left n m f e) meeting
meets-on L H start f outs (suc u) j (Spend c k) h w talk n m e meeting =
    subst (λ x. Joined L H start f (closes L H (home L h j) outs (run2 L H u x w talk))) (both-bind L H h (L.expand c) k (λ v. rest L H h j v))
    (meets-on L H start f outs u j (bind (L.expand c) k) h w talk (suc n) m (spent n m u f e) (meets-spends L H start (part (other (home L h j)) outs) h j c k w talk n m meeting))
meets-on L H start f outs zero j (Do o c k) h w talk n m e meeting =
    dries-do L H start f (part (other (home L h j)) outs) h j o c k w talk n m (none-left n m f e) meeting
meets-on L H start f outs (suc u) j (Do o c k) h w talk n m e meeting =
    subst (λ x. Joined L H start f (closes L H (home L h j) outs (run2 L H u x w talk))) (does L H h (L.expand o) c k (λ v. rest L H h j v))
    (meets-on L H start f outs u j (bind (L.expand o) (after L c k)) h w talk (suc n) m (spent n m u f e) (meets-does L H start (part (other (home L h j)) outs) h j o c k w talk n m meeting))
meets-on L H start f outs zero j (Ask q c k) h w talk n m e meeting =
    let b : L.A = part (other (home L h j)) outs in
    let r : L.Req = request L H h w q in
    dries-spend L H start f b (other h) (Under (after L c k) j) (L.read_q r) (λ a. Return a) w (Puts h (Sends (Request r)) ∷ talk) m n (none-left-across n m f e)
    (meets-asks L H start b h j q c k w talk n m meeting)
meets-on L H start f outs (suc u) j (Ask q c k) A w talk n m e meeting =
    let b : L.A = part (other (home L A j)) outs in
    let r : L.Req = request L H A w q in
    subst (λ x. Joined L H start f (closes L H (home L A j) outs (run2 L H u x w (Puts A (Sends (Request r)) ∷ talk)))) (crosses L H B j (L.expand (L.read_q r)) c k)
    (meets-on L H start f outs u (Under (after L c k) j) (bind (L.expand (L.read_q r)) (λ a. Return a)) B w (Puts A (Sends (Request r)) ∷ talk) (suc m) n (spent-across n m u f e)
    (meets-spends L H start b B (Under (after L c k) j) (L.read_q r) (λ a. Return a) w (Puts A (Sends (Request r)) ∷ talk) m n (meets-asks L H start b A j q c k w talk n m meeting)))
meets-on L H start f outs (suc u) j (Ask q c k) B w talk n m e meeting =
    let b : L.A = part (other (home L B j)) outs in
    let r : L.Req = request L H B w q in
    subst (λ x. Joined L H start f (closes L H (home L B j) outs (run2 L H u x w (Puts B (Sends (Request r)) ∷ talk)))) (crosses L H A j (L.expand (L.read_q r)) c k)
    (meets-on L H start f outs u (Under (after L c k) j) (bind (L.expand (L.read_q r)) (λ a. Return a)) A w (Puts B (Sends (Request r)) ∷ talk) (suc m) n (spent-across n m u f e)
    (meets-spends L H start b A (Under (after L c k) j) (L.read_q r) (λ a. Return a) w (Puts B (Sends (Request r)) ∷ talk) m n (meets-asks L H start b B j q c k w talk n m meeting)))

-- a text is begun where both sides are idle after texts that go on
abbrev Rested : (L : Lang) (H : Heap L) → Sides L → Two L.A → H.W → List (Entry L) → ℕ → ℕ → Type 0
Rested L H start outs w talk n m =
    Comes L start A n talk (waits L H (Over outs.of_a) A w talk) × Comes L start B m talk (waits L H (Over outs.of_b) B w talk) × CausalAt L start A n m talk

begin-causal : (L : Lang) (H : Heap L) (start : Sides L) (outs : Two L.A) (h : Side) (t : TreeOf L) (w : H.W) (talk : List (Entry L)) (n m : ℕ)
    → L.goes_on outs.of_a ≡ true → L.goes_on outs.of_b ≡ true → Rested L H start outs w talk n m → CausalAt L start A n m (Begins h t ∷ talk)
begin-causal L H start outs h t w talk n m a-goes b-goes (own, across, causal) = λ d d'.
    (causal d d', (ap (written L) (own d), ap (written L) (across d'), subst (MayBegin L) (sym (own d)) a-goes, subst (MayBegin L) (sym (across d')) b-goes))

text-joins : (L : Lang) (H : Heap L) (start : Sides L) (f : ℕ) (outs : Two L.A) (h : Side) (t : TreeOf L) (w : H.W) (u : ℕ) (talk : List (Entry L)) (n m : ℕ)
    → n + m + u ≡ f → L.goes_on outs.of_a ≡ true → L.goes_on outs.of_b ≡ true → Rested L H start outs w talk n m
    → Joined L H start f (closes L H h outs (run2 L H u (both L H h t) w (Begins h t ∷ talk)))
text-joins L H start f outs A t w u talk n m e a-goes b-goes (own, across, causal) =
    subst (λ x. Joined L H start f (closes L H A outs (run2 L H u x w (Begins A t ∷ talk)))) (bind-return (both L H A t))
    (meets-on L H start f outs u Bottom t A w (Begins A t ∷ talk) n m e
    (λ d. ap (λ x. react L x (Begin t)) (own d), across, begin-causal L H start outs A t w talk n m a-goes b-goes (own, across, causal)))
text-joins L H start f outs B t w u talk n m e a-goes b-goes (own, across, causal) =
    subst (λ x. Joined L H start f (closes L H B outs (run2 L H u x w (Begins B t ∷ talk)))) (bind-return (both L H B t))
    (meets-on L H start f outs u Bottom t B w (Begins B t ∷ talk) m n (swapped n m u f e)
    (λ d. ap (λ x. react L x (Begin t)) (across d), own, begin-causal L H start outs B t w talk n m a-goes b-goes (own, across, causal)))

both-true : (x y : Bool) → (x && y) ≡ true → (x ≡ true) × (y ≡ true)
both-true true y e = (refl, e)
both-true false y e = absurd (cc e)

-- the course joins on by a text, whether it may begin or not
text-if-joins : (L : Lang) (H : Heap L) (start : Sides L) (f : ℕ) (outs : Two L.A) (x : Text L) (w : H.W) (u : ℕ) (talk : List (Entry L)) (may : Bool)
    → may_begin L outs ≡ may → Joined L H start f (Rests outs w u talk) → Joined L H start f (text_if L H may x outs w u talk)
text-if-joins L H start f outs x w u talk true goes (n, m, e, rested) =
    let (a-goes, b-goes) = both-true (L.goes_on outs.of_a) (L.goes_on outs.of_b) goes in
    text-joins L H start f outs x.side x.tree w u talk n m e a-goes b-goes rested
text-if-joins L H start f outs x w u talk false goes joined = joined

joins : (L : Lang) (H : Heap L) (start : Sides L) (f : ℕ) (x : Text L) (course : Course L H) → Joined L H start f course → Joined L H start f (one_text L H x course)
joins L H start f x (Rests outs w u talk) joined = text-if-joins L H start f outs x w u talk (may_begin L outs) refl joined
joins L H start f x (Leaves k w u talk) joined = joined
joins L H start f x (Dry w talk) joined = joined

zero-plus : (d : ℕ) → zero + d ≡ d
zero-plus d = omega arith

none-spent : (u : ℕ) → zero + zero + u ≡ u
none-spent u = omega arith

begun-joined : (L : Lang) (H : Heap L) (outs : Two L.A) (w : H.W) (f : ℕ) → Joined L H (starts L H outs w) f (Rests outs w f [])
begun-joined L H outs w f = (
  zero,
  zero,
  none-spent f,
  (λ d. ap (λ x. starts L H outs w A x) (zero-plus d), λ d. ap (λ x. starts L H outs w B x) (zero-plus d), λ d d'. tt),
)

-- law 2
pub one_is_two : (L : Lang) (H : Heap L) → OneIsTwo L H
one_is_two L H outs w f [] = begun-joined L H outs w f
one_is_two L H outs w f (x ∷ xs) = joins L H (starts L H outs w) f x (one L H outs w f xs) (one_is_two L H outs w f xs)
