-- The one-heap law for every language and every heap: two trees are alike where one does to the heap what the other does to its two parts.
use Rattle.std.proofs.Common.{◌≡◌, Bool, true, false, List, [], ◌∷◌, ℕ, zero, suc, refl, ap, ◌∙◌}
use Rattle.side_trees.specs.Trees.{Return, Act, Tell, Stop, Spend, Do, Ask, Done, Asked, Stopped, NoFuel, bind}
use Rattle.side_trees.specs.Sides.{Lang, TreeOf, Request, Reply, Sends, Shows}
use Rattle.side_trees.specs.SharedRun.{Side, A, B, other, Two, over, Heap, two_parts, Put, Entry, Puts, Begins, Code2, Own, Cross, Tree2, Ended2, answer, both, expand2, run2, Text, Course, Rests, Leaves, Dry, closes, may_begin, text_if, one_text, one}
use Rattle.side_trees.specs.Joining.{parts, in_parts, OneHeap}

data Alike (L : Lang) (H : Heap L) : Tree2 L H → Tree2 L (two_parts L) → Type 0 where
  Returns : (a : L.A) → Alike L H (Return a) (Return a)
  Acts : {g : H.W → H.W} {g' : Two L.S → Two L.S} {f : H.W → Tree2 L H} {f' : Two L.S → Tree2 L (two_parts L)}
      → ((w : H.W) → parts L H (g w) ≡ g' (parts L H w)) → ((w : H.W) → Alike L H (f w) (f' (parts L H w))) → Alike L H (Act g f) (Act g' f')
  Tells : {t : Tree2 L H} {t' : Tree2 L (two_parts L)} (p : Put L) → Alike L H t t' → Alike L H (Tell p t) (Tell p t')
  Stops : (x : L.K) → Alike L H (Stop x) (Stop x)
  Spends : {k : L.A → Tree2 L H} {k' : L.A → Tree2 L (two_parts L)} (c : Code2 L) → ((a : L.A) → Alike L H (k a) (k' a)) → Alike L H (Spend c k) (Spend c k')
  Does : {k : L.A → Tree2 L H} {k' : L.A → Tree2 L (two_parts L)} (o : Code2 L) (c : L.A → Code2 L) → ((a : L.A) → Alike L H (k a) (k' a)) → Alike L H (Do o c k) (Do o c k')

alike-bind : (L : Lang) (H : Heap L) {t : Tree2 L H} {t' : Tree2 L (two_parts L)} {r : L.A → Tree2 L H} {r' : L.A → Tree2 L (two_parts L)}
    → Alike L H t t' → ((a : L.A) → Alike L H (r a) (r' a)) → Alike L H (bind t r) (bind t' r')
alike-bind L H (Returns a) rs = rs a
alike-bind L H (Acts gs fs) rs = Acts gs (λ w. alike-bind L H (fs w) rs)
alike-bind L H (Tells p ts) rs = Tells p (alike-bind L H ts rs)
alike-bind L H (Stops x) rs = Stops x
alike-bind L H (Spends c ks) rs = Spends c (λ a. alike-bind L H (ks a) rs)
alike-bind L H (Does o c ks) rs = Does o c (λ a. alike-bind L H (ks a) rs)

-- a change of a side's part is that change in the pair of parts
abbrev pair : (L : Lang) → L.S → L.S → Two L.S
pair L x y = record { of_a = x; of_b = y }

parts-changed : (L : Lang) (H : Heap L) (h : Side) (g : L.S → L.S) (w : H.W) → parts L H (H.changed_by h g w) ≡ over h g (parts L H w)
parts-changed L H A g w =
    ap (λ x. pair L x (H.seen_by B (H.changed_by A g w))) (H.seen_changed A g w) ∙ ap (λ y. pair L (g (H.seen_by A w)) y) (H.seen_across A g w)
parts-changed L H B g w =
    ap (λ y. pair L (H.seen_by A (H.changed_by B g w)) y) (H.seen_changed B g w) ∙ ap (λ x. pair L x (g (H.seen_by B w))) (H.seen_across B g w)

alike-both : (L : Lang) (H : Heap L) (h : Side) (t : TreeOf L) → Alike L H (both L H h t) (both L (two_parts L) h t)
alike-both L H h (Return a) = Returns a
alike-both L H A (Act g f) = Acts (parts-changed L H A g) (λ w. alike-both L H A (f (H.seen_by A w)))
alike-both L H B (Act g f) = Acts (parts-changed L H B g) (λ w. alike-both L H B (f (H.seen_by B w)))
alike-both L H h (Tell o t) = Tells (record { side = h; what = Shows o }) (alike-both L H h t)
alike-both L H h (Stop x) = Stops x
alike-both L H h (Spend c k) = Spends (Own h c) (λ a. alike-both L H h (k a))
alike-both L H h (Do o c k) = Does (Own h o) (λ a. Own h (c a)) (λ a. alike-both L H h (k a))
alike-both L H A (Ask q c k) = Acts (λ w. refl) (λ w.
    Tells (record { side = A; what = Sends (Request (L.box_q (H.seen_by A w) q)) }) (Spends (Cross A (L.box_q (H.seen_by A w) q) c) (λ a. alike-both L H A (k a))))
alike-both L H B (Ask q c k) = Acts (λ w. refl) (λ w.
    Tells (record { side = B; what = Sends (Request (L.box_q (H.seen_by B w) q)) }) (Spends (Cross B (L.box_q (H.seen_by B w) q) c) (λ a. alike-both L H B (k a))))

alike-answer : (L : Lang) (H : Heap L) (h : Side) (a : L.A) {r : L.A → Tree2 L H} {r' : L.A → Tree2 L (two_parts L)}
    → ((a' : L.A) → Alike L H (r a') (r' a')) → Alike L H (answer L H h a r) (answer L (two_parts L) h a r')
alike-answer L H A a rs = Acts (λ w. refl) (λ w.
    Tells (record { side = A; what = Sends (Reply (L.box_a (H.seen_by A w) a)) }) (rs (L.read_a (H.seen_by B w) (L.box_a (H.seen_by A w) a))))
alike-answer L H B a rs = Acts (λ w. refl) (λ w.
    Tells (record { side = B; what = Sends (Reply (L.box_a (H.seen_by B w) a)) }) (rs (L.read_a (H.seen_by A w) (L.box_a (H.seen_by B w) a))))

alike-expand : (L : Lang) (H : Heap L) (x : Code2 L) → Alike L H (expand2 L H x) (expand2 L (two_parts L) x)
alike-expand L H (Own h c) = alike-both L H h (L.expand c)
alike-expand L H (Cross h r c) =
    alike-bind L H (alike-both L H (other h) (L.expand (L.read_q r))) (λ a. alike-answer L H (other h) a (λ a'. alike-both L H h (L.expand (c a'))))

-- the end of a run, seen by its two parts
abbrev end_in_parts : (L : Lang) (H : Heap L) → Ended2 L H → Ended2 L (two_parts L)
end_in_parts L H (Done a w u talk) = Done a (parts L H w) u talk
end_in_parts L H (Stopped k w u talk) = Stopped k (parts L H w) u talk
end_in_parts L H (NoFuel w talk) = NoFuel (parts L H w) talk
end_in_parts L H (Asked q k w u talk) = absurd q

-- runs of trees that are alike; by recursion on the units, and then on the trees
alike-run : (L : Lang) (H : Heap L) (u : ℕ) {t : Tree2 L H} {t' : Tree2 L (two_parts L)} → Alike L H t t' → (w : H.W) (talk : List (Entry L))
    → end_in_parts L H (run2 L H u t w talk) ≡ run2 L (two_parts L) u t' (parts L H w) talk
alike-run L H u (Returns a) w talk = refl
alike-run L H u (Acts {g = g} {f' = f'} gs fs) w talk =
    alike-run L H u (fs w) (g w) talk ∙ ap (λ st. run2 L (two_parts L) u (f' (parts L H w)) st talk) (gs w)
alike-run L H u (Tells p ts) w talk = alike-run L H u ts w (Puts p.side p.what ∷ talk)
alike-run L H u (Stops x) w talk = refl
alike-run L H zero (Spends c ks) w talk = refl
alike-run L H (suc u) (Spends c ks) w talk = alike-run L H u (alike-bind L H (alike-expand L H c) ks) w talk
alike-run L H zero (Does o c ks) w talk = refl
alike-run L H (suc u) (Does o c ks) w talk =
    alike-run L H u (alike-bind L H (alike-expand L H o) (λ a. alike-bind L H (alike-expand L H (c a)) ks)) w talk

-- a text more, and the texts in turn
closes-in_parts : (L : Lang) (H : Heap L) (h : Side) (outs : Two L.A) (x : Ended2 L H) → in_parts L H (closes L H h outs x) ≡ closes L (two_parts L) h outs (end_in_parts L H x)
closes-in_parts L H h outs (Done a w u talk) = refl
closes-in_parts L H h outs (Stopped k w u talk) = refl
closes-in_parts L H h outs (NoFuel w talk) = refl
closes-in_parts L H h outs (Asked q k w u talk) = absurd q

text_if-in_parts : (L : Lang) (H : Heap L) (may : Bool) (x : Text L) (outs : Two L.A) (w : H.W) (u : ℕ) (talk : List (Entry L))
    → in_parts L H (text_if L H may x outs w u talk) ≡ text_if L (two_parts L) may x outs (parts L H w) u talk
text_if-in_parts L H true x outs w u talk =
    closes-in_parts L H x.side outs (run2 L H u (both L H x.side x.tree) w (Begins x.side x.tree ∷ talk))
    ∙ ap (closes L (two_parts L) x.side outs) (alike-run L H u (alike-both L H x.side x.tree) w (Begins x.side x.tree ∷ talk))
text_if-in_parts L H false x outs w u talk = refl

text-in_parts : (L : Lang) (H : Heap L) (x : Text L) (course : Course L H) → in_parts L H (one_text L H x course) ≡ one_text L (two_parts L) x (in_parts L H course)
text-in_parts L H x (Rests outs w u talk) = text_if-in_parts L H (may_begin L outs) x outs w u talk
text-in_parts L H x (Leaves k w u talk) = refl
text-in_parts L H x (Dry w talk) = refl

-- the one-heap law
pub one_heap : (L : Lang) (H : Heap L) → OneHeap L H
one_heap L H outs w f [] = refl
one_heap L H outs w f (x ∷ xs) = text-in_parts L H x (one L H outs w f xs) ∙ ap (one_text L (two_parts L) x) (one_heap L H outs w f xs)
