-- Joining the trees of one home on the one heap.
use Rattle.std.proofs.Common.{◌≡◌, refl, ap}
use Rattle.std.proofs.Math.Path.{fun_ext}
use Rattle.side_trees.specs.Trees.{Return, Act, Tell, Stop, Spend, Do, Ask, bind}
use Rattle.side_trees.specs.Sides.{Lang, TreeOf, Request, Sends, Shows}
use Rattle.side_trees.specs.SharedRun.{Side, Heap, Own, Cross, Tree2, both}

-- what is joined at one home is joined on the one heap
pub both-bind : (L : Lang) (H : Heap L) (h : Side) (t : TreeOf L) (k : L.A → TreeOf L) (r : L.A → Tree2 L H)
    → bind (both L H h (bind t k)) r ≡ bind (both L H h t) (λ a. bind (both L H h (k a)) r)
both-bind L H h (Return a) k r = refl
both-bind L H h (Act g f) k r = ap {B = Tree2 L H} (λ x. Act (H.changed_by h g) x) (fun_ext (λ w. both-bind L H h (f (H.seen_by h w)) k r))
both-bind L H h (Tell o t) k r = ap {B = Tree2 L H} (λ x. Tell (record { side = h; what = Shows o }) x) (both-bind L H h t k r)
both-bind L H h (Stop x) k r = refl
both-bind L H h (Spend c f) k r = ap {B = Tree2 L H} (λ x. Spend (Own h c) x) (fun_ext (λ a. both-bind L H h (f a) k r))
both-bind L H h (Do o c f) k r = ap {B = Tree2 L H} (λ x. Do (Own h o) (λ a. Own h (c a)) x) (fun_ext (λ a. both-bind L H h (f a) k r))
both-bind L H h (Ask q c f) k r =
    ap {B = Tree2 L H}
    (λ (x : L.A → Tree2 L H). Act (λ w. w) (λ w. Tell (record { side = h; what = Sends (Request (L.box_q (H.seen_by h w) q)) }) (Spend (Cross h (L.box_q (H.seen_by h w) q) c) x)))
    (fun_ext (λ a. both-bind L H h (f a) k r))
