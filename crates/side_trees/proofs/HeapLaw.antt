-- What both sides see does not depend on the order of a change of one and a change of the other.
use Rattle.std.proofs.Common.{◌≡◌, sym, ap, ◌∙◌}
use Rattle.side_trees.specs.Sides.{Lang}
use Rattle.side_trees.specs.SharedRun.{Side, A, B, other, Heap}

-- a side sees its own change, before and after one of the other
last-change : (L : Lang) (H : Heap L) (h : Side) (g f : L.S → L.S) (w : H.W) → H.seen_by (other h) (H.changed_by h g (H.changed_by (other h) f w)) ≡ f (H.seen_by (other h) w)
last-change L H h g f w = H.seen_across h g (H.changed_by (other h) f w) ∙ H.seen_changed (other h) f w

first-change : (L : Lang) (H : Heap L) (h : Side) (g f : L.S → L.S) (w : H.W) → H.seen_by (other h) (H.changed_by (other h) f (H.changed_by h g w)) ≡ f (H.seen_by (other h) w)
first-change L H h g f w = H.seen_changed (other h) f (H.changed_by h g w) ∙ ap f (H.seen_across h g w)

pub changes-commute : (L : Lang) (H : Heap L) (k : Side) (g f : L.S → L.S) (w : H.W) → H.seen_by k (H.changed_by A g (H.changed_by B f w)) ≡ H.seen_by k (H.changed_by B f (H.changed_by A g w))
changes-commute L H A g f w = sym (last-change L H B f g w ∙ sym (first-change L H B f g w))
changes-commute L H B g f w = last-change L H A g f w ∙ sym (first-change L H A g f w)
