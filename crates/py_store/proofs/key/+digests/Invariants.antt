use Rattle.std.proofs.Common.{◌≡◌, take, map}
use Rattle.py_store.specs.Digests.{mixed_all, digest}
use Rattle.py_store.proofs.key.+digests.Given as goal

abbrev pub invariant-digest_of_items-loop-item : goal.invariant-digest_of_items-loop-item
invariant-digest_of_items-loop-item l = l.hash ≡ mixed_all 6 (map digest (take l.item-index l.items))
