use Rattle.std.proofs.Common.{◌≡◌, ◌+◌, ◌-◌, Some, length}
use Rattle.py_store.specs.Attributes.{first_holder, holder_among, lineage_within}
use Rattle.py_store.proofs.store.Store.find_attr.Given as goal

-- the answer is that for what is left of the search
abbrev pub invariant-loop : goal.invariant-loop
invariant-loop l = (l.end ≡ length l.self.cells + 1) × (first_holder l.self.cells l.number l.name ≡ holder_among l.self.cells l.name (lineage_within l.self.cells (l.end - l.counter) (Some l.holder)))
