use Rattle.std.proofs.Common.{◌≡◌, drop}
use Rattle.value_operators.specs.Finding.{is_among}
use Rattle.value_operators.proofs.membership.is_among.Given as goal

abbrev pub invariant-loop-item : goal.invariant-loop-item
invariant-loop-item l = is_among l.value l.items ≡ is_among l.value (drop l.item-index l.items)
