use Rattle.std.proofs.Common.{◌≡◌, take, map}
use Rattle.rp_base.specs.declared.value.Value.TheVariants as value
use Rattle.eval_comparing.proofs.meeting.plain_items.Given as goal

abbrev pub invariant-loop-item : goal.invariant-loop-item
invariant-loop-item l = l.all ≡ map (λ p. value.Plain p) (take l.item-index l.items)
