use Rattle.std.proofs.Common.{◌≡◌, take}
use Rattle.eval_comparing.proofs.meeting.value_items.Given as goal

abbrev pub invariant-loop-item : goal.invariant-loop-item
invariant-loop-item l = l.all ≡ take l.item-index l.items
