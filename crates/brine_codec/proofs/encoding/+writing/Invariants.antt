use Rattle.std.proofs.Common.{◌≡◌, ◌++◌, ◌+◌, ◌*◌, length, take, map, fold, max}
use Rattle.std.specs.List.{flat_map}
use Rattle.rp_base.specs.PlainValues.{plain_depth}
use Rattle.brine_codec.specs.Spelling.{spelling, count_spelling}
use Rattle.brine_codec.proofs.encoding.+writing.Given as goal

abbrev pub decreases-put_value : goal.decreases-put_value
decreases-put_value l = 2 * plain_depth l.v.now

abbrev pub decreases-put_tuple : goal.decreases-put_tuple
decreases-put_tuple l = 2 * fold max 0 (map plain_depth l.items.now) + 1

abbrev pub invariant-put_tuple-loop-item : goal.invariant-put_tuple-loop-item
invariant-put_tuple-loop-item l = l.out.items ≡ l.fn.out.items ++ (count_spelling (length l.items) ++ flat_map spelling (take l.item-index l.items))
