use Rattle.std.proofs.Common.{◌≡◌, ◌-◌, ◌+◌, ◌*◌}
use Rattle.brine_codec.specs.Reading.{items_at, value_at}
use Rattle.brine_codec.proofs.Loop.{with_front}
use Rattle.brine_codec.proofs.decoding.+reading.Given as goal

abbrev pub decreases-read_items : goal.decreases-read_items
decreases-read_items l = 3 * l.levels + 2

abbrev pub decreases-read_tuple : goal.decreases-read_tuple
decreases-read_tuple l = 3 * l.levels

abbrev pub decreases-read_value : goal.decreases-read_value
decreases-read_value l = 3 * l.levels + 1

abbrev pub invariant-read_items-loop : goal.invariant-read_items-loop
invariant-read_items-loop l = with_front l.items (items_at (value_at l.levels) (l.count - l.counter) l.rest) ≡ items_at (value_at l.levels) l.count l.bytes
