use Rattle.std.proofs.Common.{true, refl}
use Rattle.value_operators.proofs.TupleLemmas.{heavy_copies}
use Rattle.value_operators.proofs.tuples.repeated.Goals as goal

pub returns-then-is_too_heavy : goal.returns-then-is_too_heavy
returns-then-is_too_heavy c = heavy_copies c.args.items.now c.args.n c.weight_of_items.result true c.weight_of_items.ensures c.if-is_too_heavy.ensures refl
