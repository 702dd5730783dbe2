-- More worked pairs: dicts, loops over the other side's collections, printing across sides.
use Rattle.std.proofs.Common.{◌≡◌, [], ◌++◌, codes, refl}
use Rattle.language_rules.specs.Computing.{rules_computing}
use Rattle.language_rules.specs.OneInterpreter.{EndsDone}
use Rattle.language_rules.proofs.Showing.{pair_shown, line}
use Rattle.language_rules.proofs.drain_a.{drain_a}
use Rattle.language_rules.proofs.drain_b.{drain_b}
use Rattle.language_rules.proofs.keys_a.{keys_a}
use Rattle.language_rules.proofs.keys_b.{keys_b}
use Rattle.language_rules.proofs.nested_a.{nested_a}
use Rattle.language_rules.proofs.nested_b.{nested_b}

-- `True` and `1` are one key, and the first spelling stays.
keys_across : pair_shown keys_b keys_a 100 ≡ record { ends = EndsDone; of_b = []; of_a = line (codes "one True True") ++ line (codes "{1: 'yes'}"); units = 32; exports = (0, 3) }
unfolding rules_computing
keys_across = refl

-- A `for` over a list of B, which each turn shortens; then the same list drained.
drained_across : pair_shown drain_b drain_a 100 ≡ record { ends = EndsDone; of_b = []; of_a = line (codes "1 [1] ['a', 'b']"); units = 50; exports = (0, 2) }
unfolding rules_computing
drained_across = refl

-- A list of A with a list of B in it, and a tuple with it.
printed_across : pair_shown nested_b nested_a 100 ≡ record { ends = EndsDone; of_b = []; of_a = line (codes "[[1, {'k': [2, 'x']}], (3, [1, {'k': [2, 'x']}])]"); units = 31; exports = (0, 3) }
unfolding rules_computing
printed_across = refl
