-- Worked scripts that run alone, computed.
use Rattle.std.proofs.Common.{◌≡◌, [], ◌++◌, codes, refl}
use Rattle.rp_base.specs.declared.exceptions.Beyond.TheVariants as beyond
use Rattle.language_rules.specs.Computing.{rules_computing}
use Rattle.language_rules.specs.OneInterpreter.{EndsDone, EndsOutOfFuel, EndsBeyond}
use Rattle.language_rules.proofs.Showing.{alone_shown, line}
use Rattle.language_rules.proofs.closure.{closure}
use Rattle.language_rules.proofs.cyclic.{cyclic}
use Rattle.language_rules.proofs.keys.{keys}
use Rattle.language_rules.proofs.one.{one}
use Rattle.language_rules.proofs.widest.{widest}

-- The least int of 128 bits is printed; one less is outside the subset.
widest_int : alone_shown widest 100 ≡ record { ends = EndsBeyond beyond.Int; of_b = []; of_a = line (codes "-170141183460469231731687303715884105728"); units = 13; exports = (0, 0) }
unfolding rules_computing
widest_int = refl

-- `print(1)` takes three units; with two it ends where the third is due.
one_printed : alone_shown one 3 ≡ record { ends = EndsDone; of_b = []; of_a = line (codes "1"); units = 3; exports = (0, 0) }
unfolding rules_computing
one_printed = refl

one_without_fuel : alone_shown one 2 ≡ record { ends = EndsOutOfFuel; of_b = []; of_a = []; units = 2; exports = (0, 0) }
unfolding rules_computing
one_without_fuel = refl

-- A dict keyed by 1 and True.
one_key : alone_shown keys 100 ≡ record { ends = EndsDone; of_b = []; of_a = line (codes "{1: 'yes'} True"); units = 17; exports = (0, 0) }
unfolding rules_computing
one_key = refl

-- A function that keeps a variable of the call that made it; an exception handled, and `finally`.
closures : alone_shown closure 100 ≡ record { ends = EndsDone; of_b = []; of_a = line (codes "11 13") ++ line (codes "caught division by zero") ++ line (codes "last"); units = 43; exports = (0, 0) }
unfolding rules_computing
closures = refl

-- A list that prints itself is outside the subset.
prints_itself : alone_shown cyclic 100 ≡ record { ends = EndsBeyond beyond.CyclicRepr; of_b = []; of_a = []; units = 14; exports = (0, 0) }
unfolding rules_computing
prints_itself = refl
