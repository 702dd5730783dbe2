-- Worked scripts of operators, expressions and methods of texts, computed by the checker. Python 3 prints the same, but for the texts of its TypeErrors; the units were counted by hand.
use Rattle.std.proofs.Common.{◌≡◌, ℕ, List, [], ◌∷◌, ◌++◌, codes, refl}
use Rattle.rp_base.specs.declared.exceptions.Beyond.TheVariants as beyond
use Rattle.language_rules.specs.Computing.{rules_computing}
use Rattle.language_rules.specs.OneInterpreter.{EndsDone, EndsBeyond}
use Rattle.language_rules.proofs.Showing.{alone_shown, line}
use Rattle.language_rules.proofs.methods.{methods}
use Rattle.language_rules.proofs.operators.{operators}
use Rattle.language_rules.proofs.refused.{refused}

abbrev lines : List (List ℕ) → List ℕ
lines [] = []
lines (l ∷ ls) = line l ++ lines ls

pub operators_shown : alone_shown operators 2000 ≡ record {
  ends = EndsDone;
  of_b = [];
  of_a = lines (
      codes "True True"
      ∷ codes "-4 2 -4 1024 (1,) ()"
      ∷ codes "a+b a,b"
      ∷ codes "[1, 2, 3] [1, 2, 3, 1, 2, 3] [1, 2, 3, 4] True True"
      ∷ codes "{1: 6, 2: [[1, 2, 3]]} 6 True False"
      ∷ codes "1"
      ∷ codes "2"
      ∷ codes "3"
      ∷ codes "5"
      ∷ codes "3 0 False"
      ∷ codes "6"
      ∷ codes "7"
      ∷ codes "8"
      ∷ codes "11"
      ∷ codes "12"
      ∷ codes "False 2"
      ∷ codes "3 ([1, 2, 3], 1)"
      ∷ []);
  units = 254;
  exports = (0, 0);
}
unfolding rules_computing
operators_shown = refl

pub methods_shown : alone_shown methods 2000 ≡ record {
  ends = EndsDone;
  of_b = [];
  of_a = lines (
      codes "2 -1 a True False"
      ∷ codes "a-b-c a|b|c ba"
      ∷ codes "([1], 1, 2) ([1], 1, [1], 1) -3 1 -6 False False"
      ∷ codes "7 -5 True False True True"
      ∷ codes "20"
      ∷ codes "list index out of range True"
      ∷ codes "8"
      ∷ []);
  units = 249;
  exports = (0, 0);
}
unfolding rules_computing
methods_shown = refl

pub refused_shown : alone_shown refused 2000 ≡ record {
  ends = EndsBeyond beyond.Operator;
  of_b = [];
  of_a = lines (
      codes "unsupported operand"
      ∷ codes "unsupported operand"
      ∷ codes "unsupported operand"
      ∷ codes "unsupported operand"
      ∷ codes "unsupported operand"
      ∷ codes "unsupported operand"
      ∷ codes "unsupported operand"
      ∷ codes "unsupported operand"
      ∷ codes "unsupported operand"
      ∷ codes "unsupported operand"
      ∷ codes "no order"
      ∷ codes "unsupported operand"
      ∷ codes "not iterable"
      ∷ codes "text expected"
      ∷ codes "empty separator"
      ∷ []);
  units = 276;
  exports = (0, 0);
}
unfolding rules_computing
refused_shown = refl
