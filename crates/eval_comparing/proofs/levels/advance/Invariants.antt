use Rattle.std.proofs.Common.{◌≡◌, reverse}
use Rattle.language_rules.specs.Truth.{tells}
use Rattle.eval_comparing.specs.Answers.{steps_around}
use Rattle.eval_comparing.proofs.levels.advance.Given as goal

abbrev pub invariant-levels : goal.invariant-levels
invariant-levels l = steps_around (reverse l.fn.levels) (tells l.fn.holds) ≡ steps_around (reverse l.levels) (tells l.holds)
