use Rattle.std.proofs.Common.{◌≡◌, ℕ, suc, ◌+◌, ap, ◌∙◌, arith}
use Rattle.std.specs.Int.{int_pow}
use Rattle.py_ints.proofs.Powers.{no_power, one_more}
use Rattle.py_ints.proofs.arithmetic_laws.powers_are_products.Goals as goal

pub returns-clause-none : goal.returns-clause-none
returns-clause-none c = no_power

pub returns-clause-more : goal.returns-clause-more
returns-clause-more c = λ a e. let is : e + 1 ≡ suc e = omega arith in ap (λ (k : ℕ). int_pow a k) is ∙ one_more a e
