use Rattle.py_ints.proofs.Division.{law, range}
use Rattle.py_ints.proofs.arithmetic_laws.division_leaves_the_remainder.Goals as goal

pub returns-clause-dividend : goal.returns-clause-dividend
returns-clause-dividend c = law

pub returns-clause-remainder : goal.returns-clause-remainder
returns-clause-remainder c = range
