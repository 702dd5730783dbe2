use Rattle.py_ints.proofs.BitLaws.{and_bits, or_bits, xor_bits}
use Rattle.py_ints.proofs.Fitting.{is_fits}
use Rattle.py_ints.proofs.arithmetic_laws.bits_are_taken_in_pairs.Goals as goal

pub returns-clause-both : goal.returns-clause-both
returns-clause-both c = λ a b i f g. and_bits a b i (is_fits a f) (is_fits b g)

pub returns-clause-either : goal.returns-clause-either
returns-clause-either c = λ a b i f g. or_bits a b i (is_fits a f) (is_fits b g)

pub returns-clause-differing : goal.returns-clause-differing
returns-clause-differing c = λ a b i f g. xor_bits a b i (is_fits a f) (is_fits b g)
