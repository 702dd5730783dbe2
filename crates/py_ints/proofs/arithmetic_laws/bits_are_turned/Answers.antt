use Rattle.py_ints.proofs.BitLaws.{turned_bits}
use Rattle.py_ints.proofs.arithmetic_laws.bits_are_turned.Goals as goal

pub returns : goal.returns
returns c = turned_bits
