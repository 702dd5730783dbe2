use Rattle.std.proofs.Common.{refl}
use Rattle.py_plain.specs.Printing.{repr_of, str_of}
use Rattle.py_plain.specs.PrintingLaws.{repr_tuple, str_tuple}
use Rattle.py_plain.proofs.laws.values_print_as_their_kinds.Goals as goal

pub returns : goal.returns
unfolding repr_of str_of
returns c = record { text = λ t. refl; quoted = λ t. refl; bytes = λ b. refl; int = λ n. refl; tuple = repr_tuple; item_itself = str_tuple }
