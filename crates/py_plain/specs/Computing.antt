-- The name that opens the recursions of this crate too: a worked example is `refl` under `unfolding plain_computing`.
use Rattle.std.specs.Prelude.{ℕ}
use Rattle.std.specs.Str.{chars}
use lib.Utf8.{encode}
use Rattle.rp_base.specs.Computing.{computing}
use Rattle.py_strs.specs.Quoting.{hex, text_repr, bytes_repr}
use Rattle.py_plain.specs.Comparing.{order_of}
use Rattle.py_plain.specs.Printing.{repr_of, str_of}

unfoldable pub plain_computing : ℕ
unfolding computing chars encode hex text_repr bytes_repr repr_of str_of order_of
plain_computing = 0
