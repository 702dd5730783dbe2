-- What printing gives at a tuple.
use Rattle.std.specs.Prelude.{◌≡◌, ℕ, List, map}
use Rattle.std.proofs.Common.{ap}
use Rattle.rp_base.specs.declared.plain.Plain.{Plain}
use Rattle.rp_base.specs.declared.plain.Plain.TheOpen.{Plain-F}
use Rattle.rp_base.specs.declared.plain.Plain.TheVariants as plain
use Rattle.rp_base.specs.PlainLaws.{gather_tuple, look_tuple}
use Rattle.py_plain.specs.Printing.{tuple_repr, repr_step, repr_of, text_or, str_of}

pub repr_tuple : (xs : List Plain) → repr_of (plain.Tuple xs) ≡ tuple_repr (map repr_of xs)
unfolding repr_of
repr_tuple xs = gather_tuple (List ℕ) repr_step xs

pub str_tuple : (xs : List Plain) → str_of (plain.Tuple xs) ≡ repr_of (plain.Tuple xs)
unfolding str_of
str_tuple xs = ap (λ (l : Plain-F Plain). text_or l (repr_of (plain.Tuple xs))) (look_tuple xs)
