-- Worked examples, computed by the checker. The texts are those of CPython.
use Rattle.std.proofs.Common.{◌≡◌, [], ◌∷◌, true, false, pos, negsuc, codes, Ok, Err, refl, sym, ap, ℕ, List, ◌++◌, ◌^◌, ◌-◌}
use Rattle.py_ints.specs.IntLaws.{written}
use Rattle.ucd_category.proofs.Computing.{ucd_category}
use Rattle.rp_base.specs.declared.plain.Plain.TheVariants as plain
use Rattle.rp_base.specs.declared.operators.BinaryOp.TheVariants as op
use Rattle.rp_base.specs.declared.operators.UnaryOp.TheVariants as unary_op
use Rattle.rp_base.specs.declared.operators.CmpOp.TheVariants as cmp
use Rattle.rp_base.specs.declared.exceptions.Beyond.TheVariants as beyond
use Rattle.rp_base.specs.declared.exceptions.ExcKind.TheVariants as kind
use Rattle.py_plain.specs.declared.ends.PlainEnd.TheVariants as end
use Rattle.py_plain.specs.Answers.{raised, unsupported, no_order}
use Rattle.py_plain.specs.Arithmetic.{unary, binary}
use Rattle.py_plain.specs.Comparing.{truth, compared}
use Rattle.py_plain.specs.Printing.{repr_of, str_of}
use Rattle.py_plain.specs.Computing.{plain_computing}

-- ("it's", b"\x00'", "\n")
pub three_printed : repr_of (plain.Tuple (plain.Text (codes "it's") ∷ plain.Bytes (0 ∷ 39 ∷ []) ∷ plain.Text (10 ∷ []) ∷ [])) ≡ codes "(\"it's\", b\"\\x00'\", '\\n')"
unfolding ucd_category plain_computing
three_printed = refl

-- (True, (False,), (), None, NotImplemented, ...)
pub names_printed : repr_of (plain.Tuple (plain.Bool true ∷ plain.Tuple (plain.Bool false ∷ []) ∷ plain.Tuple [] ∷ plain.None ∷ plain.NotImpl ∷ plain.Ellipsis ∷ [])) ≡ codes "(True, (False,), (), None, NotImplemented, Ellipsis)"
unfolding ucd_category plain_computing
names_printed = refl

-- the str of a text is the text, that of a tuple with it has the repr
pub text_itself : str_of (plain.Text (codes "a'b\n")) ≡ codes "a'b\n"
unfolding ucd_category plain_computing
text_itself = refl

pub text_in_tuple : str_of (plain.Tuple (plain.Text (codes "a") ∷ [])) ≡ codes "('a',)"
unfolding ucd_category plain_computing
text_in_tuple = refl

pub bytes_have_a_repr : str_of (plain.Bytes (codes "a")) ≡ codes "b'a'"
unfolding ucd_category plain_computing
bytes_have_a_repr = refl

-- the least int of 128 bits
pub least_printed : repr_of (plain.Int (negsuc (2 ^ 127 - 1))) ≡ codes "-170141183460469231731687303715884105728"
unfolding plain_computing
least_printed = sym (written (codes "-170141183460469231731687303715884105728") (negsuc (2 ^ 127 - 1)) refl refl refl)

-- (-1,)
pub tuple_of_an_int : repr_of (plain.Tuple (plain.Int (negsuc 0) ∷ [])) ≡ codes "(-1,)"
unfolding plain_computing
tuple_of_an_int = ap (λ (digits : List ℕ). codes "(" ++ digits ++ codes ",)") (sym (written (codes "-1") (negsuc 0) refl refl refl))

-- ---- operators

-- True + True, True & False, and True & 3
pub two_bools : binary op.Add (plain.Bool true) (plain.Bool true) ≡ Ok (plain.Int (pos 2))
unfolding plain_computing
two_bools = refl

pub bools_stay_bools : binary op.And (plain.Bool true) (plain.Bool false) ≡ Ok (plain.Bool false)
unfolding plain_computing
bools_stay_bools = refl

pub bool_and_int : binary op.And (plain.Bool true) (plain.Int (pos 3)) ≡ Ok (plain.Int (pos 1))
unfolding plain_computing
bool_and_int = refl

-- the greatest int and 1
pub past_the_end : binary op.Add (plain.Int (pos (2 ^ 127 - 1))) (plain.Int (pos 1)) ≡ Err (end.Beyond beyond.Int)
unfolding plain_computing
past_the_end = refl

pub divided_by_zero : binary op.Div (plain.Bool true) (plain.Int (pos 0)) ≡ Err (raised kind.ZeroDivisionError (codes "division by zero"))
unfolding plain_computing
divided_by_zero = refl

-- 3 * "ab", b"ab" * -1, and "" * 2 ** 63
pub three_copies : binary op.Mul (plain.Int (pos 3)) (plain.Text (codes "ab")) ≡ Ok (plain.Text (codes "ababab"))
unfolding plain_computing
three_copies = refl

pub no_copies : binary op.Mul (plain.Bytes (codes "ab")) (plain.Int (negsuc 0)) ≡ Ok (plain.Bytes [])
unfolding plain_computing
no_copies = refl

pub too_many_copies : binary op.Mul (plain.Text []) (plain.Int (pos (2 ^ 63))) ≡ Err (end.Beyond beyond.Int)
unfolding plain_computing
too_many_copies = refl

-- (None,) + (1,), "a" + b"a", "a" % None and 5 % "a"
pub joined_tuples : binary op.Add (plain.Tuple (plain.None ∷ [])) (plain.Tuple (plain.Int (pos 1) ∷ [])) ≡ Ok (plain.Tuple (plain.None ∷ plain.Int (pos 1) ∷ []))
unfolding plain_computing
joined_tuples = refl

pub text_and_bytes : binary op.Add (plain.Text (codes "a")) (plain.Bytes (codes "a")) ≡ Err unsupported
unfolding plain_computing
text_and_bytes = refl

pub text_format : binary op.Mod (plain.Text (codes "a")) plain.None ≡ Err (end.Beyond beyond.Operator)
unfolding plain_computing
text_format = refl

pub int_by_text : binary op.Mod (plain.Int (pos 5)) (plain.Text (codes "a")) ≡ Err unsupported
unfolding plain_computing
int_by_text = refl

-- ~True
pub turned_bool : unary unary_op.Invert (plain.Bool true) ≡ Ok (plain.Int (negsuc 1))
unfolding plain_computing
turned_bool = refl

-- ---- comparisons

-- (1,) < (1, 2), (2,) < (1, 5), (None, 1) < (None, 2), (1, None) < (True, 2) and None < None
pub shorter_is_less : compared cmp.Lt (plain.Tuple (plain.Int (pos 1) ∷ [])) (plain.Tuple (plain.Int (pos 1) ∷ plain.Int (pos 2) ∷ [])) ≡ Ok true
unfolding plain_computing
shorter_is_less = refl

pub first_pair_counts : compared cmp.Lt (plain.Tuple (plain.Int (pos 2) ∷ [])) (plain.Tuple (plain.Int (pos 1) ∷ plain.Int (pos 5) ∷ [])) ≡ Ok false
unfolding plain_computing
first_pair_counts = refl

pub equal_pairs_pass : compared cmp.Lt (plain.Tuple (plain.None ∷ plain.Int (pos 1) ∷ [])) (plain.Tuple (plain.None ∷ plain.Int (pos 2) ∷ [])) ≡ Ok true
unfolding plain_computing
equal_pairs_pass = refl

pub pair_without_order : compared cmp.Lt (plain.Tuple (plain.Int (pos 1) ∷ plain.None ∷ [])) (plain.Tuple (plain.Bool true ∷ plain.Int (pos 2) ∷ [])) ≡ Err no_order
unfolding plain_computing
pair_without_order = refl

pub none_has_no_order : compared cmp.Le plain.None plain.None ≡ Err no_order
unfolding plain_computing
none_has_no_order = refl

pub text_is_no_bytes : compared cmp.Eq (plain.Text (codes "a")) (plain.Bytes (codes "a")) ≡ Ok false
unfolding plain_computing
text_is_no_bytes = refl

pub no_truth : truth plain.NotImpl ≡ Err (end.Beyond beyond.Truth)
unfolding plain_computing
no_truth = refl

pub tuple_is_true : truth (plain.Tuple (plain.None ∷ [])) ≡ Ok true
unfolding plain_computing
tuple_is_true = refl
