-- Worked examples, computed by the checker.
use Rattle.std.proofs.Common.{◌≡◌, ℕ, zero, suc, [], ◌∷◌, Ok, Err, true, false, pos, negsuc, codes, refl}
use Rattle.rp_base.specs.declared.plain.Plain.{Plain}
use Rattle.rp_base.specs.declared.plain.Plain.TheVariants as plain
use Rattle.rp_base.specs.declared.value.Value.{Value}
use Rattle.rp_base.specs.declared.value.Value.TheVariants as value
use Rattle.rp_base.specs.PlainValues.{plain_weight, plain_depth, equal_to}
use Rattle.rp_base.specs.Values.{weight_of, depth_of, tuple_of}
use Rattle.rp_base.specs.Identity.{kind_named}
use Rattle.rp_base.specs.declared.identity.Kind.TheVariants as kind
use Rattle.rp_base.specs.declared.ends.TupleEnd.TheVariants as tuple_end
use Rattle.rp_base.specs.declared.exceptions.Beyond.TheVariants as beyond
use Rattle.rp_base.specs.Computing.{computing}

-- ("hé", b"\x01\x02", -1)
abbrev three : Plain
three = plain.Tuple (plain.Text (104 ∷ 195 ∷ 169 ∷ []) ∷ plain.Bytes (1 ∷ 2 ∷ []) ∷ plain.Int (negsuc 0) ∷ [])

-- 1 for the tuple, 4 for the text, 3 for the bytes, 2 for the int
pub three_weigh : plain_weight three ≡ 10
unfolding computing
three_weigh = refl

-- ((), (None,))
pub nested_depth : plain_depth (plain.Tuple (plain.Tuple [] ∷ plain.Tuple (plain.None ∷ []) ∷ [])) ≡ 2
unfolding computing
nested_depth = refl

-- (True, (1,)) == (1, (1,))
pub bool_is_int : equal_to (plain.Tuple (plain.Bool true ∷ plain.Tuple (plain.Int (pos 1) ∷ []) ∷ [])) (plain.Tuple (plain.Int (pos 1) ∷ plain.Tuple (plain.Int (pos 1) ∷ []) ∷ [])) ≡ true
unfolding computing
bool_is_int = refl

-- ("a",) == (b"a",)
pub text_is_no_bytes : equal_to (plain.Tuple (plain.Text (97 ∷ []) ∷ [])) (plain.Tuple (plain.Bytes (97 ∷ []) ∷ [])) ≡ false
unfolding computing
text_is_no_bytes = refl

-- (own cell 7, ("hé", b"\x01\x02", -1))
abbrev held : Value
held = value.Tuple (value.Own 7 ∷ value.Plain three ∷ [])

pub held_weighs : weight_of held ≡ 19
unfolding computing
held_weighs = refl

pub held_depth : depth_of held ≡ 2
unfolding computing
held_depth = refl

-- ((own cell 7,), 1) is a tuple, and ((), 1) a plain value
pub tuple_with_reference : tuple_of (value.Tuple (value.Own 7 ∷ []) ∷ value.Plain (plain.Int (pos 1)) ∷ []) ≡ Ok (value.Tuple (value.Tuple (value.Own 7 ∷ []) ∷ value.Plain (plain.Int (pos 1)) ∷ []))
unfolding computing
tuple_with_reference = refl

pub tuple_with_none : tuple_of (value.Tuple [] ∷ value.Plain (plain.Int (pos 1)) ∷ []) ≡ Ok (value.Plain (plain.Tuple (plain.Tuple [] ∷ plain.Int (pos 1) ∷ [])))
unfolding computing
tuple_with_none = refl

-- a reference within this many tuples
abbrev nested : ℕ → Value
nested zero = value.Own 7
nested (suc n) = value.Tuple (nested n ∷ [])

pub thirty_three_deep : tuple_of (nested 32 ∷ []) ≡ Err (tuple_end.Beyond beyond.Depth)
unfolding computing
thirty_three_deep = refl

pub thirty_two_deep : tuple_of (nested 31 ∷ []) ≡ Ok (nested 32)
unfolding computing
thirty_two_deep = refl

pub namespace_of_a_side : kind_named (codes "builtins.dict") 1 ≡ kind.Namespace
namespace_of_a_side = refl

pub class_of_a_script : kind_named (codes "__main__.C") 0 ≡ kind.Class
class_of_a_script = refl

pub instance_in_a_script : kind_named (codes "__main__.C") 3 ≡ kind.Instance
instance_in_a_script = refl

pub view_of_a_dict : kind_named (codes "builtins.view") 3 ≡ kind.View
view_of_a_dict = refl
