-- Worked examples, computed by the checker.
use Rattle.std.proofs.Common.{List, ◌≡◌, [], ◌∷◌, true, false, pos, negsuc, refl, sym, ap, length, map, ◌^◌, ◌-◌, ℕ}
use Rattle.std.specs.Prelude.{Ok, Err, Result}
use Rattle.py_ints.specs.IntLaws.{written}
use Rattle.rp_base.specs.declared.plain.Plain.{Plain}
use Rattle.rp_base.specs.declared.plain.Plain.TheVariants as plain
use Rattle.brine_codec.specs.declared.ends.BrineKind.{BrineKind}
use Rattle.brine_codec.specs.declared.ends.BrineKind.TheVariants as kinds
use Rattle.brine_codec.specs.declared.ends.BrineFault.{BrineFault}
use Rattle.brine_codec.specs.Computing.{brine_computing}
use Rattle.brine_codec.specs.Spelling.{spelling, spellable}
use Rattle.brine_codec.specs.Reading.{value_at, decoded}

abbrev fault_at : ℕ → BrineKind → Result Plain BrineFault
fault_at place what = Err (record { at = place; what = what })

-- (1, 0, ("x",))
abbrev three : Plain
three = plain.Tuple (plain.Int (pos 1) ∷ plain.Int (pos 0) ∷ plain.Tuple (plain.Text (120 ∷ []) ∷ []) ∷ [])

pub three_spelled : spelling three ≡ 0x12 ∷ 0x51 ∷ 0x50 ∷ 0x10 ∷ 0x08 ∷ 0x0a ∷ 0x78 ∷ []
unfolding brine_computing
three_spelled = refl

pub three_spellable : spellable three ≡ true
unfolding brine_computing
three_spellable = refl

pub three_read : decoded (0x12 ∷ 0x51 ∷ 0x50 ∷ 0x10 ∷ 0x08 ∷ 0x0a ∷ 0x78 ∷ []) ≡ Ok three
unfolding brine_computing
three_read = refl

-- each leaf: (None, True, False, NotImplemented, ..., b"", (), "")
abbrev leaves : Plain
leaves = plain.Tuple (plain.None ∷ plain.Bool true ∷ plain.Bool false ∷ plain.NotImpl ∷ plain.Ellipsis ∷ plain.Bytes [] ∷ plain.Tuple [] ∷ plain.Text [] ∷ [])

pub leaves_spelled : spelling leaves ≡ 0x14 ∷ 8 ∷ 0 ∷ 3 ∷ 4 ∷ 5 ∷ 6 ∷ 1 ∷ 2 ∷ 8 ∷ 1 ∷ []
unfolding brine_computing
leaves_spelled = refl

pub leaves_read : decoded (0x14 ∷ 8 ∷ 0 ∷ 3 ∷ 4 ∷ 5 ∷ 6 ∷ 1 ∷ 2 ∷ 8 ∷ 1 ∷ []) ≡ Ok leaves
unfolding brine_computing
leaves_read = refl

-- a text of five bytes has its length in a byte
pub hello_spelled : spelling (plain.Text (104 ∷ 101 ∷ 108 ∷ 108 ∷ 111 ∷ [])) ≡ 0x08 ∷ 0x0e ∷ 5 ∷ 104 ∷ 101 ∷ 108 ∷ 108 ∷ 111 ∷ []
unfolding brine_computing
hello_spelled = refl

pub least_tag : spelling (plain.Int (negsuc 47)) ≡ 0x20 ∷ []
unfolding brine_computing
least_tag = refl

pub greatest_tag : spelling (plain.Int (pos 159)) ≡ 0xef ∷ []
unfolding brine_computing
greatest_tag = refl

-- -49 and 160 are texts
pub below_tags : spelling (plain.Int (negsuc 48)) ≡ 0x16 ∷ 3 ∷ 0x2d ∷ 0x34 ∷ 0x39 ∷ []
unfolding brine_computing
below_tags = ap (λ (t : List ℕ). 0x16 ∷ length t ∷ t) (sym (written (0x2d ∷ 0x34 ∷ 0x39 ∷ []) (negsuc 48) refl refl refl))

pub above_tags : spelling (plain.Int (pos 160)) ≡ 0x16 ∷ 3 ∷ 0x31 ∷ 0x36 ∷ 0x30 ∷ []
unfolding brine_computing
above_tags = ap (λ (t : List ℕ). 0x16 ∷ length t ∷ t) (sym (written (0x31 ∷ 0x36 ∷ 0x30 ∷ []) (pos 160) refl refl refl))

-- the ends of 128 bits
pub widest : spellable (plain.Tuple (plain.Int (pos (2 ^ 127 - 1)) ∷ plain.Int (negsuc (2 ^ 127 - 1)) ∷ [])) ≡ true
unfolding brine_computing
widest = refl

pub too_wide : spellable (plain.Int (pos (2 ^ 127))) ≡ false
unfolding brine_computing
too_wide = refl

pub below_tags_read : decoded (0x16 ∷ 3 ∷ 0x2d ∷ 0x34 ∷ 0x39 ∷ []) ≡ Ok (plain.Int (negsuc 48))
unfolding brine_computing
below_tags_read = refl

pub above_tags_read : decoded (0x16 ∷ 3 ∷ 0x31 ∷ 0x36 ∷ 0x30 ∷ []) ≡ Ok (plain.Int (pos 160))
unfolding brine_computing
above_tags_read = refl

-- faults: 5 in a text, a leading 0, -0, no digits, a float, a missing item, a byte too many, nothing
pub five_in_a_text : decoded (0x16 ∷ 1 ∷ 0x35 ∷ []) ≡ fault_at 0 kinds.B4
unfolding brine_computing
five_in_a_text = refl

pub leading_zero : decoded (0x16 ∷ 2 ∷ 0x30 ∷ 0x35 ∷ []) ≡ fault_at 0 kinds.B5
unfolding brine_computing
leading_zero = refl

pub minus_zero : decoded (0x16 ∷ 2 ∷ 0x2d ∷ 0x30 ∷ []) ≡ fault_at 0 kinds.B5
unfolding brine_computing
minus_zero = refl

pub zero_in_a_text : decoded (0x16 ∷ 1 ∷ 0x30 ∷ []) ≡ fault_at 0 kinds.B4
unfolding brine_computing
zero_in_a_text = refl

pub no_digits : decoded (0x16 ∷ 0 ∷ []) ≡ fault_at 0 kinds.B5
unfolding brine_computing
no_digits = refl

pub a_float : decoded (0x18 ∷ []) ≡ fault_at 0 (kinds.B2 0x18)
unfolding brine_computing
a_float = refl

pub unknown_inside : decoded (0x11 ∷ 0x50 ∷ 0x07 ∷ []) ≡ fault_at 2 kinds.B1
unfolding brine_computing
unknown_inside = refl

pub missing_item : decoded (0x10 ∷ []) ≡ fault_at 1 kinds.B3
unfolding brine_computing
missing_item = refl

pub byte_too_many : decoded (0 ∷ 0 ∷ []) ≡ fault_at 1 kinds.B9
unfolding brine_computing
byte_too_many = refl

pub nothing : decoded [] ≡ fault_at 0 kinds.B3
unfolding brine_computing
nothing = refl

-- a length field below its range, also where nothing follows it; in a text the place is the byte string's tag
pub four_in_a_byte : decoded (0x08 ∷ 0x0e ∷ 4 ∷ 104 ∷ 101 ∷ 108 ∷ 108 ∷ []) ≡ fault_at 1 kinds.B4
unfolding brine_computing
four_in_a_byte = refl

pub low_count_alone : decoded (0x14 ∷ 4 ∷ []) ≡ fault_at 0 kinds.B4
unfolding brine_computing
low_count_alone = refl

pub low_int_length_alone : decoded (0x17 ∷ 0 ∷ 0 ∷ 0 ∷ 255 ∷ []) ≡ fault_at 0 kinds.B4
unfolding brine_computing
low_int_length_alone = refl

pub long_field_cut : decoded (0x0f ∷ 0 ∷ 0 ∷ 1 ∷ []) ≡ fault_at 4 kinds.B3
unfolding brine_computing
long_field_cut = refl

-- a text whose bytes are none, or are not UTF-8
pub text_of_none : decoded (0x10 ∷ 0x08 ∷ 0 ∷ []) ≡ fault_at 1 kinds.B7
unfolding brine_computing
text_of_none = refl

pub text_not_utf8 : decoded (0x08 ∷ 0x0a ∷ 0xff ∷ []) ≡ fault_at 0 kinds.B7
unfolding brine_computing
text_not_utf8 = refl

pub text_cut : decoded (0x08 ∷ 0x0b ∷ 0xff ∷ []) ≡ fault_at 3 kinds.B3
unfolding brine_computing
text_cut = refl

-- two levels hold the value above, and one does not; depth is judged before the count field
pub two_levels : value_at 2 (0x12 ∷ 0x51 ∷ 0x50 ∷ 0x10 ∷ 0x08 ∷ 0x0a ∷ 0x78 ∷ 0x50 ∷ []) ≡ Ok (three, 0x50 ∷ [])
unfolding brine_computing
two_levels = refl

pub one_level : value_at 1 (0x12 ∷ 0x51 ∷ 0x50 ∷ 0x14 ∷ 0 ∷ []) ≡ Err (2, kinds.B8)
unfolding brine_computing
one_level = refl

-- a text of an int is cut before its digits are judged
pub cut_digits : decoded (0x16 ∷ 2 ∷ 0x30 ∷ []) ≡ fault_at 3 kinds.B3
unfolding brine_computing
cut_digits = refl

pub cut_length : decoded (0x16 ∷ []) ≡ fault_at 1 kinds.B3
unfolding brine_computing
cut_length = refl

pub short_count : decoded (0x15 ∷ 0 ∷ 0 ∷ 0 ∷ 255 ∷ []) ≡ fault_at 0 kinds.B4
unfolding brine_computing
short_count = refl

pub other_tags :
    map decoded ((0x07 ∷ []) ∷ (0x09 ∷ []) ∷ (0x1c ∷ []) ∷ (0x1f ∷ []) ∷ (0xf0 ∷ []) ∷ (0xff ∷ []) ∷ (0x19 ∷ []) ∷ (0x1a ∷ []) ∷ (0x1b ∷ []) ∷ [])
    ≡ fault_at 0 kinds.B1 ∷ fault_at 0 kinds.B1 ∷ fault_at 0 kinds.B1 ∷ fault_at 0 kinds.B1 ∷ fault_at 0 kinds.B1 ∷ fault_at 0 kinds.B1
    ∷ fault_at 0 (kinds.B2 0x19) ∷ fault_at 0 (kinds.B2 0x1a) ∷ fault_at 0 (kinds.B2 0x1b) ∷ []
unfolding brine_computing
other_tags = refl
