-- Which arguments a handler takes.
use Rattle.std.specs.Prelude.{ℕ, ◌^◌, ℤ, pos, negsuc, Bool, true, false, ◌&&◌, ◌||◌, ◌==◌, nat_lt, List, [], ◌∷◌, map, length, codes, Option, Some, None, Result, Ok, Err, if◌then◌else◌}
use Rattle.std.specs.List.{list_all}
use Rattle.std.specs.Str.{bytes_eq}
use Rattle.rp_base.specs.declared.plain.Plain.{Plain}
use Rattle.rp_base.specs.declared.plain.Plain.TheOpen.{Plain-F}
use Rattle.rp_base.specs.declared.value.Value.{Value}
use Rattle.rp_base.specs.declared.value.Value.TheOpen.{Value-F}
use Rattle.rp_base.specs.declared.value.Value.TheVariants as value
use Rattle.rp_base.specs.declared.handlers.Handler.{Handler}
use Rattle.rp_base.specs.declared.handlers.Handler.TheVariants as handler
use Rattle.rp_base.specs.Names.{handler_number}
use Rattle.rp_base.specs.PlainValues.{look}
use Rattle.rp_base.specs.Values.{look_value}
use Rattle.message_core.specs.declared.faults.MsgFault.{MsgFault}
use Rattle.message_core.specs.declared.faults.MsgFault.TheVariants as fault

-- the items of a tuple, with a reference in it or with none
abbrev pub items_of_plain : Plain-F Plain → Option (List Value)
items_of_plain (Plain-F.Tuple items) = Some (map value.Plain items)
items_of_plain _ = None

abbrev pub items_at : Value-F Value → Option (List Value)
items_at (Value-F.Plain p) = items_of_plain (look p)
items_at (Value-F.Tuple items) = Some items
items_at _ = None

abbrev pub items_of : Value → Option (List Value)
items_of v = items_at (look_value v)

-- a test of a tuple's items, which fails where there is no tuple
abbrev pub on_items : (List Value → Bool) → Option (List Value) → Bool
on_items test (Some items) = test items
on_items test None = false

abbrev pub is_tuple : Value → Bool
is_tuple v = on_items (λ items. true) (items_of v)

-- a reference to an object of the reader's own
abbrev pub is_own_at : Value-F Value → Bool
is_own_at (Value-F.Own cell) = true
is_own_at _ = false

abbrev pub is_own : Value → Bool
is_own v = is_own_at (look_value v)

-- a test of a text, which fails where there is none
abbrev pub text_at : (List ℕ → Bool) → Plain-F Plain → Bool
text_at test (Plain-F.Text t) = test t
text_at test _ = false

abbrev pub on_text_at : (List ℕ → Bool) → Value-F Value → Bool
on_text_at test (Value-F.Plain p) = text_at test (look p)
on_text_at test _ = false

abbrev pub on_text : (List ℕ → Bool) → Value → Bool
on_text test v = on_text_at test (look_value v)

abbrev pub is_text : Value → Bool
is_text = on_text (λ t. true)

-- a test of an int, which fails where there is none; a bool is none
abbrev pub int_at : (ℤ → Bool) → Plain-F Plain → Bool
int_at test (Plain-F.Int n) = test n
int_at test _ = false

abbrev pub on_int_at : (ℤ → Bool) → Value-F Value → Bool
on_int_at test (Value-F.Plain p) = int_at test (look p)
on_int_at test _ = false

abbrev pub on_int : (ℤ → Bool) → Value → Bool
on_int test v = on_int_at test (look_value v)

abbrev pub is_int : Value → Bool
is_int = on_int (λ n. true)

-- an int from 0 to 2^64 - 1
abbrev pub is_number : ℤ → Bool
is_number (pos n) = nat_lt n (2 ^ 64)
is_number (negsuc n) = false

-- a text of 1 to 255 bytes
abbrev pub is_name : List ℕ → Bool
is_name t = nat_lt 0 (length t) && nat_lt (length t) 256

-- an identity: the name of a class, and two numbers
abbrev pub is_triple : List Value → Bool
is_triple (name ∷ class_no ∷ inst_no ∷ []) = on_text is_name name && on_int is_number class_no && on_int is_number inst_no
is_triple _ = false

abbrev pub is_identity : Value → Bool
is_identity v = on_items is_triple (items_of v)

-- keyword arguments: a tuple of pairs of a text and a value
abbrev pub is_named_pair : List Value → Bool
is_named_pair (name ∷ v ∷ []) = is_text name
is_named_pair _ = false

abbrev pub is_keyword : Value → Bool
is_keyword v = on_items is_named_pair (items_of v)

abbrev pub are_keywords : Value → Bool
are_keywords v = on_items (list_all is_keyword) (items_of v)

-- the name of a comparison
abbrev pub is_op_name : List ℕ → Bool
is_op_name t = bytes_eq t (codes "__eq__") || bytes_eq t (codes "__ne__") || bytes_eq t (codes "__lt__") || bytes_eq t (codes "__le__") || bytes_eq t (codes "__gt__") || bytes_eq t (codes "__ge__")

-- how many arguments the operation of a special name takes
abbrev pub special_names : List (List ℕ × ℕ)
special_names =
    (codes "__len__", 0) ∷
    (codes "__bool__", 0) ∷
    (codes "__getitem__", 1) ∷
    (codes "__setitem__", 2) ∷
    (codes "__delitem__", 1) ∷
    (codes "__contains__", 1) ∷
    (codes "__iter__", 0) ∷
    (codes "__next__", 0) ∷
    (codes "__add__", 1) ∷
    (codes "__sub__", 1) ∷
    (codes "__mul__", 1) ∷
    (codes "__floordiv__", 1) ∷
    (codes "__mod__", 1) ∷
    (codes "__neg__", 0) ∷
    (codes "__iadd__", 1) ∷
    []

-- the number beside the name
abbrev pub beside : List ℕ → List (List ℕ × ℕ) → Option ℕ
beside name [] = None
beside name (entry ∷ entries) = if bytes_eq name entry.0 then Some entry.1 else beside name entries

-- so many arguments, where the name is a special one
abbrev pub is_count : Option ℕ → List Value → Bool
is_count (Some n) items = length items == n
is_count None items = true

abbrev pub counts_fit : Value → Value → Bool
counts_fit name args = on_text (λ t. on_items (is_count (beside t special_names)) (items_of args)) name

-- the number and the kinds of the arguments, by handler
abbrev pub arguments_fit : Handler → List Value → Bool
arguments_fit handler.Ping (v ∷ []) = true
arguments_fit handler.Close [] = true
arguments_fit handler.GetRoot [] = true
arguments_fit handler.GetAttr (obj ∷ name ∷ []) = is_own obj && is_text name
arguments_fit handler.DelAttr (obj ∷ name ∷ []) = is_own obj && is_text name
arguments_fit handler.SetAttr (obj ∷ name ∷ v ∷ []) = is_own obj && is_text name
arguments_fit handler.Call (obj ∷ args ∷ kwargs ∷ []) = is_own obj && is_tuple args && are_keywords kwargs
arguments_fit handler.CallAttr (obj ∷ name ∷ args ∷ kwargs ∷ []) = is_own obj && counts_fit name args && are_keywords kwargs
arguments_fit handler.Repr (obj ∷ []) = is_own obj
arguments_fit handler.Str (obj ∷ []) = is_own obj
arguments_fit handler.Cmp (obj ∷ other ∷ op ∷ []) = is_own obj && on_text is_op_name op
arguments_fit handler.Del (obj ∷ count ∷ []) = is_own obj && is_int count
arguments_fit handler.Inspect (id ∷ []) = is_identity id
arguments_fit _ _ = false

-- the arguments are one tuple
abbrev pub fitting : Handler → Value → Bool
fitting h args = on_items (arguments_fit h) (items_of args)

abbrev pub checked : Handler → Value → Result (Unit {0}) MsgFault
checked h args = if fitting h args then Ok tt else Err (fault.M5 (handler_number h))
