-- Rows of the arguments that each handler takes, and of values that are no message, computed by the checker.
use Rattle.std.proofs.Common.{◌≡◌, ℕ, ◌-◌, ◌^◌, pos, negsuc, Bool, true, false, List, [], ◌∷◌, map, Err, refl}
use Rattle.std.specs.Prelude.{codes}
use Rattle.rp_base.specs.Computing.{computing}
use Rattle.rp_base.specs.declared.handlers.Handler.{Handler}
use Rattle.rp_base.specs.declared.handlers.Handler.TheVariants as handler
use Rattle.rp_base.specs.declared.plain.Plain.{Plain}
use Rattle.rp_base.specs.declared.plain.Plain.TheVariants as plain
use Rattle.rp_base.specs.declared.value.Value.{Value}
use Rattle.rp_base.specs.declared.value.Value.TheVariants as value
use Rattle.message_core.specs.Arguments.{fitting}
use Rattle.message_core.specs.Judging.{judged}
use Rattle.message_core.specs.Messages.{parts, asked}
use Rattle.message_core.specs.declared.faults.MsgFault.TheVariants as fault

abbrev own : Value
own = value.Own 5

abbrev text : List ℕ → Value
text t = value.Plain (plain.Text t)

abbrev int : ℕ → Value
int n = value.Plain (plain.Int (pos n))

abbrev nothing : Value
nothing = value.Plain (plain.Tuple [])

-- a tuple of one, two and three nothings
abbrev one : Value
one = value.Plain (plain.Tuple (plain.None ∷ []))

abbrev two : Value
two = value.Plain (plain.Tuple (plain.None ∷ plain.None ∷ []))

abbrev three : Value
three = value.Plain (plain.Tuple (plain.None ∷ plain.None ∷ plain.None ∷ []))

abbrev fits_all : List (Handler × List Value) → List Bool
fits_all rows = map (λ r. fitting r.0 (value.Tuple r.1)) rows

pub taken : fits_all (
    (handler.GetAttr, own ∷ text (codes "x") ∷ []) ∷ (handler.DelAttr, own ∷ text (codes "x") ∷ []) ∷ (handler.SetAttr, own ∷ text (codes "x") ∷ int 1 ∷ [])
    ∷ (handler.Call, own ∷ two ∷ nothing ∷ []) ∷ (handler.Repr, own ∷ []) ∷ (handler.Str, own ∷ []) ∷ (handler.Cmp, own ∷ int 1 ∷ text (codes "__eq__") ∷ [])
    ∷ (handler.Cmp, own ∷ own ∷ text (codes "__ge__") ∷ []) ∷ (handler.Del, own ∷ int 0 ∷ []) ∷ (handler.Ping, own ∷ []) ∷ (handler.Close, []) ∷ (handler.GetRoot, []) ∷ [])
    ≡ true ∷ true ∷ true ∷ true ∷ true ∷ true ∷ true ∷ true ∷ true ∷ true ∷ true ∷ true ∷ []
unfolding computing
taken = refl

-- no text, one too many, no tuple, no object, another operator, a bool for a count, an argument
pub refused : fits_all (
    (handler.GetAttr, own ∷ int 1 ∷ []) ∷ (handler.DelAttr, own ∷ text (codes "x") ∷ int 1 ∷ []) ∷ (handler.SetAttr, own ∷ text (codes "x") ∷ [])
    ∷ (handler.Call, own ∷ int 1 ∷ nothing ∷ []) ∷ (handler.Str, int 1 ∷ own ∷ []) ∷ (handler.Cmp, own ∷ int 1 ∷ text (codes "__add__") ∷ [])
    ∷ (handler.Del, own ∷ value.Plain (plain.Bool true) ∷ []) ∷ (handler.Ping, []) ∷ (handler.Close, own ∷ []) ∷ (handler.GetRoot, own ∷ []) ∷ [])
    ≡ false ∷ false ∷ false ∷ false ∷ false ∷ false ∷ false ∷ false ∷ false ∷ false ∷ []
unfolding computing
refused = refl

-- a call of a special name with so many arguments
abbrev called : List (List ℕ) → Value → List Bool
called names args = map (λ name. fitting handler.CallAttr (value.Tuple (own ∷ text name ∷ args ∷ nothing ∷ []))) names

abbrev of_none : List (List ℕ)
of_none = codes "__len__" ∷ codes "__bool__" ∷ codes "__iter__" ∷ codes "__next__" ∷ codes "__neg__" ∷ []

abbrev of_one : List (List ℕ)
of_one = codes "__getitem__" ∷ codes "__delitem__" ∷ codes "__contains__" ∷ codes "__add__" ∷ codes "__sub__" ∷ codes "__mul__" ∷ codes "__floordiv__" ∷ codes "__mod__" ∷ codes "__iadd__" ∷ []

abbrev of_two : List (List ℕ)
of_two = codes "__setitem__" ∷ []

pub special_none : called of_none nothing ≡ true ∷ true ∷ true ∷ true ∷ true ∷ []
unfolding computing
special_none = refl

pub special_none_of_one : called of_none one ≡ false ∷ false ∷ false ∷ false ∷ false ∷ []
unfolding computing
special_none_of_one = refl

pub special_one : called of_one one ≡ true ∷ true ∷ true ∷ true ∷ true ∷ true ∷ true ∷ true ∷ true ∷ []
unfolding computing
special_one = refl

pub special_one_of_two : called of_one two ≡ false ∷ false ∷ false ∷ false ∷ false ∷ false ∷ false ∷ false ∷ false ∷ []
unfolding computing
special_one_of_two = refl

pub special_two : called of_two two ≡ true ∷ []
unfolding computing
special_two = refl

-- any other name takes any number
pub other_names : called (codes "__eq__" ∷ codes "__str__" ∷ codes "__init__" ∷ codes "getmodule" ∷ codes "f" ∷ []) three ≡ true ∷ true ∷ true ∷ true ∷ true ∷ []
unfolding computing
other_names = refl

-- a special name's count is judged with keywords too
pub counted_with_keywords :
    fitting handler.CallAttr (value.Tuple (own ∷ text (codes "__len__") ∷ one ∷ value.Plain (plain.Tuple (plain.Tuple (plain.Text (codes "k") ∷ plain.None ∷ []) ∷ [])) ∷ [])) ≡ false
unfolding computing
counted_with_keywords = refl

-- an identity's numbers
abbrev identity : Plain → Plain → Value
identity class_no inst_no = value.Plain (plain.Tuple (plain.Text (codes "n") ∷ class_no ∷ inst_no ∷ []))

pub numbers_of_identities : fits_all (
    (handler.Inspect, identity (plain.Int (pos 0)) (plain.Int (pos (2 ^ 64 - 1))) ∷ []) ∷ (handler.Inspect, identity (plain.Int (pos 0)) (plain.Int (pos (2 ^ 64))) ∷ [])
    ∷ (handler.Inspect, identity (plain.Int (negsuc 0)) (plain.Int (pos 0)) ∷ []) ∷ (handler.Inspect, identity (plain.Bool true) (plain.Int (pos 0)) ∷ []) ∷ [])
    ≡ true ∷ false ∷ false ∷ false ∷ []
unfolding computing
numbers_of_identities = refl

-- ---- values that are no message

-- the shape is judged before the kind: (4, -1, 0), two and four parts, a request's content of three, a bool for a handler and for a number
pub shapes :
    map judged (plain.Tuple (plain.Int (pos 4) ∷ plain.Int (negsuc 0) ∷ plain.None ∷ [])
    ∷ plain.Tuple (plain.Int (pos 2) ∷ plain.Int (pos 0) ∷ []) ∷ plain.Tuple (plain.Int (pos 2) ∷ plain.Int (pos 0) ∷ plain.None ∷ plain.None ∷ [])
    ∷ parts (pos 1) 0 (plain.Tuple (plain.Int (pos 3) ∷ plain.None ∷ plain.None ∷ [])) ∷ parts (pos 1) 0 (plain.Tuple (plain.Bool true ∷ plain.None ∷ []))
    ∷ plain.Tuple (plain.Int (pos 2) ∷ plain.Bool false ∷ plain.None ∷ []) ∷ [])
    ≡ Err fault.M1 ∷ Err fault.M1 ∷ Err fault.M1 ∷ Err fault.M1 ∷ Err fault.M1 ∷ Err fault.M1 ∷ []
unfolding computing
shapes = refl

pub handlers :
    map (λ n. judged (parts (pos 1) 0 (asked n plain.None))) (negsuc 0 ∷ pos 13 ∷ pos 14 ∷ pos 17 ∷ pos 18 ∷ pos 19 ∷ [])
    ≡ Err (fault.M3 (negsuc 0)) ∷ Err (fault.M4 13) ∷ Err (fault.M4 14) ∷ Err (fault.M4 17) ∷ Err (fault.M4 18) ∷ Err (fault.M4 19) ∷ []
unfolding computing
handlers = refl
