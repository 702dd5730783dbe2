-- What crosses: requests with their handlers, and answers (RPyC's module `protocol`).
use Rattle.std.specs.Prelude.{ℕ, List, [], ◌∷◌, codes, map, Option, Some, None, if◌then◌else◌}
use Rattle.std.specs.Str.{bytes_eq}
use Rattle.rp_base.specs.declared.exceptions.ExcKind.TheVariants as kind
use Rattle.rp_base.specs.declared.handlers.Handler.{Handler}
use Rattle.rp_base.specs.declared.handlers.Handler.TheVariants as handler
use Rattle.rp_base.specs.declared.identity.IdPack.{IdPack}
use Rattle.rp_base.specs.declared.operators.CmpOp.{CmpOp}
use Rattle.rp_base.specs.declared.operators.CmpOp.TheVariants as cmp
use Rattle.rp_base.specs.declared.plain.Plain.{Plain}
use Rattle.rp_base.specs.declared.plain.Plain.TheOpen.{Plain-F}
use Rattle.rp_base.specs.declared.plain.Plain.TheVariants as plain
use Rattle.rp_base.specs.declared.value.Value.{Value}
use Rattle.rp_base.specs.declared.value.Value.TheOpen.{Value-F}
use Rattle.rp_base.specs.declared.value.Value.TheVariants as value
use Rattle.rp_base.specs.PlainValues.{look}
use Rattle.rp_base.specs.Values.{look_value, joined}
use Rattle.object_operations.specs.declared.operation.Operation.{Operation}
use Rattle.object_operations.specs.declared.operation.Operation.TheVariants as operation
use Rattle.object_operations.specs.declared.special.Special.{Special}
use Rattle.object_operations.specs.declared.special.Special.TheVariants as special
use Rattle.object_operations.specs.Names.{special_name, special_of}
use Rattle.language_rules.specs.Boxing.{box, unboxed, identity_in, own_number, crossed}
use Rattle.language_rules.specs.Codes.{Completion, Gives, Raises, Code, Perform, Give, AttributeCall, Inspect}
use Rattle.language_rules.specs.ExceptionContents.{exception_content, raised_in}
use Rattle.language_rules.specs.Going.{none, text, raised}
use Rattle.language_rules.specs.States.{State}

-- A request that costs a unit: its handler, and the box of its arguments. PING, DEL and CLOSE are none: they cost nothing, and a side answers them outside its conversation.
pub record Asked : Type 0 where
  pub handler : Handler
  pub arguments : Plain

-- an answer: the box of a value, or an exception's content
pub data Answer : Type 0 where
  Replied : Plain → Answer
  Excepted : Plain → Answer

-- ---- writing

-- the method's name that stands for a comparison
abbrev pub comparison_name : CmpOp → List ℕ
comparison_name cmp.Eq = codes "__eq__"
comparison_name cmp.Ne = codes "__ne__"
comparison_name cmp.Lt = codes "__lt__"
comparison_name cmp.Le = codes "__le__"
comparison_name cmp.Gt = codes "__gt__"
comparison_name cmp.Ge = codes "__ge__"

abbrev pub request : State → Handler → List Value → Asked
request s h arguments = record { handler = h; arguments = box s (joined arguments) }

-- An operation as a request. Special operations travel as calls of an attribute; there are no keyword arguments.
abbrev pub request_of : State → Operation → Asked
request_of s operation.GetRoot = request s handler.GetRoot []
request_of s (operation.GetAttr receiver name) = request s handler.GetAttr (receiver ∷ text name ∷ [])
request_of s (operation.SetAttr receiver name v) = request s handler.SetAttr (receiver ∷ text name ∷ v ∷ [])
request_of s (operation.DelAttr receiver name) = request s handler.DelAttr (receiver ∷ text name ∷ [])
request_of s (operation.Call callee arguments) = request s handler.Call (callee ∷ joined arguments ∷ joined [] ∷ [])
request_of s (operation.Special receiver special arguments) = request s handler.CallAttr (receiver ∷ text (special_name special) ∷ joined arguments ∷ joined [] ∷ [])
request_of s (operation.Cmp receiver op other) = request s handler.Cmp (receiver ∷ other ∷ text (comparison_name op) ∷ [])
request_of s (operation.Str receiver) = request s handler.Str (receiver ∷ [])
request_of s (operation.Repr receiver) = request s handler.Repr (receiver ∷ [])

-- an operation ends with a value or an exception
abbrev pub answer_of : State → Completion → Answer
answer_of s (Gives v) = Replied (box s v)
answer_of s (Raises r) = Excepted (exception_content r)
answer_of s _ = Replied (box s none)

-- ---- reading

abbrev pub plain_items : Plain-F Plain → List Value
plain_items (Plain-F.Tuple items) = map value.Plain items
plain_items _ = []

abbrev pub items_at : Value-F Value → List Value
items_at (Value-F.Plain p) = plain_items (look p)
items_at (Value-F.Tuple items) = items
items_at _ = []

-- the items of a tuple
abbrev pub items_of : Value → List Value
items_of v = items_at (look_value v)

abbrev pub text_in : Plain-F Plain → List ℕ
text_in (Plain-F.Text t) = t
text_in _ = []

abbrev pub name_at : Value-F Value → List ℕ
name_at (Value-F.Plain p) = text_in (look p)
name_at _ = []

-- the text that a value is
abbrev pub name_of : Value → List ℕ
name_of v = name_at (look_value v)

abbrev pub comparison_of : List ℕ → CmpOp
comparison_of name =
    if bytes_eq name (codes "__eq__") then cmp.Eq
    else if bytes_eq name (codes "__ne__") then cmp.Ne
    else if bytes_eq name (codes "__lt__") then cmp.Lt
    else if bytes_eq name (codes "__le__") then cmp.Le
    else if bytes_eq name (codes "__gt__") then cmp.Gt
    else cmp.Ge

-- keyword arguments are refused, for the request's unit and with no operation begun
abbrev pub without_keywords : List Value → Code → Code
without_keywords [] c = c
without_keywords (k ∷ ks) c = Give (Raises (raised kind.TypeError (plain.Text (codes "keyword arguments") ∷ [])))

-- a call of an attribute: a special operation, or the attribute and then its call
abbrev pub special_code : Value → List ℕ → List Value → Option Special → Code
special_code receiver name arguments (Some special) = Perform (operation.Special receiver special arguments)
special_code receiver name arguments None = AttributeCall receiver name arguments

abbrev pub inspected : Value-F Value → Code
inspected (Value-F.Plain p) = elim (identity_in (look p)) [ Some id ↦ Inspect (own_number id) | None ↦ Give (Gives none) ]
inspected _ = Give (Gives none)

-- The code that carries a request out, behind its unit. What no request of a side says is read as None.
abbrev pub code_at : Handler → List Value → Code
code_at handler.GetRoot [] = Perform operation.GetRoot
code_at handler.GetAttr (receiver ∷ name ∷ []) = Perform (operation.GetAttr receiver (name_of name))
code_at handler.DelAttr (receiver ∷ name ∷ []) = Perform (operation.DelAttr receiver (name_of name))
code_at handler.SetAttr (receiver ∷ name ∷ v ∷ []) = Perform (operation.SetAttr receiver (name_of name) v)
code_at handler.Call (callee ∷ arguments ∷ keywords ∷ []) = without_keywords (items_of keywords) (Perform (operation.Call callee (items_of arguments)))
code_at handler.CallAttr (receiver ∷ name ∷ arguments ∷ keywords ∷ []) =
    without_keywords (items_of keywords) (special_code receiver (name_of name) (items_of arguments) (special_of (name_of name)))
code_at handler.Repr (receiver ∷ []) = Perform (operation.Repr receiver)
code_at handler.Str (receiver ∷ []) = Perform (operation.Str receiver)
code_at handler.Cmp (receiver ∷ other ∷ op ∷ []) = Perform (operation.Cmp receiver (comparison_of (name_of op)) other)
code_at handler.Inspect (id ∷ []) = inspected (look_value id)
code_at h _ = Give (Gives none)

abbrev pub value_or_none : Option Value → Value
value_or_none (Some v) = v
value_or_none None = none

abbrev pub code_of : Asked → Code
code_of m = code_at m.handler (items_of (value_or_none (unboxed m.arguments)))

abbrev pub completion_of : Answer → Completion
completion_of (Replied p) = Gives (value_or_none (unboxed p))
completion_of (Excepted p) = Raises (raised_in p)

-- ---- what an operation is read as

-- An operation as the other side sees it: each value in it crosses, and names and operators stay.
abbrev pub crossed_operation : (ℕ → IdPack) → Operation → Operation
crossed_operation ids operation.GetRoot = operation.GetRoot
crossed_operation ids (operation.GetAttr receiver name) = operation.GetAttr (crossed ids receiver) name
crossed_operation ids (operation.SetAttr receiver name v) = operation.SetAttr (crossed ids receiver) name (crossed ids v)
crossed_operation ids (operation.DelAttr receiver name) = operation.DelAttr (crossed ids receiver) name
crossed_operation ids (operation.Call callee arguments) = operation.Call (crossed ids callee) (map (crossed ids) arguments)
crossed_operation ids (operation.Special receiver special arguments) = operation.Special (crossed ids receiver) special (map (crossed ids) arguments)
crossed_operation ids (operation.Cmp receiver op other) = operation.Cmp (crossed ids receiver) op (crossed ids other)
crossed_operation ids (operation.Str receiver) = operation.Str (crossed ids receiver)
crossed_operation ids (operation.Repr receiver) = operation.Repr (crossed ids receiver)

-- The code that carries the operation out at the other side. A root's `getmodule` is no special method: it is asked as an attribute's call.
abbrev pub asked_code : (ℕ → IdPack) → Operation → Code
asked_code ids (operation.Special receiver special.GetModule arguments) = AttributeCall (crossed ids receiver) (special_name special.GetModule) (map (crossed ids) arguments)
asked_code ids o = Perform (crossed_operation ids o)
