-- The messages of this stage: what A asks and what B answers.
use Rattle.std.specs.Prelude.{ℕ, ◌==◌, ◌&&◌, ℤ, pos, List, [], ◌∷◌, codes, Option, Some, None, if◌then◌else◌, Bool, true, false}
use Rattle.std.specs.Ordering.{int_eq}
use Rattle.std.specs.Str.{bytes_eq}
use Rattle.rp_base.specs.declared.plain.Plain.{Plain, out-Plain}
use Rattle.rp_base.specs.declared.plain.Plain.TheOpen.{Plain-F}
use Rattle.rp_base.specs.declared.plain.Plain.TheVariants as plain
use Rattle.rp_base.specs.declared.handlers.Handler.{Handler}
use Rattle.rp_base.specs.declared.handlers.Handler.TheVariants as handlers
use Rattle.message_core.specs.declared.message.Message.{Message}
use Rattle.message_core.specs.declared.message.Message.TheVariants as message
use Rattle.pair_run.specs.declared.messages.Question.{Question}
use Rattle.pair_run.specs.declared.messages.Question.TheVariants as question

abbrev pub number : ℕ → Plain
number n = plain.Int (pos n)

-- A box is a label and a content: 1 a plain value, 2 a tuple that holds a reference, 3 an object of the reader, 4 an object of
-- the sender.
abbrev pub boxed : ℕ → Plain → Plain
boxed label content = plain.Tuple (number label ∷ content ∷ [])

abbrev pub by_value : Plain → Plain
by_value = boxed 1

abbrev pub boxed_tuple : List Plain → Plain
boxed_tuple boxes = boxed 2 (plain.Tuple boxes)

abbrev pub receivers : Plain → Plain
receivers = boxed 3

abbrev pub senders : Plain → Plain
senders = boxed 4

-- an object's identity: its name, a number for its class, a number for itself
abbrev pub identity : List ℕ → ℕ → ℕ → Plain
identity name class_no inst_no = plain.Tuple (plain.Text name ∷ number class_no ∷ number inst_no ∷ [])

-- B's root and B's namespace are its cells 2 and 1
abbrev pub root : Plain
root = identity (codes "rpyc.core.service.SlaveService") 0 2

abbrev pub namespace : Plain
namespace = identity (codes "builtins.dict") 0 1

-- what is asked of these objects
abbrev pub arguments : Plain → Plain → Question → Plain
arguments of_root of_namespace question.GetRoot = by_value (plain.Tuple [])
arguments of_root of_namespace question.GetNamespace = boxed_tuple (receivers of_root ∷ by_value (plain.Text (codes "namespace")) ∷ [])
arguments of_root of_namespace (question.GetItem letter) = boxed_tuple (receivers of_namespace ∷ by_value (plain.Text (codes "__getitem__"))
    ∷ by_value (plain.Tuple (plain.Text (letter ∷ []) ∷ [])) ∷ by_value (plain.Tuple []) ∷ [])
arguments of_root of_namespace question.Close = by_value (plain.Tuple [])

abbrev pub handler_of : Question → Handler
handler_of question.GetRoot = handlers.GetRoot
handler_of question.GetNamespace = handlers.GetAttr
handler_of (question.GetItem letter) = handlers.CallAttr
handler_of question.Close = handlers.Close

-- the request of this number that asks a question
abbrev pub asks : ℕ → Question → Message
asks seq q = message.Request seq (handler_of q) (arguments root namespace q)

-- What is read of a message: the items of a tuple, an int, a text, the content of a box.
abbrev pub items_in : Plain-F Plain → Option (List Plain)
items_in (Plain-F.Tuple items) = Some items
items_in _ = None

abbrev pub items_of : Plain → Option (List Plain)
items_of p = items_in (out-Plain p)

abbrev pub int_of : Plain → Option ℤ
int_of (plain.Int n) = Some n
int_of _ = None

abbrev pub text_of : Plain → Option (List ℕ)
text_of (plain.Text t) = Some t
text_of _ = None

abbrev pub is_int : Option ℤ → ℕ → Bool
is_int (Some m) n = int_eq m (pos n)
is_int None n = false

abbrev pub is_text : Option (List ℕ) → List ℕ → Bool
is_text (Some t) name = bytes_eq t name
is_text None name = false

abbrev pub content_in : ℕ → Option (List Plain) → Option Plain
content_in label (Some (l ∷ content ∷ [])) = if is_int (int_of l) label then Some content else None
content_in label _ = None

abbrev pub content_of : ℕ → Plain → Option Plain
content_of label p = content_in label (items_of p)

abbrev pub is_identity_in : List ℕ → ℕ → ℕ → Option (List Plain) → Bool
is_identity_in name class_no inst_no (Some (n ∷ c ∷ i ∷ [])) = is_text (text_of n) name && is_int (int_of c) class_no && is_int (int_of i) inst_no
is_identity_in name class_no inst_no _ = false

abbrev pub is_object : List ℕ → ℕ → Option Plain → Bool
is_object name inst_no (Some p) = is_identity_in name 0 inst_no (items_of p)
is_object name inst_no None = false

abbrev pub no_items : Option (List Plain) → Bool
no_items (Some []) = true
no_items _ = false

abbrev pub is_empty : Option Plain → Bool
is_empty (Some p) = no_items (items_of p)
is_empty None = false

abbrev pub is_named : List ℕ → Option Plain → Bool
is_named name (Some p) = is_text (text_of p) name
is_named name None = false

abbrev pub root_name : List ℕ
root_name = codes "rpyc.core.service.SlaveService"

abbrev pub namespace_among : Option (List Plain) → Option Question
namespace_among (Some (object ∷ name ∷ [])) = if is_object root_name 2 (content_of 3 object) && is_named (codes "namespace") (content_of 1 name) then Some question.GetNamespace else None
namespace_among _ = None

abbrev pub namespace_question : Option Plain → Option Question
namespace_question (Some p) = namespace_among (items_of p)
namespace_question None = None

abbrev pub only_byte : Option (List ℕ) → Option ℕ
only_byte (Some (c ∷ [])) = Some c
only_byte _ = None

abbrev pub letter_in : Option (List Plain) → Option ℕ
letter_in (Some (p ∷ [])) = only_byte (text_of p)
letter_in _ = None

abbrev pub letter_of_key : Option Plain → Option ℕ
letter_of_key (Some p) = letter_in (items_of p)
letter_of_key None = None

abbrev pub asks_for : Option ℕ → Option Question
asks_for (Some letter) = Some (question.GetItem letter)
asks_for None = None

abbrev pub item_among : Option (List Plain) → Option Question
item_among (Some (object ∷ name ∷ keys ∷ keywords ∷ [])) =
    if (is_object (codes "builtins.dict") 1 (content_of 3 object) && is_named (codes "__getitem__") (content_of 1 name)) && is_empty (content_of 1 keywords)
    then asks_for (letter_of_key (content_of 1 keys)) else None
item_among _ = None

abbrev pub item_question : Option Plain → Option Question
item_question (Some p) = item_among (items_of p)
item_question None = None

-- the question of a request, by its handler and arguments
abbrev pub question_in : Handler → Plain → Option Question
question_in handlers.GetRoot args = if is_empty (content_of 1 args) then Some question.GetRoot else None
question_in handlers.Close args = if is_empty (content_of 1 args) then Some question.Close else None
question_in handlers.GetAttr args = namespace_question (content_of 2 args)
question_in handlers.CallAttr args = item_question (content_of 2 args)
question_in _ args = None

abbrev pub numbered : ℕ → Option Question → Option (ℕ × Question)
numbered seq (Some q) = Some (seq, q)
numbered seq None = None

-- the number and the question of a request
abbrev pub question_of : Message → Option (ℕ × Question)
question_of (message.Request seq handler args) = numbered seq (question_in handler args)
question_of _ = None

-- the boxed value of the reply to the request of this number
abbrev pub reply_value_of : ℕ → Message → Option Plain
reply_value_of seq (message.Reply number value) = if number == seq then Some value else None
reply_value_of seq _ = None

abbrev pub object_in : Plain → Option Plain
object_in p = content_of 4 p

abbrev pub int_in : Option Plain → Option ℤ
int_in (Some p) = int_of p
int_in None = None

abbrev pub number_in : Plain → Option ℤ
number_in p = int_in (content_of 1 p)
