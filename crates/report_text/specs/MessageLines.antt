-- The printed line of a message.
use Rattle.std.specs.Prelude.{ℕ, List, [], ◌∷◌, ◌++◌, codes, decimal}
use Rattle.rp_base.specs.Names.{handler_name}
use Rattle.py_plain.specs.Printing.{repr_of}
use Rattle.message_core.specs.declared.message.Message.{Message}
use Rattle.message_core.specs.declared.message.Message.TheVariants as message

-- a text and a line feed
abbrev pub line : List ℕ → List ℕ
line text = text ++ 10 ∷ []

-- the word for the kind, the number, of a request the handler's name, and the repr of the box or of the content
unfoldable pub message_text : Message → List ℕ
message_text (message.Request seq handler args) = codes "request " ++ decimal seq ++ codes " " ++ handler_name handler ++ codes " " ++ repr_of args
message_text (message.Reply seq value) = codes "reply " ++ decimal seq ++ codes " " ++ repr_of value
message_text (message.Exception seq content) = codes "exception " ++ decimal seq ++ codes " " ++ repr_of content
