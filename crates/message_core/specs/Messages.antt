-- The plain value that a message is, and what reading a value must answer.
use Rattle.std.specs.Prelude.{◌≡◌, ◌≢◌, ℕ, ◌<◌, ◌≤◌, ◌^◌, ℤ, pos, Bool, true, ◌||◌, ◌==◌, [], ◌∷◌, Result, Ok, Err}
use Rattle.rp_base.specs.declared.plain.Plain.{Plain}
use Rattle.rp_base.specs.declared.plain.Plain.TheVariants as plain
use Rattle.rp_base.specs.Names.{handler_number}
use Rattle.message_core.specs.declared.message.Message.{Message}
use Rattle.message_core.specs.declared.message.Message.TheVariants as message
use Rattle.message_core.specs.declared.faults.MsgFault.{MsgFault}
use Rattle.message_core.specs.declared.faults.MsgFault.TheVariants as fault

-- a tuple of a kind, a number and a content
abbrev pub parts : ℤ → ℕ → Plain → Plain
parts kind seq content = plain.Tuple (plain.Int kind ∷ plain.Int (pos seq) ∷ content ∷ [])

-- a request's content: the number of its handler, and the box of the arguments
abbrev pub asked : ℤ → Plain → Plain
asked handler args = plain.Tuple (plain.Int handler ∷ args ∷ [])

-- the value that a message is: the kinds are 1 for a request, 2 for a reply and 3 for an exception
abbrev pub message_value : Message → Plain
message_value (message.Request seq handler args) = parts (pos 1) seq (asked (pos (handler_number handler)) args)
message_value (message.Reply seq value) = parts (pos 2) seq value
message_value (message.Exception seq content) = parts (pos 3) seq content

abbrev pub message_number : Message → ℕ
message_number (message.Request seq handler args) = seq
message_number (message.Reply seq value) = seq
message_number (message.Exception seq content) = seq

-- three parts, the first an int and the second one of 64 bits; in a request the third is a pair that begins with an int
pub record IsShaped (p : Plain) : Type 0 where
  pub kind : ℤ
  pub seq : ℕ
  pub content : Plain
  pub whole : p ≡ parts kind seq content
  pub small : seq < 2 ^ 64
  pub asks : kind ≡ pos 1 → (handler : ℤ) × (args : Plain) × (content ≡ asked handler args)

-- a request with this number of a handler
pub record Asks (p : Plain) (handler : ℤ) : Type 0 where
  pub seq : ℕ
  pub args : Plain
  pub whole : p ≡ parts (pos 1) seq (asked handler args)
  pub small : seq < 2 ^ 64

-- handlers of RPyC that this product leaves out: HASH, DIR, PICKLE, BUFFITER, OLDSLICING, CTXEXIT, INSTANCECHECK
abbrev pub is_left_out : ℕ → Bool
is_left_out n = n == 12 || n == 13 || n == 14 || n == 17 || n == 18 || n == 19 || n == 20

-- what the value is: this message, or no message by this fault, the first in the order M1 to M4
abbrev pub Finds : Plain → Result Message MsgFault → Type 0
Finds p (Ok m) = (p ≡ message_value m) × (message_number m < 2 ^ 64)
Finds p (Err fault.M1) = IsShaped p → ⊥
Finds p (Err (fault.M2 kind)) = ((seq : ℕ) × (content : Plain) × (p ≡ parts kind seq content) × (seq < 2 ^ 64)) × (kind ≢ pos 1) × (kind ≢ pos 2) × (kind ≢ pos 3)
Finds p (Err (fault.M3 handler)) = Asks p handler × ((n : ℕ) → handler ≡ pos n → 1 ≤ n → n ≤ 20 → ⊥)
Finds p (Err (fault.M4 number)) = Asks p (pos number) × (is_left_out number ≡ true)
Finds p (Err (fault.M5 number)) = ⊥
Finds p (Err fault.NoMemory) = ⊥

-- the same, or want of memory
abbrev pub Reads : Plain → Result Message MsgFault → Type 0
Reads p (Err fault.NoMemory) = Unit {0}
Reads p r = Finds p r
