-- What a pair does with two scripts of this stage: what A prints, the units that are spent, the messages that cross and the
-- bytes that carry them.
use Rattle.std.specs.Prelude.{◌≡◌, ℕ, ℤ, ◌+◌, ◌*◌, ◌^◌, ◌<◌, ◌≤◌, pos, List, [], ◌∷◌, ◌++◌, map, length, unwrap_or, IsTrue, IsSome, All, take}
use Rattle.std.specs.Fmt.{signed_decimal}
use Rattle.brine_codec.specs.Spelling.{spelling, spellable}
use Rattle.channel_frames.specs.Frames.{frame_of, longest}
use Rattle.rp_base.specs.PlainValues.{plain_depth}
use Rattle.rp_base.specs.declared.ends.Side.{Side}
use Rattle.rp_base.specs.declared.ends.Side.TheVariants as side
use Rattle.rp_base.specs.declared.plain.Plain.{Plain}
use Rattle.rp_base.specs.declared.plain.Plain.TheVariants as plain
use Rattle.wire_io.specs.declared.ends.WireEnd.{WireEnd}
use Rattle.wire_io.specs.declared.ends.WireEnd.TheVariants as wire_end
use Rattle.pair_run.specs.declared.messages.Question.{Question}
use Rattle.pair_run.specs.declared.messages.Question.TheVariants as question
use Rattle.pair_run.specs.declared.scripts.Binding.{Binding}
use Rattle.pair_run.specs.declared.delivery.Cut.{Cut}
use Rattle.pair_run.specs.declared.delivery.Cut.TheVariants as cut
use Rattle.message_core.specs.declared.message.Message.{Message}
use Rattle.message_core.specs.declared.message.Message.TheVariants as message
use Rattle.message_core.specs.Messages.{message_value, message_number}
use Rattle.pair_run.specs.Messages.{asks, senders, by_value, root, namespace}
use Rattle.pair_run.specs.Scripts.{number_of, IsLetter, IsNumber}

-- the number that a letter is bound to
abbrev pub value_of : List Binding → ℕ → ℤ
value_of bindings letter = unwrap_or (number_of bindings letter) (pos 0)

-- each line of A prints the number of its letter
abbrev pub printed : List Binding → List ℕ → List ℕ
printed bindings [] = []
printed bindings (letter ∷ letters) = (signed_decimal (value_of bindings letter) ++ 10 ∷ []) ++ printed bindings letters

-- two units a line of B, two to make `conn`, eight a line of A
abbrev pub units_of : List Binding → List ℕ → ℕ
units_of bindings letters = 2 * length bindings + 2 + 8 * length letters

-- what B answers: its root, its namespace, or the number of a letter
abbrev pub answer : List Binding → Question → Plain
answer bindings question.GetRoot = senders root
answer bindings question.GetNamespace = senders namespace
answer bindings (question.GetItem letter) = by_value (plain.Int (value_of bindings letter))
answer bindings question.Close = by_value plain.None

-- a question of A, and B's answer under its number
abbrev pub exchange : List Binding → ℕ → Question → List (Side × Message)
exchange bindings seq q = (side.A, asks seq q) ∷ (side.B, message.Reply seq (answer bindings q)) ∷ []

-- one exchange a line of A
abbrev pub items_from : List Binding → ℕ → List ℕ → List (Side × Message)
items_from bindings seq [] = []
items_from bindings seq (letter ∷ letters) = exchange bindings seq (question.GetItem letter) ++ items_from bindings (seq + 1) letters

-- A closes
abbrev pub closing : ℕ → List (Side × Message)
closing seq = (side.A, asks seq question.Close) ∷ []

-- the whole conversation
abbrev pub talk : List Binding → List ℕ → List (Side × Message)
talk bindings letters =
    exchange bindings 0 question.GetRoot ++ (exchange bindings 1 question.GetNamespace ++ (items_from bindings 2 letters ++ closing (2 + length letters)))

-- a message is carried as the frame of the spelling of its value
abbrev pub bytes_of : Message → List ℕ
bytes_of m = frame_of (spelling (message_value m))

-- the bytes of a conversation in order, each with its sender
abbrev pub sent_by : Side → List ℕ → List (Side × ℕ)
sent_by s bytes = map (λ b. (s, b)) bytes

abbrev pub stream : List (Side × Message) → List (Side × ℕ)
stream [] = []
stream (m ∷ messages) = sent_by m.0 (bytes_of m.1) ++ stream messages

abbrev pub from_a : List (Side × ℕ) → List ℕ
from_a [] = []
from_a ((side.A, b) ∷ bytes) = b ∷ from_a bytes
from_a ((side.B, b) ∷ bytes) = from_a bytes

abbrev pub from_b : List (Side × ℕ) → List ℕ
from_b [] = []
from_b ((side.A, b) ∷ bytes) = from_b bytes
from_b ((side.B, b) ∷ bytes) = b ∷ from_b bytes

-- what both wires had carried before, and have carried since
abbrev pub Carries : List (Side × ℕ) → List ℕ → List ℕ → List ℕ → List ℕ → Type 0
Carries bytes ab_old ab_new ba_old ba_new = (ab_new ≡ ab_old ++ from_a bytes) × (ba_new ≡ ba_old ++ from_b bytes)

-- a front of the bytes, as they stand in the conversation
abbrev pub CarriesFront : List (Side × ℕ) → List ℕ → List ℕ → List ℕ → List ℕ → Type 0
CarriesFront bytes ab_old ab_new ba_old ba_new =
    (front : List (Side × ℕ)) × (rest : List (Side × ℕ)) × (bytes ≡ front ++ rest) × Carries front ab_old ab_new ba_old ba_new

-- a front of one message's bytes, on one wire
abbrev pub CarriesPart : List ℕ → List ℕ → List ℕ → Type 0
CarriesPart bytes old new = (front : List ℕ) × (rest : List ℕ) × (bytes ≡ front ++ rest) × (new ≡ old ++ front)

-- a message whose value has a spelling that a frame can hold
pub record IsSendable (m : Message) : Type 0 where
  pub numbered : message_number m < 2 ^ 64
  pub spelled : IsTrue (spellable (message_value m))
  pub shallow : plain_depth (message_value m) ≤ 100
  pub short : length (spelling (message_value m)) ≤ longest

-- what a device's end cuts short
abbrev pub cut_by : WireEnd → Cut
cut_by wire_end.Failed = cut.Wire
cut_by wire_end.NoMemory = cut.NoMemory

-- a question that B answers
abbrev pub IsAnswered : List Binding → Question → Type 0
IsAnswered bindings question.GetRoot = Unit {0}
IsAnswered bindings question.GetNamespace = Unit {0}
IsAnswered bindings (question.GetItem letter) = IsLetter letter × IsSome (number_of bindings letter) × IsNumber (value_of bindings letter)
IsAnswered bindings question.Close = ⊥

-- a request of this number that B answers
abbrev pub IsAsked : List Binding → ℕ → Message → Type 0
IsAsked bindings seq request = (q : Question) × (request ≡ asks seq q) × IsAnswered bindings q × (seq < 2 ^ 64)

-- nothing waits in the wires or in the inboxes
pub record IsIdle (ab ba inbox_a inbox_b : List ℕ) : Type 0 where
  pub no_requests : ab ≡ []
  pub no_replies : ba ≡ []
  pub none_for_a : inbox_a ≡ []
  pub none_for_b : inbox_b ≡ []

-- each letter's question is answered
abbrev pub AreAnswered : List Binding → List ℕ → Type 0
AreAnswered bindings letters = All (λ letter. IsAnswered bindings (question.GetItem letter)) letters

-- what A printed before, and now: the lines of the first letters
abbrev pub PrintsFirst : List Binding → List ℕ → List ℕ → List ℕ → Type 0
PrintsFirst bindings letters old new = (count : ℕ) × (new ≡ old ++ printed bindings (take count letters))
