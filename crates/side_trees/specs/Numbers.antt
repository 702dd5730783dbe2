-- Numbers of messages, as a layer over a side's conversation. A side numbers its requests by place, from 0; a reply has the number of its request.
-- Lists are newest first; stacks have the innermost first.
use Rattle.std.specs.Prelude.{if◌then◌else◌, ◌==◌, List, [], ◌∷◌, ℕ, zero, suc, length, ◌≡◌, IsFalse, ⊤}
use Rattle.side_trees.specs.Sides.{Lang, TreeOf, Message, Request, Reply, Event, Got, Begin, Pending, Over, Await, Texting, Serving, Broken, Half, Going, Failed, react, half, idling, written, sent}
use Rattle.side_trees.specs.FreeMessages.{since}

pub record Numbered (L : Lang) : Type 0 where
  pub number : ℕ
  pub message : Message L

-- what happens to a side: a message with its number, or a text that its host begins
pub data Arrival (L : Lang) : Type 0 where
  Brings : ℕ → Message L → Arrival L
  Opens : TreeOf L → Arrival L

-- A side with its numbers: its questions without an answer, the requests that it serves, how many requests it has written and read, and all that it wrote.
pub record Tally (L : Lang) : Type 0 where
  pub side : Half L
  pub asked : List ℕ
  pub served : List ℕ
  pub next : ℕ
  pub due : ℕ
  pub out : List (Numbered L)

abbrev pub innermost : List ℕ → ℕ
innermost [] = zero
innermost (n ∷ ns) = n

abbrev pub outer : List ℕ → List ℕ
outer [] = []
outer (n ∷ ns) = ns

-- the number that the next message is to have: a request by its place, a reply that of the innermost question
abbrev pub number_due : (L : Lang) → Tally L → Message L → ℕ
number_due L x (Request r) = x.due
number_due L x (Reply m) = innermost x.asked

-- a message is read, and messages are written
abbrev pub tallied : (L : Lang) → Tally L → Message L → Tally L
tallied L x (Request r) = record x { served = x.due ∷ x.served; due = suc x.due }
tallied L x (Reply m) = record x { asked = outer x.asked }

abbrev pub puts_out : (L : Lang) → Tally L → Message L → Tally L
puts_out L x (Request r) = record x { asked = x.next ∷ x.asked; next = suc x.next; out = record { number = x.next; message = Request r } ∷ x.out }
puts_out L x (Reply m) = record x { served = outer x.served; out = record { number = innermost x.served; message = Reply m } ∷ x.out }

abbrev pub puts_all : (L : Lang) → Tally L → List (Message L) → Tally L
puts_all L x [] = x
puts_all L x (m ∷ ms) = puts_out L (puts_all L x ms) m

-- the side reacts, and what it writes gets its numbers
abbrev pub moves : (L : Lang) → Tally L → Half L → Tally L
moves L x y = record (puts_all L x (since (sent L (written L y)) (sent L (written L x.side)))) { side = y }

-- a message with another number breaks the conversation
abbrev pub breaks : (L : Lang) → Half L → Half L
breaks L (Going p s u w) = Failed Broken s u w
breaks L (Failed x s u w) = Failed x s u w

abbrev pub arrives : (L : Lang) → Tally L → Arrival L → Tally L
arrives L x (Brings n m) = if n == number_due L x m then moves L (tallied L x m) (react L x.side (Got m)) else record x { side = breaks L x.side }
arrives L x (Opens t) = moves L x (react L x.side (Begin t))

-- a side that begins with nothing written, and what comes of it
abbrev pub fresh : (L : Lang) → Half L → Tally L
fresh L start = record { side = start; asked = []; served = []; next = zero; due = zero; out = [] }

abbrev pub tally : (L : Lang) → Half L → List (Arrival L) → Tally L
tally L start [] = fresh L start
tally L start (e ∷ es) = arrives L (tally L start es) e

-- the messages of a conversation with the numbers that they are to have
abbrev pub numbered_one : (L : Lang) → Tally L → Event L → Arrival L
numbered_one L x (Got m) = Brings (number_due L x m) m
numbered_one L x (Begin t) = Opens t

abbrev pub by_place : (L : Lang) → Half L → List (Event L) → List (Arrival L)
by_place L start [] = []
by_place L start (e ∷ es) = numbered_one L (tally L start (by_place L start es)) e ∷ by_place L start es

abbrev pub message_list : (L : Lang) → List (Numbered L) → List (Message L)
message_list L [] = []
message_list L (n ∷ ns) = n.message ∷ message_list L ns

-- the numbers of the requests among messages, and the numbers below n, the greatest first
abbrev pub with_request : (L : Lang) → Message L → ℕ → List ℕ → List ℕ
with_request L (Request r) n ns = n ∷ ns
with_request L (Reply m) n ns = ns

abbrev pub request_numbers : (L : Lang) → List (Numbered L) → List ℕ
request_numbers L [] = []
request_numbers L (x ∷ xs) = with_request L x.message x.number (request_numbers L xs)

abbrev pub all_before : ℕ → List ℕ
all_before zero = []
all_before (suc n) = n ∷ all_before n

-- by_its_numbers: over messages numbered by place the side is that of its conversation, and writes the same messages. another_number: with another number it breaks.
-- in_order: whatever comes, the requests that it writes are numbered 0, 1, 2 and on.
pub record NumbersFit (L : Lang) (start : Half L) : Type 0 where
  pub by_its_numbers : (es : List (Event L)) → (tally L start (by_place L start es)).side ≡ half L start es
  pub writes : (es : List (Event L)) → message_list L (tally L start (by_place L start es)).out ≡ sent L (written L (half L start es))
  pub another_number : (es : List (Arrival L)) (n : ℕ) (m : Message L) → IsFalse (n == number_due L (tally L start es) m)
      → (tally L start (Brings n m ∷ es)).side ≡ breaks L (tally L start es).side
  pub in_order : (es : List (Arrival L)) → request_numbers L (tally L start es).out ≡ all_before (tally L start es).next

-- of a side that begins with nothing written
abbrev pub ByNumbers : Lang → Type 0
ByNumbers L = (start : Half L) → sent L (written L start) ≡ [] → NumbersFit L start

-- how many questions of a stack are without an answer, and how many requests it serves
abbrev pub questions : (L : Lang) → Pending L → ℕ
questions L (Over a) = zero
questions L (Await Texting k) = suc zero
questions L (Await (Serving p) k) = suc (questions L p)

abbrev pub servings : (L : Lang) → Pending L → ℕ
servings L (Over a) = zero
servings L (Await Texting k) = zero
servings L (Await (Serving p) k) = suc (servings L p)

-- a side that has not failed keeps a number for each question without an answer, and for each request that it serves
abbrev pub Stacked : (L : Lang) → Half L → List ℕ → List ℕ → Type 0
Stacked L (Going p s u w) asked served = (length asked ≡ questions L p) × (length served ≡ servings L p)
Stacked L (Failed x s u w) asked served = ⊤

abbrev pub StacksFit : Lang → Type 0
StacksFit L = (a : L.A) (s : L.S) (u : ℕ) (es : List (Arrival L)) → let x : Tally L = tally L (idling L a s u) es in Stacked L x.side x.asked x.served
