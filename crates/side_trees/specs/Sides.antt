-- One side of a conversation: a fold over the messages that it reads and the texts that it begins.
-- Lists of messages, items and events are newest first.
use Rattle.std.specs.Prelude.{Bool, List, [], ◌∷◌, ℕ, zero}
use Rattle.side_trees.specs.Trees.{Tree, Ended, Return, Spend, Done, Asked, Stopped, NoFuel, run}

-- A language: its codes, a side's own state, what is asked of the other side, outcomes, ways out, what is printed, and what requests and replies hold.
-- expand is the rule book. A question is boxed by the state of the side that asks, and read as a code; so is an outcome by the state of the side that answers, and read by that of the side that asked.
-- After an outcome that goes on another text may begin.
pub record Lang : Type 1 where
  pub C : Type 0
  pub S : Type 0
  pub Q : Type 0
  pub A : Type 0
  pub K : Type 0
  pub O : Type 0
  pub Req : Type 0
  pub Ans : Type 0
  pub expand : C → Tree C S Q A K O
  pub box_q : S → Q → Req
  pub read_q : Req → C
  pub box_a : S → A → Ans
  pub read_a : S → Ans → A
  pub goes_on : A → Bool

abbrev pub TreeOf : Lang → Type 0
TreeOf L = Tree L.C L.S L.Q L.A L.K L.O

-- what crosses; a reply carries any outcome, so an exception too
pub data Message (L : Lang) : Type 0 where
  Request : L.Req → Message L
  Reply : L.Ans → Message L

-- what a side puts on record: a message sent, or something printed
pub data Item (L : Lang) : Type 0 where
  Sends : Message L → Item L
  Shows : L.O → Item L

-- what happens to a side: it reads a message, or its host begins a text
pub data Event (L : Lang) : Type 0 where
  Got : Message L → Event L
  Begin : TreeOf L → Event L

abbrev pub EndedOf : Lang → Type 0
EndedOf L = Ended L.C L.S L.Q L.A L.K L.O (List (Item L))

-- The stack of what waits, innermost first. Over: idle, with the last text's outcome. Await: a question is out; with its answer the task goes on.
-- Texting: the side's own text. Serving: a request, over what waited when it was read.
mutual
  pub data Pending (L : Lang) : Type 0 where
    Over : L.A → Pending L
    Await : Task L → (L.A → TreeOf L) → Pending L

  pub data Task (L : Lang) : Type 0 where
    Texting : Task L
    Serving : Pending L → Task L

-- How a side fails: no unit is left, the subset is left, or it was handed what cannot come (a reply that nothing awaits, a text while it waits).
pub data Failure (L : Lang) : Type 0 where
  OutOfFuel : Failure L
  Beyond : L.K → Failure L
  Broken : Failure L

-- A side between two events: what waits, its state, its units, its record. A failed side stays as it is.
pub data Half (L : Lang) : Type 0 where
  Going : Pending L → L.S → ℕ → List (Item L) → Half L
  Failed : Failure L → L.S → ℕ → List (Item L) → Half L

-- where a side is once it gets no further by itself: an outcome of a request is sent as its reply, and a question as a request
abbrev pub settle : (L : Lang) → Task L → EndedOf L → Half L
settle L Texting (Done a s u w) = Going (Over a) s u w
settle L (Serving p) (Done a s u w) = Going p s u (Sends (Reply (L.box_a s a)) ∷ w)
settle L task (Asked q k s u w) = Going (Await task k) s u (Sends (Request (L.box_q s q)) ∷ w)
settle L task (Stopped x s u w) = Failed (Beyond x) s u w
settle L task (NoFuel s w) = Failed OutOfFuel s zero w

-- the task goes on with a tree, as far as the side gets
abbrev pub go : (L : Lang) → Task L → ℕ → TreeOf L → L.S → List (Item L) → Half L
go L task u t s w = settle L task (run L.expand (λ o is. Shows o ∷ is) u t s w)

-- a reply goes to the innermost wait
abbrev pub resume : (L : Lang) → Pending L → L.Ans → L.S → ℕ → List (Item L) → Half L
resume L (Over x) m s u w = Failed Broken s u w
resume L (Await task k) m s u w = go L task u (k (L.read_a s m)) s w

-- a text begins where nothing waits
abbrev pub begin : (L : Lang) → Pending L → TreeOf L → L.S → ℕ → List (Item L) → Half L
begin L (Over x) t s u w = go L Texting u t s w
begin L (Await task k) t s u w = Failed Broken s u w

-- One event. A request is served over whatever waits: the unit that it costs is spent first, then its code runs.
abbrev pub react : (L : Lang) → Half L → Event L → Half L
react L (Going p s u w) (Got (Request r)) = go L (Serving p) u (Spend (L.read_q r) (λ a. Return a)) s w
react L (Going p s u w) (Got (Reply m)) = resume L p m s u w
react L (Going p s u w) (Begin t) = begin L p t s u w
react L (Failed x s u w) e = Failed x s u w

-- a side after a list of events
abbrev pub half : (L : Lang) → Half L → List (Event L) → Half L
half L start [] = start
half L start (e ∷ es) = react L (half L start es) e

-- a side at its start: idle, with nothing on record
abbrev pub idling : (L : Lang) → L.A → L.S → ℕ → Half L
idling L a s u = Going (Over a) s u []

abbrev pub written : (L : Lang) → Half L → List (Item L)
written L (Going p s u w) = w
written L (Failed x s u w) = w

-- the units left
abbrev pub units : (L : Lang) → Half L → ℕ
units L (Going p s u w) = u
units L (Failed x s u w) = u

-- the messages among events, those of a record, and what a record prints
abbrev pub got : (L : Lang) → List (Event L) → List (Message L)
got L [] = []
got L (Got m ∷ es) = m ∷ got L es
got L (Begin t ∷ es) = got L es

abbrev pub sent : (L : Lang) → List (Item L) → List (Message L)
sent L [] = []
sent L (Sends m ∷ is) = m ∷ sent L is
sent L (Shows o ∷ is) = sent L is

abbrev pub shown : (L : Lang) → List (Item L) → List L.O
shown L [] = []
shown L (Sends m ∷ is) = shown L is
shown L (Shows o ∷ is) = o ∷ shown L is
