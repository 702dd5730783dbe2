-- Messages that cost nothing, as a layer over a side's conversation: releases, pings, their answers, and a close.
-- Lists are newest first.
use Rattle.std.specs.Prelude.{Bool, true, false, if◌then◌else◌, List, [], ◌∷◌, ◌++◌, map, length, take, ℕ, ◌-◌, ◌≡◌}
use Rattle.side_trees.specs.Sides.{Lang, TreeOf, Message, Event, Got, Begin, Half, Going, Failed, react, half, written, sent, got}
use Rattle.side_trees.specs.Growing.{Extends}

-- All that crosses. I are identities. Releases i n gives up n references to i, Released answers a release, and Ponged a ping.
pub data Packet (L : Lang) (I : Type 0) : Type 0 where
  Carries : Message L → Packet L I
  Releases : I → ℕ → Packet L I
  Released Pings Ponged Closes : Packet L I

-- All that happens to a side: it reads a packet; its host begins a text, gives up references, or writes a close.
pub data Happening (L : Lang) (I : Type 0) : Type 0 where
  Reads : Packet L I → Happening L I
  Starts : TreeOf L → Happening L I
  Sweeps : List (I × ℕ) → Happening L I
  Shuts : Happening L I

-- A side with all that it wrote, and whether it read a close.
pub record Line (L : Lang) (I : Type 0) : Type 0 where
  pub side : Half L
  pub out : List (Packet L I)
  pub closed : Bool

-- what new has before old
abbrev pub since : {M : Type 0} → List M → List M → List M
since new old = take (length new - length old) new

abbrev pub carried : (L : Lang) (I : Type 0) → List (Message L) → List (Packet L I)
carried L I ms = map (λ m. Carries m) ms

-- the side reacts, and its new messages go out
abbrev pub talks : (L : Lang) (I : Type 0) → Line L I → Event L → Line L I
talks L I x e = record {
  side = react L x.side e;
  out = carried L I (since (sent L (written L (react L x.side e))) (sent L (written L x.side))) ++ x.out;
  closed = x.closed;
}

-- an answer at once, at no cost, by a side that has not failed
abbrev pub answers : (L : Lang) (I : Type 0) → Half L → Packet L I → List (Packet L I) → List (Packet L I)
answers L I (Going p s u w) a out = a ∷ out
answers L I (Failed x s u w) a out = out

abbrev pub reads : (L : Lang) (I : Type 0) → Line L I → Packet L I → Line L I
reads L I x (Carries m) = talks L I x (Got m)
reads L I x (Releases i n) = record x { out = answers L I x.side Released x.out }
reads L I x Released = x
reads L I x Pings = record x { out = answers L I x.side Ponged x.out }
reads L I x Ponged = x
reads L I x Closes = record x { closed = true }

-- after a close nothing more is read
abbrev pub meets : (L : Lang) (I : Type 0) → Line L I → Happening L I → Line L I
meets L I x (Reads p) = if x.closed then x else reads L I x p
meets L I x (Starts t) = talks L I x (Begin t)
meets L I x (Sweeps rs) = record x { out = map (λ r. Releases r.0 r.1) rs ++ x.out }
meets L I x Shuts = record x { out = Closes ∷ x.out }

abbrev pub line : (L : Lang) (I : Type 0) → Half L → List (Happening L I) → Line L I
line L I start [] = record { side = start; out = carried L I (sent L (written L start)); closed = false }
line L I start (e ∷ es) = meets L I (line L I start es) e

-- whether a close was read
abbrev pub is_close : (L : Lang) (I : Type 0) → Packet L I → Bool
is_close L I Closes = true
is_close L I (Carries m) = false
is_close L I (Releases i n) = false
is_close L I Released = false
is_close L I Pings = false
is_close L I Ponged = false

abbrev pub read_close : (L : Lang) (I : Type 0) → List (Happening L I) → Bool
read_close L I [] = false
read_close L I (Reads p ∷ es) = if read_close L I es then true else is_close L I p
read_close L I (Starts t ∷ es) = read_close L I es
read_close L I (Sweeps rs ∷ es) = read_close L I es
read_close L I (Shuts ∷ es) = read_close L I es

-- the conversation: without what costs nothing, and without what stands behind a close
abbrev pub heard_of : (L : Lang) (I : Type 0) → Packet L I → List (Event L) → List (Event L)
heard_of L I (Carries m) es = Got m ∷ es
heard_of L I (Releases i n) es = es
heard_of L I Released es = es
heard_of L I Pings es = es
heard_of L I Ponged es = es
heard_of L I Closes es = es

abbrev pub conversation : (L : Lang) (I : Type 0) → List (Happening L I) → List (Event L)
conversation L I [] = []
conversation L I (Reads p ∷ es) = if read_close L I es then conversation L I es else heard_of L I p (conversation L I es)
conversation L I (Starts t ∷ es) = Begin t ∷ conversation L I es
conversation L I (Sweeps rs ∷ es) = conversation L I es
conversation L I (Shuts ∷ es) = conversation L I es

-- the messages among packets
abbrev pub messages : (L : Lang) (I : Type 0) → List (Packet L I) → List (Message L)
messages L I [] = []
messages L I (Carries m ∷ ps) = m ∷ messages L I ps
messages L I (Releases i n ∷ ps) = messages L I ps
messages L I (Released ∷ ps) = messages L I ps
messages L I (Pings ∷ ps) = messages L I ps
messages L I (Ponged ∷ ps) = messages L I ps
messages L I (Closes ∷ ps) = messages L I ps

-- the packets read
abbrev pub packets : (L : Lang) (I : Type 0) → List (Happening L I) → List (Packet L I)
packets L I [] = []
packets L I (Reads p ∷ es) = p ∷ packets L I es
packets L I (Starts t ∷ es) = packets L I es
packets L I (Sweeps rs ∷ es) = packets L I es
packets L I (Shuts ∷ es) = packets L I es

-- What costs nothing changes nothing else: the side is that of its conversation (its state, units, record and what it waits for), and so are the messages that it wrote.
-- Before a close the conversation has every message that was read, and where packets begin as others do, so do their messages.
pub record FreeOfCost (L : Lang) (I : Type 0) : Type 0 where
  pub sides : (start : Half L) (es : List (Happening L I)) → (line L I start es).side ≡ half L start (conversation L I es)
  pub writes : (start : Half L) (es : List (Happening L I)) → messages L I (line L I start es).out ≡ sent L (written L (half L start (conversation L I es)))
  pub closes : (start : Half L) (es : List (Happening L I)) → (line L I start es).closed ≡ read_close L I es
  pub hears : (es : List (Happening L I)) → read_close L I es ≡ false → got L (conversation L I es) ≡ messages L I (packets L I es)
  pub follows : (new old : List (Packet L I)) → Extends new old → Extends (messages L I new) (messages L I old)
