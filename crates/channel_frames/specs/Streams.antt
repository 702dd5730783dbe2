-- The frames of a whole stream.
use Rattle.std.specs.Prelude.{◌≡◌, ℕ, zero, suc, ◌+◌, ◌≤◌, List, [], ◌∷◌, ◌++◌, length, All, flat_map}
use Rattle.channel_frames.specs.Frames.{front, frame_of, longest, Front, Whole, Part, Faulty, Fault}

-- What stands behind the whole frames: the bytes of a frame that is begun (none, where the stream ends with a frame) with
-- the place where they start, or a fault with its place.
pub data Ending : Type 0 where
  Rest : ℕ → List ℕ → Ending
  Stop : ℕ → Fault → Ending

-- the whole frames in order, each with the place of its first byte and its data, and the ending
abbrev pub Frames : Type 0
Frames = List (ℕ × List ℕ) × Ending

-- these frames, and then those
abbrev pub after : List (ℕ × List ℕ) → Frames → Frames
after earlier frames = (earlier ++ frames.0, frames.1)

-- the place behind a frame at this place: its data and six bytes
abbrev pub behind : ℕ → List ℕ → ℕ
behind at body = at + (length body + 6)

-- by what is in front of the bytes at this place, and how to read the bytes after a frame
abbrev pub read_on : (ℕ → List ℕ → Frames) → ℕ → List ℕ → Front → Frames
read_on later at bytes (Whole body rest) = after ((at, body) ∷ []) (later (behind at body) rest)
read_on later at bytes Part = ([], Rest at bytes)
read_on later at bytes (Faulty fault place) = ([], Stop (at + place) fault)

-- at most so many frames
unfoldable pub frames_within : ℕ → ℕ → List ℕ → Frames
frames_within zero at bytes = ([], Rest at bytes)
frames_within (suc most) at bytes = read_on (frames_within most) at bytes (front bytes)

-- the frames of the bytes that stand at this place of a stream; no stream has more frames than bytes
unfoldable pub frames_from : ℕ → List ℕ → Frames
frames_from at bytes = frames_within (suc (length bytes)) at bytes

-- the frames of a whole stream
abbrev pub frames : List ℕ → Frames
frames bytes = frames_from 0 bytes

-- how many bytes of a frame that is begun are left
abbrev pub left : Ending → ℕ
left (Rest at bytes) = length bytes
left (Stop at fault) = 0

-- what more bytes make of an ending: a frame that is begun goes on, and behind a fault nothing is read
abbrev pub resumed : Ending → List ℕ → Frames
resumed (Rest at bytes) more = frames_from at (bytes ++ more)
resumed (Stop at fault) more = ([], Stop at fault)

-- frames of these data, one behind the other from this place on
abbrev pub placed : ℕ → List (List ℕ) → List (ℕ × List ℕ)
placed at [] = []
placed at (body ∷ bodies) = (at, body) ∷ placed (behind at body) bodies

-- the place behind them
abbrev pub behind_all : ℕ → List (List ℕ) → ℕ
behind_all at [] = at
behind_all at (body ∷ bodies) = behind_all (behind at body) bodies

-- The stream is the frames of these data, one behind the other, and then a tail with no whole frame in front.
pub record Splits (bytes : List ℕ) (bodies : List (List ℕ)) (tail : List ℕ) : Type 0 where
  pub fit : All (λ body. length body ≤ longest) bodies
  pub joined : bytes ≡ flat_map frame_of bodies ++ tail
  pub ended : (body rest : List ℕ) → front tail ≡ Whole body rest → ⊥

-- what happens to a deframer: a piece is fed, or a frame's data are given
pub data Turn : Type 0 where
  Fed : List ℕ → Turn
  Given : List ℕ → Turn

-- these turns lead from the bytes that wait to those that wait then
abbrev pub Leads : List ℕ → List Turn → List ℕ → Type 0
Leads old [] new = new ≡ old
Leads old (Fed piece ∷ later) new = Leads (old ++ piece) later new
Leads old (Given body ∷ later) new = (rest : List ℕ) × (front old ≡ Whole body rest) × Leads rest later new

-- all that was fed, in order
abbrev pub fed : List Turn → List ℕ
fed [] = []
fed (Fed piece ∷ later) = piece ++ fed later
fed (Given body ∷ later) = fed later

-- the data that were given, in order
abbrev pub given : List Turn → List (List ℕ)
given [] = []
given (Fed piece ∷ later) = given later
given (Given body ∷ later) = body ∷ given later
