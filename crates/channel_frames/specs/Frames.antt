-- Frames, and what the bytes of a stream have in front.
use Rattle.std.specs.Prelude.{◌≡◌, ◌≢◌, ◌^◌, ℕ, ◌+◌, ◌<◌, ◌≤◌, List, [], ◌∷◌, ◌++◌, ◌⊎◌, length, take, drop, slice_index, nat_lt, ◌==◌, if◌then◌else◌, Option, Some, None, Result, Ok, Err}
use Rattle.std.specs.Int.{w32, to_be_bytes, from_be_bytes}
use Rattle.channel_frames.specs.declared.fault.FrameFault.{FrameFault}
use Rattle.channel_frames.specs.declared.fault.FrameFault.TheVariants as frame_fault

-- the frame of these data
unfoldable pub frame_of : List ℕ → List ℕ
frame_of body = to_be_bytes w32 (length body) ++ 0 ∷ body ++ 10 ∷ []

abbrev pub IsBytes : List ℕ → Type 0
IsBytes bytes = (i : ℕ) → slice_index bytes i < 256

-- why no frame can be in front: with the length, with the flag, with the byte that is no flusher
pub data Fault : Type 0 where
  TooLong : ℕ → Fault
  Compressed : Fault
  BadFlag : ℕ → Fault
  BadFlusher : ℕ → Fault

-- A frame's data with the bytes after it, or less than a frame, or no frame however the bytes go on: why, and the place
-- of the byte that shows it.
pub data Front : Type 0 where
  Whole : List ℕ → List ℕ → Front
  Part : Front
  Faulty : Fault → ℕ → Front

-- the greatest length of a frame's data: 64 MiB
abbrev pub longest : ℕ
longest = 67108864

-- by the length and the bytes behind the flag
abbrev pub finished : ℕ → List ℕ → Front
finished n rest =
    if nat_lt n (length rest) then (if slice_index rest n == 10 then Whole (take n rest) (drop (n + 1) rest) else Faulty (BadFlusher (slice_index rest n)) (n + 5)) else Part

-- by the length, the flag and the bytes behind it
abbrev pub judged : ℕ → ℕ → List ℕ → Front
judged n flag rest =
    if nat_lt longest n then Faulty (TooLong n) 0
    else if flag == 1 then Faulty Compressed 4
    else if flag == 0 then finished n rest
    else Faulty (BadFlag flag) 4

unfoldable pub front : List ℕ → Front
front bytes = if nat_lt (length bytes) 5 then Part else judged (from_be_bytes w32 (take 4 bytes)) (slice_index bytes 4) (drop 5 bytes)

-- the answer that tells a fault
abbrev pub answer_of : Fault → FrameFault
answer_of (TooLong n) = frame_fault.F1 n
answer_of Compressed = frame_fault.F2
answer_of (BadFlag flag) = frame_fault.F3 flag
answer_of (BadFlusher byte) = frame_fault.F4 byte

-- the answer tells the fault that is in front
abbrev pub Tells : FrameFault → Front → Type 0
Tells answer (Faulty fault place) = answer ≡ answer_of fault
Tells answer Part = ⊥
Tells answer (Whole body rest) = ⊥

-- the length of the data of the frame in front, where a whole one is there, or the fault
abbrev pub Judges : Result (Option ℕ) FrameFault → List ℕ → Type 0
Judges (Ok (Some n)) bytes = (n + 6 ≤ length bytes) × (front bytes ≡ Whole (take n (drop 5 bytes)) (drop (n + 6) bytes)) × (n ≤ longest)
Judges (Ok None) bytes = front bytes ≡ Part
Judges (Err answer) bytes = Tells answer (front bytes)

-- What a read answers by what is in front, with the bytes that waited before and after. The data are seen by view.
abbrev pub Reads : {X : Type 0} → (X → List ℕ) → Front → Result (Option X) FrameFault → List ℕ → List ℕ → Type 0
Reads view (Whole body rest) (Ok (Some x)) old new = (view x ≡ body) × (new ≡ rest)
Reads view (Whole body rest) (Ok None) old new = ⊥
Reads view (Whole body rest) (Err answer) old new = (answer ≡ frame_fault.NoMemory) × (new ≡ old)
Reads view Part (Ok (Some x)) old new = ⊥
Reads view Part (Ok None) old new = new ≡ old
Reads view Part (Err answer) old new = ⊥
Reads view (Faulty fault place) (Ok o) old new = ⊥
Reads view (Faulty fault place) (Err answer) old new = (answer ≡ answer_of fault) × (new ≡ old)

-- Why no frame was written for data of this length.
abbrev pub Refuses : ℕ → FrameFault → Type 0
Refuses n answer = ((longest < n) × (answer ≡ frame_fault.F1 n)) ⊎ ((n ≤ longest) × (answer ≡ frame_fault.NoMemory))

-- The bytes begin with this length and this flag.
abbrev pub Begins : ℕ → ℕ → List ℕ → Type 0
Begins n flag bytes = (n < 2 ^ 32) × (take 5 bytes ≡ to_be_bytes w32 n ++ flag ∷ [])

-- What a fault says of the bytes, and of the place of the byte that shows it.
abbrev pub Says : Fault → ℕ → List ℕ → Type 0
Says (TooLong n) place bytes = (flag : ℕ) × Begins n flag bytes × (longest < n) × (place ≡ 0)
Says Compressed place bytes = (n : ℕ) × Begins n 1 bytes × (n ≤ longest) × (place ≡ 4)
Says (BadFlag flag) place bytes = (n : ℕ) × Begins n flag bytes × (n ≤ longest) × (1 < flag) × (place ≡ 4)
Says (BadFlusher byte) place bytes =
    (n : ℕ) × Begins n 0 bytes × (n ≤ longest) × (place ≡ n + 5) × (place < length bytes) × (slice_index bytes place ≡ byte) × (byte ≢ 10)

-- The bytes of a frame that is begun: fewer than tell its length and its flag, or fewer than the length asks for.
abbrev pub IsBegun : List ℕ → Type 0
IsBegun bytes = (length bytes < 5) ⊎ ((n : ℕ) × Begins n 0 bytes × (n ≤ longest) × (length bytes < n + 6))
