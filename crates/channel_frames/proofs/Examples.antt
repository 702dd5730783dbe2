-- Worked streams. Bytes and answers are from the format, by hand.
use Rattle.std.proofs.Common.{◌≡◌, [], ◌∷◌, List, ℕ, ◌++◌, refl}
use Rattle.channel_frames.specs.Frames.{front, TooLong, Compressed, BadFlag, BadFlusher}
use Rattle.channel_frames.specs.Streams.{frames, frames_from, frames_within, Rest, Stop}

-- the frame of the data 7 8
abbrev one : List ℕ
one = 0 ∷ 0 ∷ 0 ∷ 2 ∷ 0 ∷ 7 ∷ 8 ∷ 10 ∷ []

pub nothing : frames [] ≡ ([], Rest 0 [])
unfolding front frames_from frames_within
nothing = refl

-- two frames, and a third that is begun
pub two_and_a_part : frames (one ++ one ++ 0 ∷ 0 ∷ 0 ∷ []) ≡ ((0, 7 ∷ 8 ∷ []) ∷ (8, 7 ∷ 8 ∷ []) ∷ [], Rest 16 (0 ∷ 0 ∷ 0 ∷ []))
unfolding front frames_from frames_within
two_and_a_part = refl

-- the frame without data
pub empty_data : frames (0 ∷ 0 ∷ 0 ∷ 0 ∷ 0 ∷ 10 ∷ []) ≡ ((0, []) ∷ [], Rest 6 [])
unfolding front frames_from frames_within
empty_data = refl

-- a fault behind a frame: the length at its first byte, whatever the flag is
pub too_long : frames (one ++ 4 ∷ 0 ∷ 0 ∷ 1 ∷ 2 ∷ []) ≡ ((0, 7 ∷ 8 ∷ []) ∷ [], Stop 8 (TooLong 67108865))
unfolding front frames_from frames_within
too_long = refl

-- the flag at the flag
pub compressed : frames (0 ∷ 0 ∷ 0 ∷ 1 ∷ 1 ∷ []) ≡ ([], Stop 4 Compressed)
unfolding front frames_from frames_within
compressed = refl

pub bad_flag : frames (one ++ 0 ∷ 0 ∷ 0 ∷ 0 ∷ 2 ∷ 10 ∷ []) ≡ ((0, 7 ∷ 8 ∷ []) ∷ [], Stop 12 (BadFlag 2))
unfolding front frames_from frames_within
bad_flag = refl

-- the byte behind the data at that byte; what follows is not read
pub bad_flusher : frames (0 ∷ 0 ∷ 0 ∷ 1 ∷ 0 ∷ 0 ∷ 11 ∷ one) ≡ ([], Stop 6 (BadFlusher 11))
unfolding front frames_from frames_within
bad_flusher = refl
