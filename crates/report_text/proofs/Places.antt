-- Where the fault of a frame stands, and which bytes stand behind a whole one.
use Rattle.std.proofs.Common.{◌≡◌, ℕ, ◌+◌, ◌<◌, Bool, true, false, eqb, ltb, List, [], ◌∷◌, length, get_or, take, drop, refl, sym, ap, ◌∙◌, arith, Err}
use Rattle.std.specs.Int.{w32, from_be_bytes}
use Rattle.std.proofs.lemmas.Bool.{ltb-true}
use Rattle.std.proofs.lemmas.List.{length-take, drop-drop}
use Rattle.channel_frames.specs.Frames.{front, Reads, answer_of, Front, Whole, Part, Faulty, Fault, TooLong, Compressed, BadFlag, BadFlusher}
use Rattle.channel_frames.proofs.Judging.{chosen, front-short, front-judged}
use Rattle.channel_frames.specs.declared.fault.FrameFault.{FrameFault}
use Rattle.report_text.specs.Dumping.{fault_at, frame_kind}
use Rattle.report_text.specs.Stepping.{Takes, shown, told_length}
use Rattle.report_text.specs.declared.judging.FrameEnd.TheVariants as frame_end

-- ---- the place of a fault

-- by the length that the frame tells
abbrev at_byte : Fault → ℕ → ℕ
at_byte (TooLong n) length = 0
at_byte Compressed length = 4
at_byte (BadFlag flag) length = 4
at_byte (BadFlusher byte) length = length + 5

same_fault : (f g : Fault) (p q n : ℕ) → Faulty f p ≡ Faulty g q → p ≡ at_byte f n → q ≡ at_byte g n
same_fault f g p q n h e =
    let one : f ≡ g = cc in
    let two : p ≡ q = cc in
    sym two ∙ e ∙ ap (λ (x : Fault). at_byte x n) one

part_or_faulty : (fault : Fault) (place : ℕ) → Part ≡ Faulty fault place → ⊥
part_or_faulty fault place h = cc

whole_or_faulty : (body rest : List ℕ) (fault : Fault) (place : ℕ) → Whole body rest ≡ Faulty fault place → ⊥
whole_or_faulty body rest fault place h = cc

chosen_place : (l z p m e : Bool) (n f u : ℕ) (body rest : List ℕ) (fault : Fault) (place : ℕ) → chosen l z p m e n f u (Whole body rest) ≡ Faulty fault place → place ≡ at_byte fault n
chosen_place true z p m e n f u body rest fault place h = same_fault (TooLong n) fault 0 place n h refl
chosen_place false true p m e n f u body rest fault place h = same_fault Compressed fault 4 place n h refl
chosen_place false false false m e n f u body rest fault place h = same_fault (BadFlag f) fault 4 place n h refl
chosen_place false false true false e n f u body rest fault place h = absurd (part_or_faulty fault place h)
chosen_place false false true true true n f u body rest fault place h = absurd (whole_or_faulty body rest fault place h)
chosen_place false false true true false n f u body rest fault place h = same_fault (BadFlusher u) fault (n + 5) place n h refl

faulty_place : (s : List ℕ) (fault : Fault) (place : ℕ) → front s ≡ Faulty fault place → place ≡ at_byte fault (told_length s)
faulty_place [] fault place h = absurd (part_or_faulty fault place (sym (front-short [] (omega arith)) ∙ h))
faulty_place (a ∷ []) fault place h = absurd (part_or_faulty fault place (sym (front-short (a ∷ []) (omega arith)) ∙ h))
faulty_place (a ∷ b ∷ []) fault place h = absurd (part_or_faulty fault place (sym (front-short (a ∷ b ∷ []) (omega arith)) ∙ h))
faulty_place (a ∷ b ∷ c ∷ []) fault place h = absurd (part_or_faulty fault place (sym (front-short (a ∷ b ∷ c ∷ []) (omega arith)) ∙ h))
faulty_place (a ∷ b ∷ c ∷ d ∷ []) fault place h = absurd (part_or_faulty fault place (sym (front-short (a ∷ b ∷ c ∷ d ∷ []) (omega arith)) ∙ h))
faulty_place (a ∷ b ∷ c ∷ d ∷ f ∷ r) fault place h =
    let n = from_be_bytes w32 (a ∷ b ∷ c ∷ d ∷ []) in
    chosen_place (ltb 67108864 n) (eqb f 1) (eqb f 0) (ltb n (length r)) (eqb (get_or r n 0) 10) n f (get_or r n 0) (take n r) (drop (n + 1) r) fault place (sym (front-judged (a ∷ b ∷ c ∷ d ∷ f ∷ r) (omega arith)) ∙ h)

told_so : (at place : ℕ) (s : List ℕ) (fault : Fault) → place ≡ at_byte fault (told_length s) → shown at (answer_of fault) s ≡ frame_end.Fault (fault_at (frame_kind fault) (at + place))
told_so at place s (TooLong n) e = ap (λ (k : ℕ). frame_end.Fault (fault_at (frame_kind (TooLong n)) k)) (omega (arith, e))
told_so at place s Compressed e = ap (λ (k : ℕ). frame_end.Fault (fault_at (frame_kind Compressed) k)) (omega (arith, e))
told_so at place s (BadFlag flag) e = ap (λ (k : ℕ). frame_end.Fault (fault_at (frame_kind (BadFlag flag)) k)) (omega (arith, e))
told_so at place s (BadFlusher byte) e = ap (λ (k : ℕ). frame_end.Fault (fault_at (frame_kind (BadFlusher byte)) k)) (omega (arith, e))

-- an error of a read is told at its place
told_by : {X : Type 0} (view : X → List ℕ) (at : ℕ) (s : List ℕ) (answer : FrameFault) (f : Front) (old new : List ℕ) → front s ≡ f → Reads view f (Err answer) old new → Takes view at s (Err (shown at answer s)) new
told_by view at s answer (Whole body rest) old new is reads = rw reads.0 tt
told_by view at s answer Part old new is reads = absurd reads
told_by view at s answer (Faulty fault place) old new is reads =
    let told = told_so at place s fault (faulty_place s fault place is) in
    rw (reads.0, told) (fault, place, is, refl)

pub told_fault : {X : Type 0} (view : X → List ℕ) (at : ℕ) (s : List ℕ) (answer : FrameFault) (new : List ℕ) → Reads view (front s) (Err answer) s new → Takes view at s (Err (shown at answer s)) new
told_fault view at s answer new reads = told_by view at s answer (front s) s new refl reads

-- ---- the bytes behind a frame

part_or_whole : (body rest : List ℕ) → Part ≡ Whole body rest → ⊥
part_or_whole body rest h = cc

chosen_behind : (l z p m e : Bool) (n f u : ℕ) (body rest some others : List ℕ) → chosen l z p m e n f u (Whole some others) ≡ Whole body rest → (m ≡ true) × (some ≡ body) × (others ≡ rest)
chosen_behind true z p m e n f u body rest some others h = absurd cc
chosen_behind false true p m e n f u body rest some others h = absurd cc
chosen_behind false false false m e n f u body rest some others h = absurd cc
chosen_behind false false true false e n f u body rest some others h = absurd cc
chosen_behind false false true true false n f u body rest some others h = absurd cc
chosen_behind false false true true true n f u body rest some others h = (refl, cc, cc)

pub rest_behind : (s body rest : List ℕ) → front s ≡ Whole body rest → rest ≡ drop (length body + 6) s
rest_behind [] body rest h = absurd (part_or_whole body rest (sym (front-short [] (omega arith)) ∙ h))
rest_behind (a ∷ []) body rest h = absurd (part_or_whole body rest (sym (front-short (a ∷ []) (omega arith)) ∙ h))
rest_behind (a ∷ b ∷ []) body rest h = absurd (part_or_whole body rest (sym (front-short (a ∷ b ∷ []) (omega arith)) ∙ h))
rest_behind (a ∷ b ∷ c ∷ []) body rest h = absurd (part_or_whole body rest (sym (front-short (a ∷ b ∷ c ∷ []) (omega arith)) ∙ h))
rest_behind (a ∷ b ∷ c ∷ d ∷ []) body rest h = absurd (part_or_whole body rest (sym (front-short (a ∷ b ∷ c ∷ d ∷ []) (omega arith)) ∙ h))
rest_behind (a ∷ b ∷ c ∷ d ∷ f ∷ r) body rest h =
    let n = from_be_bytes w32 (a ∷ b ∷ c ∷ d ∷ []) in
    let g = chosen_behind (ltb 67108864 n) (eqb f 1) (eqb f 0) (ltb n (length r)) (eqb (get_or r n 0) 10) n f (get_or r n 0) body rest (take n r) (drop (n + 1) r) (sym (front-judged (a ∷ b ∷ c ∷ d ∷ f ∷ r) (omega arith)) ∙ h) in
    let there : n < length r = ltb-true n (length r) g.0 in
    let long : length (take n r) ≡ n = omega (arith, length-take n r) in
    let size : length body ≡ n = sym (ap (λ (t : List ℕ). length t) g.1) ∙ long in
    sym g.2 ∙ ap (λ (k : ℕ). drop (k + 1) r) (sym size) ∙ sym (dropped (length body) a b c d f r)
  where
    dropped : (k a b c d f : ℕ) (r : List ℕ) → drop (k + 6) (a ∷ b ∷ c ∷ d ∷ f ∷ r) ≡ drop (k + 1) r
    dropped k a b c d f r = ap (λ (j : ℕ). drop j (a ∷ b ∷ c ∷ d ∷ f ∷ r)) (omega arith) ∙ sym (drop-drop (k + 1) 5 (a ∷ b ∷ c ∷ d ∷ f ∷ r))
