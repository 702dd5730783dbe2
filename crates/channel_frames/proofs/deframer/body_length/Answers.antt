use Rattle.std.proofs.Common.{◌≡◌, ℕ, ◌+◌, ◌-◌, ◌<◌, ◌≤◌, List, length, get_or, take, drop, sym, ap, ◌∙◌, arith}
use Rattle.std.proofs.lemmas.List.{take_rest, drop-drop, length-drop}
use Rattle.channel_frames.specs.Frames.{front, Whole, TooLong, Compressed, BadFlag, BadFlusher, Faulty}
use Rattle.channel_frames.proofs.Judging.{front-short, front-numbered, from_fault, judged-too_long, judged-compressed, judged-flagged, judged-part, judged-not_flushed, judged-whole}
use Rattle.channel_frames.proofs.deframer.body_length.Goals as goal

pub returns-then-waiting-lt-HEADER : goal.returns-then-waiting-lt-HEADER
returns-then-waiting-lt-HEADER c = front-short c.args.waiting.now (omega arith)

pub returns-then-length-gt-LONGEST : goal.returns-then-length-gt-LONGEST
returns-then-length-gt-LONGEST c =
    let s = c.args.waiting.now in
    let n = c.from_be_bytes-length.result in
    let is = front-numbered s n c.if-waiting-lt-HEADER.false c.from_be_bytes-length.ensures in
    from_fault (front s) (TooLong n) 0 (is ∙ judged-too_long n (get_or s 4 0) (drop 5 s) c.if-length-gt-LONGEST.true)

pub returns-then-flag-eq-COMPRESSED : goal.returns-then-flag-eq-COMPRESSED
returns-then-flag-eq-COMPRESSED c =
    let s = c.args.waiting.now in
    let n = c.from_be_bytes-length.result in
    let is = front-numbered s n c.if-waiting-lt-HEADER.false c.from_be_bytes-length.ensures in
    from_fault (front s) Compressed 4 (is ∙ judged-compressed n (get_or s 4 0) (drop 5 s) c.if-length-gt-LONGEST.false c.if-flag-eq-COMPRESSED.true)

pub returns-then-flag-ne-PLAIN : goal.returns-then-flag-ne-PLAIN
returns-then-flag-ne-PLAIN c =
    let s = c.args.waiting.now in
    let n = c.from_be_bytes-length.result in
    let is = front-numbered s n c.if-waiting-lt-HEADER.false c.from_be_bytes-length.ensures in
    from_fault (front s) (BadFlag (get_or s 4 0)) 4
    (is ∙ judged-flagged n (get_or s 4 0) (drop 5 s) c.if-length-gt-LONGEST.false c.if-flag-ne-PLAIN.true c.if-flag-eq-COMPRESSED.false)

pub returns-then-rest-length : goal.returns-then-rest-length
returns-then-rest-length c =
    let s = c.args.waiting.now in
    let n = c.from_be_bytes-length.result in
    let all : length (drop 5 s) ≤ n = omega (arith, ap (λ (t : List ℕ). length t) (take_rest s 5)) in
    front-numbered s n c.if-waiting-lt-HEADER.false c.from_be_bytes-length.ensures
    ∙ judged-part n (get_or s 4 0) (drop 5 s) c.if-length-gt-LONGEST.false c.if-flag-ne-PLAIN.false all

pub returns-then-last-ne-FLUSHER : goal.returns-then-last-ne-FLUSHER
returns-then-last-ne-FLUSHER c =
    let s = c.args.waiting.now in
    let n = c.from_be_bytes-length.result in
    let all : n < length (drop 5 s) = omega (arith, ap (λ (t : List ℕ). length t) (take_rest s 5)) in
    let same = ap (λ (t : List ℕ). get_or t n 0) (take_rest s 5) in
    let is : front s ≡ Faulty (BadFlusher (get_or (drop 5 s) n 0)) (n + 5) =
    front-numbered s n c.if-waiting-lt-HEADER.false c.from_be_bytes-length.ensures
    ∙ judged-not_flushed n (get_or s 4 0) (drop 5 s) c.if-length-gt-LONGEST.false c.if-flag-ne-PLAIN.false all (λ e. c.if-last-ne-FLUSHER.true (same ∙ e)) in
    from_fault (front s) (BadFlusher (get_or (take (length s - 5) (drop 5 s)) n 0)) (n + 5) (is ∙ ap (λ (b : ℕ). Faulty (BadFlusher b) (n + 5)) (sym same))

pub returns : goal.returns
returns c =
    let s = c.args.waiting.now in
    let n = c.from_be_bytes-length.result in
    let all : n < length (drop 5 s) = omega (arith, ap (λ (t : List ℕ). length t) (take_rest s 5)) in
    let last : get_or (drop 5 s) n 0 ≡ 10 = sym (ap (λ (t : List ℕ). get_or t n 0) (take_rest s 5)) ∙ c.if-last-ne-FLUSHER.false in
    let behind : drop (n + 1) (drop 5 s) ≡ drop (n + 6) s = drop-drop (n + 1) 5 s ∙ ap (λ (k : ℕ). drop k s) (omega arith) in (
      omega (arith, length-drop 5 s),
      front-numbered s n c.if-waiting-lt-HEADER.false c.from_be_bytes-length.ensures
          ∙ judged-whole n (get_or s 4 0) (drop 5 s) c.if-length-gt-LONGEST.false c.if-flag-ne-PLAIN.false all last
          ∙ ap (λ (t : List ℕ). Whole (take n (drop 5 s)) t) behind,
      c.if-length-gt-LONGEST.false,
    )
