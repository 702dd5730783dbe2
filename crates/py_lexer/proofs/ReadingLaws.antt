-- Reading on, a piece at a time.
use Rattle.std.proofs.Common.{◌≡◌, ◌∙◌, ◌<◌, ◌≤◌, ◌+◌, ◌-◌, ℕ, zero, suc, List, [], ◌∷◌, length, take, drop, slice_index_or, Result, Ok, Err, refl, sym, ap, subst, arith}
use Rattle.std.proofs.lemmas.Grind.{common_steps}
use Rattle.std.specs.Result.{IsErrAnd}
use Rattle.rp_base.specs.declared.rules.Refused.{Refused}
use Rattle.py_lexer.specs.declared.token.Token.{Token}
use Rattle.py_lexer.specs.declared.token.LexEnd.{LexEnd}
use Rattle.py_lexer.specs.declared.token.LexEnd.TheVariants as ends
use Rattle.py_lexer.specs.Pieces.{piece_of}
use Rattle.py_lexer.specs.declared.piece.Piece.{Piece}
use Rattle.py_lexer.specs.Layout.{Place, Next, taken, finished, longest_text, Stops}
use Rattle.py_lexer.specs.Reading.{read_on, go_on, tokens_of, Answers}
use Rattle.py_lexer.proofs.LiteralLaws.{place, whole, behind}
use Rattle.py_lexer.proofs.PieceLaws.{piece_some}
use Rattle.py_lexer.proofs.MoveLaws.{Moves, taken_moves}

-- bytes of a piece that was taken are passed over
pub passed_over : (p : Place) (k : ℕ) (text : List ℕ) → read_on p k text ≡ read_on p 0 (drop k text)
unfolding read_on
passed_over p zero text = refl
passed_over p (suc k) [] = refl
passed_over p (suc k) (c ∷ cs) = passed_over p k cs

pub read_end : (p : Place) (at : ℕ) (text : List ℕ) → length text ≤ at → read_on p 0 (drop at text) ≡ Ok (finished p)
unfolding read_on
read_end p at text h = let e : drop at text ≡ [] = grind (arith, common_steps) in ap (read_on p 0) e

pub one_piece : (p : Place) (c : ℕ) (cs : List ℕ) (next : Next) → taken (piece_of (c ∷ cs)) p ≡ next → read_on p 0 (c ∷ cs) ≡ go_on (λ q. read_on q ((piece_of (c ∷ cs)).size - 1) cs) next
unfolding read_on
one_piece p c cs next e = ap (go_on (λ q. read_on q ((piece_of (c ∷ cs)).size - 1) cs)) e

pub read_stop : (p : Place) (at : ℕ) (text : List ℕ) (stop : Refused) → at < length text → taken (piece_of (take (length text - at) (drop at text))) p ≡ Err stop → read_on p 0 (drop at text) ≡ Err stop
read_stop p at text stop h e =
    let same : drop at text ≡ slice_index_or text at 0 ∷ drop (suc at) text = place text at h in
    ap (read_on p 0) same
    ∙ one_piece p (slice_index_or text at 0) (drop (suc at) text) (Err stop) (ap (λ t. taken (piece_of t) p) (sym same) ∙ ap (λ t. taken (piece_of t) p) (sym (whole text at)) ∙ e)

-- a piece with one byte or more
pub some_piece : (at : ℕ) (text : List ℕ) → at < length text → 0 < (piece_of (take (length text - at) (drop at text))).size
some_piece at text h =
    let same : take (length text - at) (drop at text) ≡ slice_index_or text at 0 ∷ drop (suc at) text = whole text at ∙ place text at h in
    let some : 0 < (piece_of (slice_index_or text at 0 ∷ drop (suc at) text)).size = piece_some (slice_index_or text at 0) (drop (suc at) text) in
    let size : (piece_of (take (length text - at) (drop at text))).size ≡ (piece_of (slice_index_or text at 0 ∷ drop (suc at) text)).size = ap (λ t. (piece_of t).size) same in
    omega (arith, some, size)

behind_piece : (at n : ℕ) (text : List ℕ) → 0 < n → drop (n - 1) (drop (suc at) text) ≡ drop (at + n) text
behind_piece at zero text h = absurd (omega arith)
behind_piece at (suc n) text h = let e : suc n - 1 ≡ n = omega arith in ap (λ (k : ℕ). drop k (drop (suc at) text)) e ∙ behind at n text

pub read_piece : (p q : Place) (at : ℕ) (text : List ℕ) → at < length text → taken (piece_of (take (length text - at) (drop at text))) p ≡ Ok q
    → read_on p 0 (drop at text) ≡ read_on q 0 (drop (at + (piece_of (take (length text - at) (drop at text))).size) text)
read_piece p q at text h e =
    let same : drop at text ≡ slice_index_or text at 0 ∷ drop (suc at) text = place text at h in
    let size : (piece_of (take (length text - at) (drop at text))).size ≡ (piece_of (slice_index_or text at 0 ∷ drop (suc at) text)).size = ap (λ t. (piece_of t).size) (whole text at ∙ same) in
    ap (read_on p 0) same
    ∙ one_piece p (slice_index_or text at 0) (drop (suc at) text) (Ok q) (ap (λ t. taken (piece_of t) p) (sym same) ∙ ap (λ t. taken (piece_of t) p) (sym (whole text at)) ∙ e)
    ∙ passed_over q ((piece_of (slice_index_or text at 0 ∷ drop (suc at) text)).size - 1) (drop (suc at) text)
    ∙ ap (read_on q 0) (behind_piece at (piece_of (slice_index_or text at 0 ∷ drop (suc at) text)).size text (piece_some (slice_index_or text at 0) (drop (suc at) text)))
    ∙ ap (λ (n : ℕ). read_on q 0 (drop (at + n) text)) (sym size)

-- One step of reading: the rest gives the same tokens from the place behind its first piece.
pub piece_step : (p q : Place) (text : List ℕ) (x : Piece) → p.at < length text → x ≡ piece_of (take (length text - p.at) (drop p.at text)) → x.size ≤ length (take (length text - p.at) (drop p.at text)) → taken x p ≡ Ok q
    → p.line ≤ p.at + 1 → p.brackets ≤ p.at
    → (read_on p 0 (drop p.at text) ≡ read_on q 0 (drop q.at text)) × (q.at ≤ length text) × (q.at ≤ longest_text) × (q.line ≤ q.at + 1) × (q.brackets ≤ q.at) × (p.at < q.at)
piece_step p q text x h is fits e lines brackets =
    let rest = take (length text - p.at) (drop p.at text) in
    let moves : Moves x.size p q = taken_moves x p q e in
    let some : 0 < (piece_of (take (length text - p.at) (drop p.at text))).size = some_piece p.at text h in
    let same : x.size ≡ (piece_of (take (length text - p.at) (drop p.at text))).size = ap (λ (y : Piece). y.size) is in
    let long : length (take (length text - p.at) (drop p.at text)) ≡ length text - p.at = grind (arith, common_steps) in
    let goal_at : p.at + (piece_of (take (length text - p.at) (drop p.at text))).size ≡ q.at = omega (arith, same, moves.0) in (
      read_piece p q p.at text h (ap (λ (y : Piece). taken y p) (sym is) ∙ e) ∙ ap (λ (k : ℕ). read_on q 0 (drop k text)) goal_at,
      omega (arith, moves.0, fits, long, h),
      moves.1,
      omega (arith, moves.0, moves.2, some, same, lines),
      omega (arith, moves.0, moves.3, some, same, brackets),
      omega (arith, moves.0, some, same),
    )

-- what stops a piece stops the reading
pub stopped : (p : Place) (text : List ℕ) (x : Piece) (e : LexEnd) → p.at < length text → x ≡ piece_of (take (length text - p.at) (drop p.at text)) → Stops e (taken x p) → Stops e (read_on p 0 (drop p.at text))
stopped p text x (ends.Refused stop) h is s = read_stop p p.at text stop h (ap (λ (y : Piece). taken y p) (sym is) ∙ s)
stopped p text x ends.NoMemory h is s = tt

pub from_here : (p : Place) (text : List ℕ) (e : LexEnd) → tokens_of text ≡ read_on p 0 (drop p.at text) → Stops e (read_on p 0 (drop p.at text)) → Stops e (tokens_of text)
from_here p text (ends.Refused stop) is s = is ∙ s
from_here p text ends.NoMemory is s = tt

pub answers_stop : {X : Type 0} (view : X → List Token) (result : Result X LexEnd) (e : LexEnd) (read : Result (List Token) Refused) → IsErrAnd result (λ y. y ≡ e) → Stops e read → Answers view result read
answers_stop view (Ok found) e read is s = absurd is
answers_stop view (Err y) e read is s = subst (λ (z : LexEnd). Stops z read) (sym is) s
