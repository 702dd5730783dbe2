-- A refusal has its place, its line and its cause.
use Rattle.std.proofs.Common.{◌≡◌, ◌∙◌, ◌+◌, ◌-◌, ◌<◌, ◌≤◌, ◌==◌, nat_lt, ◌⊎◌, inl, inr, ℕ, zero, suc, List, [], ◌∷◌, length, drop, Bool, true, false, Some, None, Ok, Err, refl, sym, ap, subst, arith}
use Rattle.std.specs.Prelude.{if◌then◌else◌}
use Rattle.std.proofs.lemmas.Grind.{common_steps}
use Rattle.rp_base.specs.declared.rules.Rule.{Rule}
use Rattle.rp_base.specs.declared.rules.Rule.TheVariants as rules
use Rattle.rp_base.specs.declared.rules.Refused.{Refused}
use Rattle.py_lexer.specs.declared.token.TokenKind.{TokenKind}
use Rattle.py_lexer.specs.declared.token.TokenKind.TheVariants as tokens
use Rattle.py_lexer.specs.declared.piece.PieceKind.{PieceKind}
use Rattle.py_lexer.specs.declared.piece.PieceKind.TheVariants as kinds
use Rattle.py_lexer.specs.declared.reader.Margin.{Margin}
use Rattle.py_lexer.specs.declared.reader.Margin.TheVariants as margins
use Rattle.py_lexer.specs.Layout.{Place, Next, ◌>>=◌, start, refusal, longest_text, passed_to, passed, emitted, ended, deeper, matched, closed, indented, top, settled_by, settled, taken_by, taken}
use Rattle.py_lexer.specs.Pieces.{piece_of}
use Rattle.py_lexer.specs.Reading.{read_on, go_on, tokens_of}
use Rattle.py_lexer.specs.Refusals.{Causes, IsRefusedAt}
use Rattle.py_lexer.proofs.Following.{piece_kept, drop_further}
use Rattle.py_lexer.proofs.LineLaw.{LinedAt, lined_kept}
use Rattle.py_lexer.proofs.MoveLaws.{Goes, Stays, settled_stays, taken_moves}
use Rattle.py_lexer.proofs.PieceLaws.{piece_some}
use Rattle.py_lexer.proofs.PieceShapes.{Shape, piece_is}
use Rattle.py_lexer.proofs.ReadingLaws.{passed_over, one_piece}

-- said of the refusal
abbrev Fails : (Refused → Type 0) → Next → Type 0
Fails P (Ok q) = Unit {0}
Fails P (Err e) = P e

fails_on : (P : Refused → Type 0) (Q : Place → Type 0) (x : Next) (f : Place → Next) → Fails P x → Goes Q x → ((q : Place) → Q q → Fails P (f q)) → Fails P (x >>= f)
fails_on P Q (Ok q) f h k further = further q k
fails_on P Q (Err e) f h k further = h

fails_to : (P : Refused → Type 0) (x : Next) (e : Refused) → Fails P x → x ≡ Err e → P e
fails_to P x e h is = subst (Fails P) is h

-- why a piece of this kind and size is refused at a place
abbrev Why : List ℕ → PieceKind → ℕ → Place → Refused → Type 0
Why text k n p r = (r.line ≡ p.line) × ((r.rule ≡ rules.L1) ⊎ ((r.rule ≡ rules.L2) ⊎ (((r.rule ≡ rules.L5) × (longest_text < p.at + n) × (n ≤ length (drop p.at text))) ⊎ (k ≡ kinds.Refused r.rule))))

passed_fails : (text : List ℕ) (k : PieceKind) (n : ℕ) (p q : Place) → n ≤ length (drop p.at text) → Stays p q → Fails (Why text k n p) (passed n q)
unfolding passed
passed_fails text k n p q fits s = by_test (nat_lt longest_text (q.at + n)) refl
  where
    by_test : (b : Bool) → nat_lt longest_text (q.at + n) ≡ b → Fails (Why text k n p) (passed_to (if b then None else Some (q.at + n)) q)
    by_test true e = let past : longest_text < q.at + n = grind arith in (s.1, inr (inr (inl (refl, omega (arith, past, s.0), fits))))
    by_test false e = tt

settled_fails : (text : List ℕ) (k : PieceKind) (n : ℕ) (p : Place) → Fails (Why text k n p) (settled p)
unfolding settled indented
settled_fails text k n p = by_margin p.margin
  where
    by_match : (w : ℕ) (b : Bool) → Fails (Why text k n p) (if b then Ok (closed w p.line p) else Err (refusal p.line rules.L2))
    by_match w true = tt
    by_match w false = (refl, inr (inl refl))

    by_test : (w : ℕ) (b : Bool) → Fails (Why text k n p) (if b then Ok (deeper w p) else matched w (closed w p.line p))
    by_test w true = tt
    by_test w false = by_match w (top (closed w p.line p).indents == w)

    by_margin : (m : Margin) → Fails (Why text k n p) (settled_by m p)
    by_margin margins.Blank = by_test (p.at - p.line_start) (nat_lt (top p.indents) (p.at - p.line_start))
    by_margin margins.Tabbed = (refl, inl refl)
    by_margin margins.Closed = tt

here : (p : Place) → Stays p p
here p = (refl, refl, refl)

anywhere : (x : Next) → Goes (λ q. Unit {0}) x
anywhere (Ok q) = tt
anywhere (Err e) = tt

emitted_fails : (text : List ℕ) (k : PieceKind) (t : TokenKind) (n : ℕ) (p q : Place) → n ≤ length (drop p.at text) → Stays p q → Fails (Why text k n p) (emitted t n q)
unfolding emitted
emitted_fails text k t n p q fits s = fails_on (Why text k n p) (λ q. Unit {0}) (passed n q) _ (passed_fails text k n p q fits s) (anywhere (passed n q)) (λ r u. tt)

ended_fails : (text : List ℕ) (k : PieceKind) (n : ℕ) (p : Place) → n ≤ length (drop p.at text) → Fails (Why text k n p) (ended n p)
unfolding ended
ended_fails text k n p fits = fails_on (Why text k n p) (λ q. Unit {0}) (passed n p) _ (passed_fails text k n p p fits (here p)) (anywhere (passed n p)) (λ r u. tt)

token_fails : (text : List ℕ) (k : PieceKind) (t : TokenKind) (n : ℕ) (p : Place) → n ≤ length (drop p.at text) → Fails (Why text k n p) (settled p >>= emitted t n)
token_fails text k t n p fits = fails_on (Why text k n p) (Stays p) (settled p) (emitted t n) (settled_fails text k n p) (settled_stays p) (λ q s. emitted_fails text k t n p q fits s)

by_kind : (text : List ℕ) (k : PieceKind) (n : ℕ) (p : Place) → Shape k n (drop p.at text) → Fails (Why text k n p) (taken_by k n p)
by_kind text kinds.Space n p s = passed_fails text kinds.Space n p p s.1.0 (here p)
by_kind text kinds.Comment n p s = passed_fails text kinds.Comment n p p s.1.0 (here p)
by_kind text kinds.Tab n p s = fails_on (Why text kinds.Tab n p) (λ q. Unit {0}) (passed n p) _ (passed_fails text kinds.Tab n p p s.1.0 (here p)) (anywhere (passed n p)) (λ r u. tt)
by_kind text kinds.LineEnd n p s = ended_fails text kinds.LineEnd n p s.1.0
by_kind text (kinds.Token t) n p s = token_fails text (kinds.Token t) t n p s.1.0
by_kind text kinds.Opener n p s = fails_on (Why text kinds.Opener n p) (λ q. Unit {0}) (settled p >>= emitted tokens.Sign n) _ (token_fails text kinds.Opener tokens.Sign n p s.1.0) (anywhere (settled p >>= emitted tokens.Sign n)) (λ r u. tt)
by_kind text kinds.Closer n p s = fails_on (Why text kinds.Closer n p) (λ q. Unit {0}) (settled p >>= emitted tokens.Sign n) _ (token_fails text kinds.Closer tokens.Sign n p s.1.0) (anywhere (settled p >>= emitted tokens.Sign n)) (λ r u. tt)
by_kind text (kinds.Refused rule) n p s = fails_on (Why text (kinds.Refused rule) n p) (Stays p) (settled p) _ (settled_fails text (kinds.Refused rule) n p) (settled_stays p) (λ q t. (t.1, inr (inr (inr refl))))

-- the cause of a refused piece
cause_of : (k : PieceKind) (n : ℕ) (text : List ℕ) (rule : Rule) → Shape k n text → k ≡ kinds.Refused rule → Causes rule text
cause_of k n text rule s is = subst (λ (j : PieceKind). Shape j n text) is s

refused_at : (text : List ℕ) (p : Place) (c : ℕ) (cs : List ℕ) (r : Refused) → drop p.at text ≡ c ∷ cs → LinedAt text p → taken (piece_of (c ∷ cs)) p ≡ Err r → IsRefusedAt text r p.at
unfolding taken
refused_at text p c cs r is h e =
    let long : length (drop p.at text) ≡ length text - p.at = grind (arith, common_steps) in
    let rest : length (c ∷ cs) ≡ length text - p.at = ap (λ (t : List ℕ). length t) (sym is) ∙ long in
    let k = (piece_of (c ∷ cs)).kind in
    let n = (piece_of (c ∷ cs)).size in
    let s : Shape (piece_of (c ∷ cs)).kind (piece_of (c ∷ cs)).size (drop p.at text) = subst (Shape (piece_of (c ∷ cs)).kind (piece_of (c ∷ cs)).size) (sym is) (piece_is c cs) in
    let why = fails_to (Why text k n p) (taken_by k n p) r (by_kind text k n p s) e in
    (omega (arith, rest), why.0 ∙ h.here, by_cause k n (omega (arith, rest)) s why.1)
  where
    by_cause : (k : PieceKind) (n : ℕ) → p.at < length text → Shape k n (drop p.at text) → ((r.rule ≡ rules.L1) ⊎ ((r.rule ≡ rules.L2) ⊎ (((r.rule ≡ rules.L5) × (longest_text < p.at + n) × (n ≤ length (drop p.at text))) ⊎ (k ≡ kinds.Refused r.rule))))
        → ((r.rule ≡ rules.L1) ⊎ ((r.rule ≡ rules.L2) ⊎ (((r.rule ≡ rules.L5) × (longest_text < length text)) ⊎ Causes r.rule (drop p.at text))))
    by_cause k n low s (inl a) = inl a
    by_cause k n low s (inr (inl a)) = inr (inl a)
    by_cause k n low s (inr (inr (inl a))) = let long : length (drop p.at text) ≡ length text - p.at = grind (arith, common_steps) in inr (inr (inl (a.0, omega (arith, low, a.1, a.2, long))))
    by_cause k n low s (inr (inr (inr a))) = inr (inr (inr (cause_of k n (drop p.at text) r.rule s a)))

no_error : (p : Place) (r : Refused) → read_on p 0 [] ≡ Err r → ⊥
unfolding read_on
no_error p r e = cc

stopped : (text : List ℕ) (fuel : ℕ) (p : Place) (r : Refused) → length text ≤ p.at + fuel → p.at ≤ length text → LinedAt text p → read_on p 0 (drop p.at text) ≡ Err r → (at : ℕ) × IsRefusedAt text r at
stopped text zero p r more within h e = let none : drop p.at text ≡ [] = grind (arith, common_steps) in absurd (no_error p r (ap (read_on p 0) (sym none) ∙ e))
stopped text (suc fuel) p r more within h e = by_rest (drop p.at text) refl e (λ q low later k read. stopped text fuel q r low later k read)
  where
    by_next : (c : ℕ) (cs : List ℕ) (x : Next) → drop p.at text ≡ c ∷ cs → taken (piece_of (c ∷ cs)) p ≡ x → go_on (λ q. read_on q ((piece_of (c ∷ cs)).size - 1) cs) x ≡ Err r
        → ((q : Place) → length text ≤ q.at + fuel → q.at ≤ length text → LinedAt text q → read_on q 0 (drop q.at text) ≡ Err r → (at : ℕ) × IsRefusedAt text r at) → (at : ℕ) × IsRefusedAt text r at
    by_next c cs (Err s) is taken read further = let same : s ≡ r = cc in (p.at, refused_at text p c cs r is h (taken ∙ ap (λ (t : Refused). Err t) same))
    by_next c cs (Ok q) is taken read further =
        let long : length (drop p.at text) ≡ length text - p.at = grind (arith, common_steps) in
        let rest : length (c ∷ cs) ≡ length text - p.at = ap (λ (t : List ℕ). length t) (sym is) ∙ long in
        let low : p.at < length text = omega (arith, rest) in
        let kept_here = piece_kept text (LinedAt text) (lined_kept text) p q c cs is low taken h in
        let some = piece_some c cs in
        let moved : q.at ≡ p.at + (piece_of (c ∷ cs)).size = (taken_moves (piece_of (c ∷ cs)) p q taken).0 in
        let on : drop ((piece_of (c ∷ cs)).size - 1) cs ≡ drop q.at text = drop_further p.at (piece_of (c ∷ cs)).size c text cs is some ∙ ap (λ (a : ℕ). drop a text) (sym moved) in
        further q (omega (arith, moved, some, more)) (omega (arith, moved, kept_here.1, rest, low)) kept_here.0
        (ap (read_on q 0) (sym on) ∙ sym (passed_over q ((piece_of (c ∷ cs)).size - 1) cs) ∙ read)

    by_rest : (rest : List ℕ) → drop p.at text ≡ rest → read_on p 0 rest ≡ Err r
        → ((q : Place) → length text ≤ q.at + fuel → q.at ≤ length text → LinedAt text q → read_on q 0 (drop q.at text) ≡ Err r → (at : ℕ) × IsRefusedAt text r at) → (at : ℕ) × IsRefusedAt text r at
    by_rest [] is read further = absurd (no_error p r read)
    by_rest (c ∷ cs) is read further = by_next c cs (taken (piece_of (c ∷ cs)) p) is refl (sym (one_piece p c cs (taken (piece_of (c ∷ cs)) p) refl) ∙ read) further

pub refused_somewhere : (text : List ℕ) (r : Refused) → tokens_of text ≡ Err r → (at : ℕ) × IsRefusedAt text r at
refused_somewhere text r e = stopped text (length text) start r (omega arith) (omega arith) (record { each = tt; here = refl; begun = omega arith; own = refl; first = inl refl }) e
