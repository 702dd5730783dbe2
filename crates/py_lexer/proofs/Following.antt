-- What is kept by each step of the reading holds where the text ends.
use Rattle.std.proofs.Common.{◌≡◌, ◌∙◌, ◌<◌, ◌≤◌, ◌+◌, ◌-◌, ◌==◌, nat_lt, ℕ, zero, suc, List, [], ◌∷◌, ◌++◌, length, drop, Bool, true, false, Some, None, Ok, Err, refl, sym, ap, subst, arith}
use Rattle.std.specs.Prelude.{if◌then◌else◌}
use Rattle.std.proofs.lemmas.Grind.{common_steps}
use Rattle.std.proofs.lemmas.List.{drop-drop}
use Rattle.rp_base.specs.declared.rules.Rule.{Rule}
use Rattle.rp_base.specs.declared.rules.Rule.TheVariants as rules
use Rattle.py_lexer.specs.declared.token.TokenKind.{TokenKind}
use Rattle.py_lexer.specs.declared.token.TokenKind.TheVariants as tokens
use Rattle.py_lexer.specs.declared.token.Token.{Token}
use Rattle.py_lexer.specs.declared.piece.PieceKind.{PieceKind}
use Rattle.py_lexer.specs.declared.piece.PieceKind.TheVariants as kinds
use Rattle.py_lexer.specs.declared.reader.Margin.{Margin}
use Rattle.py_lexer.specs.declared.reader.Margin.TheVariants as margins
use Rattle.py_lexer.specs.Layout.{Place, Next, ◌>>=◌, start, refusal, longest_text, passed_to, passed, emitted, ended, next_line, with_newline, is_open_line, with_token, token_at, with_open, left_open, closed, deeper, matched, indented, top, tabbed, settled_by, settled, taken_by, taken, finished, last_line}
use Rattle.py_lexer.specs.Pieces.{piece_of}
use Rattle.py_lexer.specs.Slices.{Each}
use Rattle.py_lexer.specs.Reading.{read_on, go_on, tokens_of}
use Rattle.py_lexer.proofs.MoveLaws.{Goes, goes_on, goes_to, Stays, settled_stays, taken_moves}
use Rattle.py_lexer.proofs.PieceLaws.{piece_some}
use Rattle.py_lexer.proofs.PieceShapes.{Shape, piece_is}
use Rattle.py_lexer.proofs.ReadingLaws.{passed_over, one_piece}

-- said of places of a text, and kept by each change of a place
pub record Kept (text : List ℕ) (Inv : Place → Type 0) : Type 0 where
  pub turns : (p : Place) (m : Margin) (b : ℕ) → Inv p → Inv (record p { margin = m; brackets = b })
  pub deepens : (p : Place) (w : ℕ) → p.at < length text → top p.indents < w → Inv p → Inv (deeper w p)
  pub closes : (p : Place) (w : ℕ) (ws : List ℕ) → p.at < length text → p.indents ≡ w ∷ ws → Inv p → Inv (record p { tokens = p.tokens ++ token_at tokens.Dedent p.at p.at p.line ∷ []; indents = ws })
  pub emits : (p : Place) (k : TokenKind) (n : ℕ) → 0 < n → Shape (kinds.Token k) n (drop p.at text) → Inv p → Inv (record p { tokens = p.tokens ++ token_at k p.at (p.at + n) p.line ∷ []; at = p.at + n })
  pub passes : (p : Place) (n : ℕ) → 0 < n → Shape kinds.Space n (drop p.at text) → Inv p → Inv (record p { at = p.at + n })
  pub ends : (p : Place) (n : ℕ) → 0 < n → Shape kinds.LineEnd n (drop p.at text) → Inv p → Inv (record p { at = p.at + n; line = p.line + 1; line_start = p.at + n })
  pub ends_line : (p : Place) (n : ℕ) → 0 < n → Shape kinds.LineEnd n (drop p.at text) → Inv p
      → Inv (record p { tokens = p.tokens ++ token_at tokens.Newline p.at (p.at + n) p.line ∷ []; at = p.at + n; line = p.line + 1; line_start = p.at + n })

passed_kept : (Inv : Place → Type 0) (n : ℕ) (p : Place) → Inv (record p { at = p.at + n }) → Goes Inv (passed n p)
unfolding passed
passed_kept Inv n p h = by_test (nat_lt longest_text (p.at + n))
  where
    by_test : (b : Bool) → Goes Inv (passed_to (if b then None else Some (p.at + n)) p)
    by_test true = tt
    by_test false = h

-- where it passes, it passes so many bytes
passed_at : (n : ℕ) (p : Place) → Goes (λ q. q ≡ record p { at = p.at + n }) (passed n p)
passed_at n p = passed_kept (λ q. q ≡ record p { at = p.at + n }) n p refl

emitted_kept : (text : List ℕ) (Inv : Place → Type 0) → Kept text Inv → (k : TokenKind) (n : ℕ) (p : Place) → 0 < n → Shape (kinds.Token k) n (drop p.at text) → Inv p → Goes Inv (emitted k n p)
unfolding emitted
emitted_kept text Inv kept k n p some s h =
    goes_on (λ q. q ≡ record p { at = p.at + n }) Inv (passed n p) _ (passed_at n p)
    (λ q is. subst (λ (r : Place). Inv (record (with_token (token_at k p.at r.at r.line) r) { margin = margins.Closed })) (sym is)
    (kept.turns (record p { tokens = p.tokens ++ token_at k p.at (p.at + n) p.line ∷ []; at = p.at + n }) margins.Closed p.brackets (kept.emits p k n some s h)))

ended_kept : (text : List ℕ) (Inv : Place → Type 0) → Kept text Inv → (n : ℕ) (p : Place) → 0 < n → Shape kinds.LineEnd n (drop p.at text) → Inv p → Goes Inv (ended n p)
unfolding ended
ended_kept text Inv kept n p some s h = goes_on (λ q. q ≡ record p { at = p.at + n }) Inv (passed n p) _ (passed_at n p) (λ q is. subst (λ (r : Place). Inv (next_line (with_newline p.at r.line r))) (sym is) (by_test (is_open_line (record p { at = p.at + n }))))
  where
    by_test : (b : Bool) → Inv (next_line (if b then with_token (token_at tokens.Newline p.at (p.at + n) p.line) (record p { at = p.at + n }) else record p { at = p.at + n }))
    by_test true = kept.turns _ _ _ (kept.ends_line p n some s h)
    by_test false = kept.turns _ _ _ (kept.ends p n some s h)

left_kept : (text : List ℕ) (Inv : Place → Type 0) → Kept text Inv → (width : ℕ) (p : Place) (ws : List ℕ) (ts : List Token) → p.at < length text → Inv (record p { indents = ws; tokens = ts }) → Inv (with_open p (left_open width (token_at tokens.Dedent p.at p.at p.line) ws ts))
unfolding left_open
left_kept text Inv kept width p [] ts low h = h
left_kept text Inv kept width p (w ∷ ws) ts low h = by_test (nat_lt width w) (left_kept text Inv kept width p ws (ts ++ token_at tokens.Dedent p.at p.at p.line ∷ []) low (kept.closes (record p { indents = w ∷ ws; tokens = ts }) w ws low refl h))
  where
    by_test : (b : Bool) → Inv (with_open p (left_open width (token_at tokens.Dedent p.at p.at p.line) ws (ts ++ token_at tokens.Dedent p.at p.at p.line ∷ [])))
        → Inv (with_open p (if b then left_open width (token_at tokens.Dedent p.at p.at p.line) ws (ts ++ token_at tokens.Dedent p.at p.at p.line ∷ []) else (w ∷ ws, ts)))
    by_test true more = more
    by_test false more = h

matched_kept : (Inv : Place → Type 0) (w : ℕ) (p : Place) → Inv p → Goes Inv (matched w p)
matched_kept Inv w p h = by_test (top p.indents == w)
  where
    by_test : (b : Bool) → Goes Inv (if b then Ok p else Err (refusal p.line rules.L2))
    by_test true = h
    by_test false = tt

settled_kept : (text : List ℕ) (Inv : Place → Type 0) → Kept text Inv → (p : Place) → p.at < length text → Inv p → Goes Inv (settled p)
unfolding settled indented
settled_kept text Inv kept p low h = by_margin p.margin
  where
    by_test : (w : ℕ) (b : Bool) → nat_lt (top p.indents) w ≡ b → Goes Inv (if b then Ok (deeper w p) else matched w (closed w p.line p))
    by_test w true e = let more : top p.indents < w = grind arith in kept.deepens p w low more h
    by_test w false e = matched_kept Inv w (closed w p.line p) (left_kept text Inv kept w p p.indents p.tokens low h)

    by_margin : (m : Margin) → Goes Inv (settled_by m p)
    by_margin margins.Blank = by_test (p.at - p.line_start) (nat_lt (top p.indents) (p.at - p.line_start)) refl
    by_margin margins.Tabbed = tt
    by_margin margins.Closed = h

both_go : (P Q : Place → Type 0) (x : Next) → Goes P x → Goes Q x → Goes (λ q. P q × Q q) x
both_go P Q (Ok q) h k = (h, k)
both_go P Q (Err e) h k = tt

token_kept : (text : List ℕ) (Inv : Place → Type 0) → Kept text Inv → (k : TokenKind) (n : ℕ) (p : Place) → 0 < n → p.at < length text → Shape (kinds.Token k) n (drop p.at text) → Inv p → Goes Inv (settled p >>= emitted k n)
token_kept text Inv kept k n p some low s h =
    goes_on (λ q. Inv q × Stays p q) Inv (settled p) (emitted k n) (both_go Inv (Stays p) (settled p) (settled_kept text Inv kept p low h) (settled_stays p))
    (λ q both. emitted_kept text Inv kept k n q some (subst (λ (a : ℕ). Shape (kinds.Token k) n (drop a text)) (sym both.1.0) s) both.0)

by_kind : (text : List ℕ) (Inv : Place → Type 0) → Kept text Inv → (k : PieceKind) (n : ℕ) (p : Place) → 0 < n → p.at < length text → Shape k n (drop p.at text) → Inv p → Goes Inv (taken_by k n p)
by_kind text Inv kept kinds.Space n p some low s h = passed_kept Inv n p (kept.passes p n some s h)
by_kind text Inv kept kinds.Comment n p some low s h = passed_kept Inv n p (kept.passes p n some s h)
by_kind text Inv kept kinds.Tab n p some low s h = goes_on Inv Inv (passed n p) _ (passed_kept Inv n p (kept.passes p n some s h)) (λ q o. kept.turns q (tabbed q.margin) q.brackets o)
by_kind text Inv kept kinds.LineEnd n p some low s h = ended_kept text Inv kept n p some s h
by_kind text Inv kept (kinds.Token k) n p some low s h = token_kept text Inv kept k n p some low s h
by_kind text Inv kept kinds.Opener n p some low s h = goes_on Inv Inv (settled p >>= emitted tokens.Sign n) _ (token_kept text Inv kept tokens.Sign n p some low s h) (λ q o. kept.turns q q.margin (q.brackets + 1) o)
by_kind text Inv kept kinds.Closer n p some low s h = goes_on Inv Inv (settled p >>= emitted tokens.Sign n) _ (token_kept text Inv kept tokens.Sign n p some low s h) (λ q o. kept.turns q q.margin (q.brackets - 1) o)
by_kind text Inv kept (kinds.Refused rule) n p some low s h = goes_on Inv Inv (settled p) _ (settled_kept text Inv kept p low h) (λ q o. tt)

never_goes : (rule : Rule) (n : ℕ) (p q : Place) → taken_by (kinds.Refused rule) n p ≡ Ok q → ⊥
never_goes rule n p q e = by_next (settled p) e
  where
    by_next : (x : Next) → (x >>= λ r. Err (refusal r.line rule)) ≡ Ok q → ⊥
    by_next (Ok r) is = cc
    by_next (Err r) is = cc

within_of : (k : PieceKind) (n : ℕ) (text : List ℕ) (p q : Place) → Shape k n text → taken_by k n p ≡ Ok q → n ≤ length text
within_of kinds.Space n text p q s e = s.1.0
within_of kinds.Comment n text p q s e = s.1.0
within_of kinds.Tab n text p q s e = s.1.0
within_of kinds.LineEnd n text p q s e = s.1.0
within_of (kinds.Token k) n text p q s e = s.1.0
within_of kinds.Opener n text p q s e = s.1.0
within_of kinds.Closer n text p q s e = s.1.0
within_of (kinds.Refused rule) n text p q s e = absurd (never_goes rule n p q e)

pub piece_kept : (text : List ℕ) (Inv : Place → Type 0) → Kept text Inv → (p q : Place) (c : ℕ) (cs : List ℕ) → drop p.at text ≡ c ∷ cs → p.at < length text → taken (piece_of (c ∷ cs)) p ≡ Ok q → Inv p
    → Inv q × ((piece_of (c ∷ cs)).size ≤ length (c ∷ cs))
unfolding taken
piece_kept text Inv kept p q c cs here low e h =
    let x = piece_of (c ∷ cs) in
    let s : Shape (piece_of (c ∷ cs)).kind (piece_of (c ∷ cs)).size (drop p.at text) = subst (Shape (piece_of (c ∷ cs)).kind (piece_of (c ∷ cs)).size) (sym here) (piece_is c cs) in
    (goes_to Inv (taken_by x.kind x.size p) q (by_kind text Inv kept x.kind x.size p (piece_some c cs) low s h) e, within_of x.kind x.size (c ∷ cs) p q (piece_is c cs) e)

pub record Ended (text : List ℕ) (Inv : Place → Type 0) (ts : List Token) : Type 0 where
  pub last : Place
  pub holds : Inv last
  pub at_end : last.at ≡ length text
  pub are : ts ≡ finished last

pub drop_further : (at n c : ℕ) (text cs : List ℕ) → drop at text ≡ c ∷ cs → 0 < n → drop (n - 1) cs ≡ drop (at + n) text
drop_further at zero c text cs here some = absurd (omega (arith, some))
drop_further at (suc n) c text cs here some =
    let less : suc n - 1 ≡ n = omega arith in
    let both : drop (suc n) (drop at text) ≡ drop (at + suc n) text = drop-drop (suc n) at text in
    ap (λ (k : ℕ). drop k cs) less ∙ sym (ap (λ (t : List ℕ). drop (suc n) t) here) ∙ both

pub nothing_left : (p : Place) (ts : List Token) → read_on p 0 [] ≡ Ok ts → ts ≡ finished p
unfolding read_on
nothing_left p ts e = cc

pub reached : (text : List ℕ) (Inv : Place → Type 0) → Kept text Inv → (fuel : ℕ) (p : Place) (ts : List Token) → length text ≤ p.at + fuel → p.at ≤ length text → Inv p → read_on p 0 (drop p.at text) ≡ Ok ts → Ended text Inv ts
reached text Inv kept zero p ts more within h e =
    let none : drop p.at text ≡ [] = grind (arith, common_steps) in
    record { last = p; holds = h; at_end = omega (arith, more, within); are = nothing_left p ts (ap (read_on p 0) (sym none) ∙ e) }
reached text Inv kept (suc fuel) p ts more within h e = by_rest (drop p.at text) refl e (λ q low later k read. reached text Inv kept fuel q ts low later k read)
  where
    by_next : (c : ℕ) (cs : List ℕ) (x : Next) → drop p.at text ≡ c ∷ cs → taken (piece_of (c ∷ cs)) p ≡ x → go_on (λ q. read_on q ((piece_of (c ∷ cs)).size - 1) cs) x ≡ Ok ts
        → ((q : Place) → length text ≤ q.at + fuel → q.at ≤ length text → Inv q → read_on q 0 (drop q.at text) ≡ Ok ts → Ended text Inv ts) → Ended text Inv ts
    by_next c cs (Err r) here is read further = absurd (never read)
      where
        never : Err r ≡ Ok ts → ⊥
        never z = cc
    by_next c cs (Ok q) here is read further =
        let long : length (drop p.at text) ≡ length text - p.at = grind (arith, common_steps) in
        let rest : length (c ∷ cs) ≡ length text - p.at = ap (λ (t : List ℕ). length t) (sym here) ∙ long in
        let low : p.at < length text = omega (arith, rest) in
        let kept_here = piece_kept text Inv kept p q c cs here low is h in
        let some = piece_some c cs in
        let moved : q.at ≡ p.at + (piece_of (c ∷ cs)).size = (taken_moves (piece_of (c ∷ cs)) p q is).0 in
        let on : drop ((piece_of (c ∷ cs)).size - 1) cs ≡ drop q.at text = drop_further p.at (piece_of (c ∷ cs)).size c text cs here some ∙ ap (λ (a : ℕ). drop a text) (sym moved) in
        further q (omega (arith, moved, some, more)) (omega (arith, moved, kept_here.1, rest, low)) kept_here.0
        (ap (read_on q 0) (sym on) ∙ sym (passed_over q ((piece_of (c ∷ cs)).size - 1) cs) ∙ read)

    by_rest : (rest : List ℕ) → drop p.at text ≡ rest → read_on p 0 rest ≡ Ok ts
        → ((q : Place) → length text ≤ q.at + fuel → q.at ≤ length text → Inv q → read_on q 0 (drop q.at text) ≡ Ok ts → Ended text Inv ts) → Ended text Inv ts
    by_rest [] here read further = let long : length (drop p.at text) ≡ length text - p.at = grind (arith, common_steps) in let none : 0 ≡ length (drop p.at text) = ap (λ (t : List ℕ). length t) (sym here) in record { last = p; holds = h; at_end = omega (arith, long, none, within); are = nothing_left p ts read }
    by_rest (c ∷ cs) here read further = by_next c cs (taken (piece_of (c ∷ cs)) p) here refl (sym (one_piece p c cs (taken (piece_of (c ∷ cs)) p) refl) ∙ read) further

pub follows : (text : List ℕ) (Inv : Place → Type 0) → Kept text Inv → Inv start → (ts : List Token) → tokens_of text ≡ Ok ts → Ended text Inv ts
follows text Inv kept first ts e = reached text Inv kept (length text) start ts (omega arith) (omega arith) first e

-- ---- the tokens that the text's end makes

pub each_push : (P : Token → Type 0) (ts : List Token) (t : Token) → Each P ts → P t → Each P (ts ++ t ∷ [])
each_push P [] t h k = (k, tt)
each_push P (s ∷ ts) t h k = (h.0, each_push P ts t h.1 k)

left_each : (P : Token → Type 0) (width : ℕ) (dedent : Token) (ws : List ℕ) (ts : List Token) → P dedent → Each P ts → Each P (left_open width dedent ws ts).1
unfolding left_open
left_each P width dedent [] ts d h = h
left_each P width dedent (w ∷ ws) ts d h = by_test (nat_lt width w) (left_each P width dedent ws (ts ++ dedent ∷ []) d (each_push P ts dedent h d))
  where
    by_test : (b : Bool) → Each P (left_open width dedent ws (ts ++ dedent ∷ [])).1 → Each P (if b then left_open width dedent ws (ts ++ dedent ∷ []) else (w ∷ ws, ts)).1
    by_test true more = more
    by_test false more = h

pub finished_each : (P : Token → Type 0) (p : Place) → Each P p.tokens → P (token_at tokens.Newline p.at p.at (last_line p)) → P (token_at tokens.Dedent p.at p.at (last_line p)) → Each P (finished p)
unfolding finished
finished_each P p h newline dedent = by_test (is_open_line p)
  where
    by_test : (b : Bool) → Each P (closed 0 (last_line p) (if b then with_token (token_at tokens.Newline p.at p.at (last_line p)) p else p)).tokens
    by_test true = left_each P 0 (token_at tokens.Dedent p.at p.at (last_line p)) p.indents (p.tokens ++ token_at tokens.Newline p.at p.at (last_line p) ∷ []) dedent (each_push P p.tokens (token_at tokens.Newline p.at p.at (last_line p)) h newline)
    by_test false = left_each P 0 (token_at tokens.Dedent p.at p.at (last_line p)) p.indents p.tokens dedent h
