-- What has a derivation is read to the end.
use Rattle.std.proofs.Common.{◌≡◌, ◌∙◌, sym, refl, ap, ℕ, zero, suc, ◌<◌, ◌≤◌, Bool, true, false, not, ◌&&◌, ◌||◌, nat_le, nat_lt, List, [], ◌∷◌, ◌++◌, Some, None, zero-le, arith, ltb-true, lt-ltb, le-ltb}
use Rattle.py_grammar.specs.declared.act.Act.{Act}
use Rattle.py_grammar.specs.declared.symbol.Limits.{Limits}
use Rattle.py_grammar.specs.declared.symbol.Symbol.{Symbol}
use Rattle.py_grammar.specs.declared.symbol.Symbol.TheVariants.{Terminal as Tk, Word as Nt, Act as Do}
use Rattle.py_grammar.specs.declared.terminal.Terminal.{Terminal}
use Rattle.py_grammar.specs.declared.terminal.Terminal.TheVariants as t
use Rattle.py_grammar.specs.declared.word.Word.{Word}
use Rattle.py_grammar.specs.Building.{Lexeme, Builder, passes}
use Rattle.py_grammar.specs.Deriving.{Derives, Ends, Takes, Makes, Skips, Opens}
use Rattle.py_grammar.specs.Reading.{has, is_there, nullable, begins, pick, in_reach, fits, Step, Took, Closed, when, opening_by, skipping, step, Outcome, Done, one_further, go_on, run, depth_of_words}
use Rattle.py_grammar.specs.Sets.{first, follow, rank}
use Rattle.py_grammar.specs.Soundness.{fronts, within, apart, leads, placed, sound_ways, short}
use Rattle.py_grammar.specs.Table.{ways, empty}
use Rattle.py_grammar.specs.Terminals.{same}
use Rattle.py_grammar.specs.Ways.{Way}
use Rattle.py_grammar.specs.Writing.{Among, deeper}
use Rattle.py_grammar.proofs.SetLaws.{no, not-true, both, and, or-left, or-right, within-has, apart-has, begins-fronts, begins-opened, begins-more, begins-lead, sound-among, pick-finds, pick-none}
use Rattle.py_grammar.proofs.TableIsSound.{is_sound}
use Rattle.py_grammar.proofs.TakenLaws.{reach-append, derived-reach}
use Rattle.py_grammar.proofs.TerminalLaws.{is-same}

-- ---- what the test says of each word

module _ (n : Word) where
  parts : ((sound_ways n (ways n) && nat_lt (rank n) depth_of_words) ≡ true) × (((not (nullable n) || apart (first n) (follow n)) && (nullable n || short (rank n) (ways n))) ≡ true)
  parts = both (sound_ways n (ways n) && nat_lt (rank n) depth_of_words) ((not (nullable n) || apart (first n) (follow n)) && (nullable n || short (rank n) (ways n))) (is_sound n)

  pub all-sound : sound_ways n (ways n) ≡ true
  unfolding parts
  all-sound = (both (sound_ways n (ways n)) (nat_lt (rank n) depth_of_words) parts.0).0

  pub ranked : nat_lt (rank n) depth_of_words ≡ true
  unfolding parts
  ranked = (both (sound_ways n (ways n)) (nat_lt (rank n) depth_of_words) parts.0).1

  pub apart-or-full : (not (nullable n) || apart (first n) (follow n)) ≡ true
  unfolding parts
  apart-or-full = (both (not (nullable n) || apart (first n) (follow n)) (nullable n || short (rank n) (ways n)) parts.1).0

  pub empty-or-short : (nullable n || short (rank n) (ways n)) ≡ true
  unfolding parts
  empty-or-short = (both (not (nullable n) || apart (first n) (follow n)) (nullable n || short (rank n) (ways n)) parts.1).1

pub way-leads : (n : Word) (w : Way) → Among w (ways n) → leads (rank n) w.symbols ≡ true
way-leads n w i = (both (leads (rank n) w.symbols) (within (fronts [] w.symbols) (first n) && placed (follow n) w.symbols) (sound-among n w (ways n) i (all-sound n))).0

pub way-first : (n : Word) (w : Way) → Among w (ways n) → within (fronts [] w.symbols) (first n) ≡ true
way-first n w i =
    (both (within (fronts [] w.symbols) (first n)) (placed (follow n) w.symbols)
    (both (leads (rank n) w.symbols) (within (fronts [] w.symbols) (first n) && placed (follow n) w.symbols) (sound-among n w (ways n) i (all-sound n))).1).0

pub way-placed : (n : Word) (w : Way) → Among w (ways n) → placed (follow n) w.symbols ≡ true
way-placed n w i =
    (both (within (fronts [] w.symbols) (first n)) (placed (follow n) w.symbols)
    (both (leads (rank n) w.symbols) (within (fronts [] w.symbols) (first n) && placed (follow n) w.symbols) (sound-among n w (ways n) i (all-sound n))).1).1

pub empty-there : (n : Word) (a : Act) → empty n ≡ Some a → nullable n ≡ true
empty-there n a e = ap is_there e

-- ---- what a derivation begins with

pub Starts : List Symbol → List Lexeme → Type 0
Starts ss [] = Unit {0}
Starts ss (u ∷ us) = begins (same u.kind t.End) u.kind ss ≡ true

starts-more : (ss rs : List Symbol) (ts : List Lexeme) → ((e : Bool) (k : Terminal) → begins e k ss ≡ true → begins e k rs ≡ true) → Starts ss ts → Starts rs ts
unfolding Starts
starts-more ss rs [] f h = tt
starts-more ss rs (u ∷ us) f h = f (same u.kind t.End) u.kind h

-- a way that is taken begins with a token of its word
opened-first : (n : Word) (w : Way) (d : ℕ) (ss : List Symbol) → Among w (ways n) → (e : Bool) (k : Terminal) → begins e k (deeper d w.symbols ++ ss) ≡ true → begins false k w.symbols ≡ true
opened-first n w d ss i e k h =
    sym (begins-lead (rank n) k (begins e k ss) false w.symbols (way-leads n w i)) ∙ sym (begins-opened e k d w.symbols ss) ∙ h

pub opened-has : (n : Word) (w : Way) → Among w (ways n) → (k : Terminal) → begins false k w.symbols ≡ true → has k (first n) ≡ true
opened-has n w i k h = within-has k (fronts [] w.symbols) (first n) (way-first n w i) (sym (begins-fronts k [] w.symbols) ∙ h)

pub starts : (B : Type 0) (m : Builder B) (lim : Limits) {ss : List Symbol} {b out : B} {ts : List Lexeme} → Derives B m lim ss b ts out → Starts ss ts
unfolding Starts
starts B m lim (Ends {u = u} e f) = is-same u.kind t.End e
starts B m lim (Takes {k = k} {u = u} e r) = is-same u.kind k e
starts B m lim (Makes {a = a} {ss = ss} {ts = ts} r) = starts-more ss (Do a ∷ ss) ts (λ e k h. h) (starts B m lim r)
starts B m lim (Skips {n = n} {d = d} {ss = ss} {ts = ts} a e r) =
    starts-more ss (Nt n d ∷ ss) ts (λ x k h. or-right (has k (first n)) (nullable n && begins x k ss) (and (nullable n) (begins x k ss) (empty-there n a e) h)) (starts B m lim r)
starts B m lim (Opens {n = n} {d = d} {ss = ss} {ts = ts} w i h g r) =
    starts-more (deeper d w.symbols ++ ss) (Nt n d ∷ ss) ts
    (λ x k p. or-left (has k (first n)) (nullable n && begins x k ss) (opened-has n w i k (opened-first n w d ss i x k p))) (starts B m lim r)

-- ---- what stands behind each word is in its set, and no token is the end

unfoldable pub Good : List Symbol → Type 0
Good [] = Unit {0}
Good (Tk k ∷ ss) = (same k t.End ≡ false) × Good ss
Good (Do a ∷ ss) = Good ss
Good (Nt n d ∷ ss) = ((k : Terminal) → begins (same k t.End) k ss ≡ true → has k (follow n) ≡ true) × Good ss

good-opened : (ks : List Terminal) (d : ℕ) (xs ss : List Symbol) → placed ks xs ≡ true → ((k : Terminal) → begins (same k t.End) k ss ≡ true → has k ks ≡ true) → Good ss → Good (deeper d xs ++ ss)
unfolding Good
good-opened ks d [] ss p f g = g
good-opened ks d (Tk k ∷ xs) ss p f g = let q = both (not (same k t.End)) (placed ks xs) p in (not-true (same k t.End) q.0, good-opened ks d xs ss q.1 f g)
good-opened ks d (Do a ∷ xs) ss p f g = good-opened ks d xs ss p f g
good-opened ks d (Nt n c ∷ xs) ss p f g =
    let q = both (within (fronts ks xs) (follow n)) (placed ks xs) p in (
      λ k h. within-has k (fronts ks xs) (follow n) q.0
          (sym (begins-fronts k ks xs) ∙ begins-more k (begins (same k t.End) k ss) (has k ks) xs (f k) (sym (begins-opened (same k t.End) k d xs ss) ∙ h)),
      good-opened ks d xs ss q.1 f g,
    )

pub good-way : (n : Word) (w : Way) (d : ℕ) (ss : List Symbol) → Among w (ways n) → Good (Nt n d ∷ ss) → Good (deeper d w.symbols ++ ss)
unfolding Good
good-way n w d ss i g = good-opened (follow n) d w.symbols ss (way-placed n w i) g.0 g.1

-- of a whole stack
pub good-start : (ss : List Symbol) → placed (t.End ∷ []) ss ≡ true → Good ss
unfolding Good
good-start [] p = tt
good-start (Tk k ∷ ss) p = let q = both (not (same k t.End)) (placed (t.End ∷ []) ss) p in (not-true (same k t.End) q.0, good-start ss q.1)
good-start (Do a ∷ ss) p = good-start ss p
good-start (Nt n d ∷ ss) p =
    let q = both (within (fronts (t.End ∷ []) ss) (follow n)) (placed (t.End ∷ []) ss) p in (
      λ k h. within-has k (fronts (t.End ∷ []) ss) (follow n) q.0
          (sym (begins-fronts k (t.End ∷ []) ss) ∙ begins-more k (same k t.End) (same k t.End || false) ss (or-left (same k t.End) false) h),
      good-start ss q.1,
    )

-- ---- enough words may open

pub below : ℕ → List Symbol → Bool
below f [] = true
below f (Tk k ∷ ss) = true
below f (Do a ∷ ss) = below f ss
below f (Nt n d ∷ ss) = nat_lt (rank n) f && (not (nullable n) || below f ss)

or-there : (a b : Bool) → (not a || b) ≡ true → a ≡ true → b ≡ true
or-there true b h e = h
or-there false b h e = no e

more-there : (a b c : Bool) → (b ≡ true → c ≡ true) → (not a || b) ≡ true → (not a || c) ≡ true
more-there true b c f h = f h
more-there false b c f h = refl

pub all-below : (ss : List Symbol) → below depth_of_words ss ≡ true
unfolding below
all-below [] = refl
all-below (Tk k ∷ ss) = refl
all-below (Do a ∷ ss) = all-below ss
all-below (Nt n d ∷ ss) = and (nat_lt (rank n) depth_of_words) (not (nullable n) || below depth_of_words ss) (ranked n) (or-right (not (nullable n)) (below depth_of_words ss) (all-below ss))

lt-more : (a r f : ℕ) → nat_lt a r ≡ true → r ≤ f → nat_lt a f ≡ true
lt-more a r f h le = let lt : a < r = ltb-true a r h in lt-ltb a f (omega arith)

below-opened : (r f d : ℕ) (xs ss : List Symbol) → r ≤ f → leads r xs ≡ true → below f (deeper d xs ++ ss) ≡ true
unfolding below
below-opened r f d [] ss le h = no h
below-opened r f d (Tk k ∷ xs) ss le h = refl
below-opened r f d (Do a ∷ xs) ss le h = below-opened r f d xs ss le h
below-opened r f d (Nt n c ∷ xs) ss le h =
    let p = both (nat_lt (rank n) r) (not (nullable n) || leads r xs) h in
    and (nat_lt (rank n) f) (not (nullable n) || below f (deeper d xs ++ ss)) (lt-more (rank n) r f p.0 le)
    (more-there (nullable n) (leads r xs) (below f (deeper d xs ++ ss)) (below-opened r f d xs ss le) p.1)

-- ---- the reading follows the derivation

-- with every bound that suffices the reading goes on to its end
pub ReadsTo : (B : Type 0) → Builder B → Limits → List Symbol → B → List Lexeme → B → Type 0
ReadsTo B m lim ss b [] out = ⊥
ReadsTo B m lim ss b (u ∷ us) out = (f : ℕ) → below f ss ≡ true → go_on B (λ rest c. run B m lim rest c us) (step B m lim f ss b u) us ≡ Done out

reads-run : (B : Type 0) (m : Builder B) (lim : Limits) (ss : List Symbol) (b out : B) (ts : List Lexeme) → ReadsTo B m lim ss b ts out → run B m lim ss b ts ≡ Done out
unfolding ReadsTo
reads-run B m lim ss b out [] h = absurd h
reads-run B m lim ss b out (u ∷ us) h = h depth_of_words (all-below ss)

when-true : (B : Type 0) (x : Bool) (s : Step B) → x ≡ true → when B x s ≡ s
when-true B true s h = refl
when-true B false s h = no h

further : (B : Type 0) (o : Outcome B) (b : B) → o ≡ Done b → one_further B o ≡ Done b
further B o b e = ap (one_further B) e

below-zero : (n : Word) {X : Type 0} (b : Bool) → (nat_lt (rank n) zero && b) ≡ true → X
below-zero n b h = no (sym (le-ltb (rank n) 0 zero-le) ∙ (both (nat_lt (rank n) zero) b h).0)

-- a step that opens or builds something before the token, and then goes on as from another stack
reads-front : (B : Type 0) (m : Builder B) (lim : Limits) (ss rs : List Symbol) (b c out : B) (ts : List Lexeme)
    → ((u : Lexeme) (f : ℕ) → begins (same u.kind t.End) u.kind ss ≡ true → below f rs ≡ true → (x : ℕ) × (below x ss ≡ true) × (step B m lim f rs c u ≡ step B m lim x ss b u))
    → Starts ss ts → ReadsTo B m lim ss b ts out → ReadsTo B m lim rs c ts out
unfolding ReadsTo Starts
reads-front B m lim ss rs b c out [] f i h = h
reads-front B m lim ss rs b c out (u ∷ us) f i h = λ x l. let y = f u x i l in ap (λ s. go_on B (λ rest d. run B m lim rest d us) s us) y.2 ∙ h y.0 y.1

-- a word that is empty: no way of it begins with the token, since the token may follow it
skip-step : (B : Type 0) (m : Builder B) (lim : Limits) (n : Word) (d : ℕ) (ss : List Symbol) (b : B) (a : Act) (u : Lexeme) (f : ℕ)
    → empty n ≡ Some a → Good (Nt n d ∷ ss) → begins (same u.kind t.End) u.kind ss ≡ true → below f (Nt n d ∷ ss) ≡ true
    → (x : ℕ) × (below x ss ≡ true) × (step B m lim f (Nt n d ∷ ss) b u ≡ step B m lim x ss (m.act a b) u)
unfolding below Good
skip-step B m lim n d ss b a u zero e g h l = below-zero n (not (nullable n) || below zero ss) l
skip-step B m lim n d ss b a u (suc f) e g h l =
    let behind : has u.kind (follow n) ≡ true = g.0 u.kind h in
    let picks : pick (ways n) u.kind ≡ None = pick-none n u.kind (ways n) (all-sound n) (λ i. apart-has u.kind (first n) (follow n) (or-there (nullable n) (apart (first n) (follow n)) (apart-or-full n) (empty-there n a e)) i behind) in (
      suc f,
      or-there (nullable n) (below (suc f) ss) (both (nat_lt (rank n) (suc f)) (not (nullable n) || below (suc f) ss) l).1 (empty-there n a e),
      ap (λ o. opening_by B o (λ w. when B (fits B m lim w d b) (step B m lim f (deeper d w.symbols ++ ss) b u)) (skipping B (empty n) (λ x. step B m lim (suc f) ss (m.act x b) u))) picks
          ∙ ap (λ o. skipping B o (λ x. step B m lim (suc f) ss (m.act x b) u)) e,
    )

-- a word that is written
open-step : (B : Type 0) (m : Builder B) (lim : Limits) (n : Word) (d : ℕ) (ss : List Symbol) (b : B) (w : Way) (u : Lexeme) (f : ℕ)
    → Among w (ways n) → fits B m lim w d b ≡ true → begins (same u.kind t.End) u.kind (deeper d w.symbols ++ ss) ≡ true → below f (Nt n d ∷ ss) ≡ true
    → (x : ℕ) × (below x (deeper d w.symbols ++ ss) ≡ true) × (step B m lim f (Nt n d ∷ ss) b u ≡ step B m lim x (deeper d w.symbols ++ ss) b u)
unfolding below
open-step B m lim n d ss b w u zero i fit h l = below-zero n (not (nullable n) || below zero ss) l
open-step B m lim n d ss b w u (suc f) i fit h l =
    let lt : rank n < suc f = ltb-true (rank n) (suc f) (both (nat_lt (rank n) (suc f)) (not (nullable n) || below (suc f) ss) l).0 in (
      f,
      below-opened (rank n) f d w.symbols ss (omega arith) (way-leads n w i),
      ap (λ o. opening_by B o (λ v. when B (fits B m lim v d b) (step B m lim f (deeper d v.symbols ++ ss) b u)) (skipping B (empty n) (λ x. step B m lim (suc f) ss (m.act x b) u)))
          (pick-finds n u.kind w (ways n) i (all-sound n) (opened-first n w d ss i (same u.kind t.End) u.kind h))
          ∙ when-true B (fits B m lim w d b) (step B m lim f (deeper d w.symbols ++ ss) b u) fit,
    )

pub derived-reads : (B : Type 0) (m : Builder B) (lim : Limits) {ss : List Symbol} {b out : B} {ts : List Lexeme} → Derives B m lim ss b ts out → Good ss → ReadsTo B m lim ss b ts out
unfolding ReadsTo Good below
derived-reads B m lim (Ends {b = b} {out = out} {u = u} e o) g =
    λ f l. ap (λ s. go_on B (λ rest c. run B m lim rest c []) s []) (when-true B (same u.kind t.End) (Closed b) (is-same u.kind t.End e)) ∙ ap (λ x. Done x) o
derived-reads B m lim (Takes {k = k} {ss = ss} {b = b} {out = out} {u = u} {ts = ts} e r) g =
    λ f l. ap (λ s. go_on B (λ rest c. run B m lim rest c ts) s ts) (when-true B (same u.kind k) (Took ss (m.take_in u b)) (is-same u.kind k e))
    ∙ further B (run B m lim ss (m.take_in u b) ts) out (reads-run B m lim ss (m.take_in u b) out ts (derived-reads B m lim r g.1))
derived-reads B m lim (Makes {a = a} {ss = ss} {b = b} {out = out} {ts = ts} r) g =
    reads-front B m lim ss (Do a ∷ ss) (m.act a b) b out ts (λ u f i l. (f, l, refl)) (starts B m lim r) (derived-reads B m lim r g)
derived-reads B m lim (Skips {n = n} {d = d} {ss = ss} {b = b} {out = out} {ts = ts} a e r) g =
    reads-front B m lim ss (Nt n d ∷ ss) (m.act a b) b out ts (λ u f i l. skip-step B m lim n d ss b a u f e g i l) (starts B m lim r) (derived-reads B m lim r g.1)
derived-reads B m lim (Opens {n = n} {d = d} {ss = ss} {b = b} {out = out} {ts = ts} w i h p r) g =
    let reach = (both (in_reach lim (deeper d w.symbols)) (in_reach lim ss) (sym (reach-append lim (deeper d w.symbols) ss) ∙ derived-reach B m lim r)).0 in
    let fit : fits B m lim w d b ≡ true = and (nat_le d lim.levels) (passes B m lim w.guard b && in_reach lim (deeper d w.symbols)) h (and (passes B m lim w.guard b) (in_reach lim (deeper d w.symbols)) p reach) in
    reads-front B m lim (deeper d w.symbols ++ ss) (Nt n d ∷ ss) b b out ts (λ u f j l. open-step B m lim n d ss b w u f i fit j l) (starts B m lim r) (derived-reads B m lim r (good-way n w d ss i g))

-- what has a derivation is read to the end
pub derives-done : (B : Type 0) (m : Builder B) (lim : Limits) (ts : List Lexeme) (ss : List Symbol) (b out : B) → Good ss → Derives B m lim ss b ts out → run B m lim ss b ts ≡ Done out
derives-done B m lim ts ss b out g r = reads-run B m lim ss b out ts (derived-reads B m lim r g)
