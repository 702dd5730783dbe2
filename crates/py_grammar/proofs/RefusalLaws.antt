-- Where the reading is stuck, the tokens so far can be completed, and with the next one they cannot.
use Rattle.std.proofs.Common.{◌≡◌, ◌∙◌, sym, refl, ap, subst, ℕ, zero, suc, ◌<◌, true, ◌&&◌, ◌||◌, inl, nat_le, nat_lt, nat_eq, eqb-true, List, [], ◌∷◌, ◌++◌, Option, Some, None, arith, ltb-true, lt-ltb, le-ltb, zero-le, pred, suc-ne-zero}
use Rattle.py_grammar.specs.declared.act.Act.{Act}
use Rattle.py_grammar.specs.declared.symbol.Guard.{Guard}
use Rattle.py_grammar.specs.declared.symbol.Limits.{Limits}
use Rattle.py_grammar.specs.declared.symbol.Symbol.{Symbol}
use Rattle.py_grammar.specs.declared.symbol.Symbol.TheVariants.{Terminal as Tk, Word as Nt, Act as Do}
use Rattle.py_grammar.specs.declared.terminal.Terminal.{Terminal}
use Rattle.py_grammar.specs.declared.terminal.Terminal.TheVariants as t
use Rattle.py_grammar.specs.declared.word.Word.{Word}
use Rattle.py_grammar.specs.Building.{Lexeme, Builder, passes}
use Rattle.py_grammar.specs.Deriving.{Derives, Ends, Takes, Makes, Skips, Opens, CanBegin}
use Rattle.py_grammar.specs.Reading.{is_there, nullable, in_reach, Step, Refused, Took, Closed, step, Outcome, Done, Stuck, one_further, go_on, run, depth_of_words}
use Rattle.py_grammar.specs.Sets.{rank}
use Rattle.py_grammar.specs.Soundness.{free, brief, short}
use Rattle.py_grammar.specs.Table.{ways, empty}
use Rattle.py_grammar.specs.Ways.{Way}
use Rattle.py_grammar.specs.Writing.{Among, deeper, inward}
use Rattle.py_grammar.specs.Refusals.{leading, IsAt}
use Rattle.py_grammar.proofs.SetLaws.{no, both, either, one_of}
use Rattle.py_grammar.proofs.TakenLaws.{After, step-after, Reaches, step-reaches, stuck-done, done-one, stuck-one}
use Rattle.py_grammar.proofs.ExactLaws.{empty-or-short, Good, derives-done}

-- ---- a stack in reach can be completed

pub Completes : (B : Type 0) → Builder B → Limits → List Symbol → Type 0
Completes B m lim ss = (b : B) → (ts : List Lexeme) × (out : B) × Derives B m lim ss b ts out

there-some : (o : Option Act) → is_there o ≡ true → (a : Act) × (o ≡ Some a)
there-some None h = no h
there-some (Some a) h = (a, refl)

skip-fill : (B : Type 0) (m : Builder B) (lim : Limits) (n : Word) (d : ℕ) (ss : List Symbol) → nullable n ≡ true → Completes B m lim ss → Completes B m lim (Nt n d ∷ ss)
unfolding Completes
skip-fill B m lim n d ss h f = λ b. let x = there-some (empty n) h in let y = f (m.act x.0 b) in (y.0, y.1, Skips x.0 x.1 y.2)

token-fill : (B : Type 0) (m : Builder B) (lim : Limits) (k : Terminal) (ss : List Symbol) → Completes B m lim ss → Completes B m lim (Tk k ∷ ss)
unfolding Completes
token-fill B m lim k ss f = λ b.
    let u : Lexeme = record { kind = k; text = []; line = 0 } in
    let y = f (m.take_in u b) in
    (u ∷ y.0, y.1, Takes refl y.2)

act-fill : (B : Type 0) (m : Builder B) (lim : Limits) (a : Act) (ss : List Symbol) → Completes B m lim ss → Completes B m lim (Do a ∷ ss)
unfolding Completes
act-fill B m lim a ss f = λ b. let y = f (m.act a b) in (y.0, y.1, Makes y.2)

inward-zero : (e d : ℕ) → nat_eq e 0 ≡ true → inward e d ≡ d
inward-zero e d h = subst (λ x. inward x d ≡ d) (sym (eqb-true e 0 h)) refl

-- the symbols of a short way, by what completes each of their words
way-fill : (B : Type 0) (m : Builder B) (lim : Limits) (r d : ℕ) (xs ss : List Symbol)
    → ((n : Word) (rest : List Symbol) → nat_lt (rank n) r ≡ true → Completes B m lim rest → Completes B m lim (Nt n d ∷ rest))
    → brief r xs ≡ true → Completes B m lim ss → Completes B m lim (deeper d xs ++ ss)
way-fill B m lim r d [] ss g h f = f
way-fill B m lim r d (Tk k ∷ xs) ss g h f = token-fill B m lim k (deeper d xs ++ ss) (way-fill B m lim r d xs ss g h f)
way-fill B m lim r d (Do a ∷ xs) ss g h f = act-fill B m lim a (deeper d xs ++ ss) (way-fill B m lim r d xs ss g h f)
way-fill B m lim r d (Nt n e ∷ xs) ss g h f =
    let p = both (nullable n || (nat_lt (rank n) r && nat_eq e 0)) (brief r xs) h in
    let rest = way-fill B m lim r d xs ss g p.1 f in
    one_of (λ i. skip-fill B m lim n (inward e d) (deeper d xs ++ ss) i rest)
    (λ i. let q = both (nat_lt (rank n) r) (nat_eq e 0) i in
    subst (λ x. Completes B m lim (Nt n x ∷ (deeper d xs ++ ss))) (sym (inward-zero e d q.1)) (g n (deeper d xs ++ ss) q.0 rest))
    (either (nullable n) (nat_lt (rank n) r && nat_eq e 0) p.0)

free-passes : (B : Type 0) (m : Builder B) (lim : Limits) (o : Option Guard) (b : B) → free o ≡ true → passes B m lim o b ≡ true
free-passes B m lim None b h = refl
free-passes B m lim (Some g) b h = no h

-- the first of a word's ways
FirstWay : Word → List Way → Type 0
FirstWay n ws = (w : Way) × (Among w ws) × (free w.guard ≡ true) × (brief (rank n) w.symbols ≡ true)

first-way : (n : Word) (ws : List Way) → short (rank n) ws ≡ true → FirstWay n ws
unfolding FirstWay
first-way n [] h = no h
first-way n (w ∷ ws) h = let p = both (free w.guard) (brief (rank n) w.symbols) h in (w, inl refl, p.0, p.1)

open-fill : (B : Type 0) (m : Builder B) (lim : Limits) (n : Word) (d : ℕ) (ss : List Symbol) (w : Way) → Among w (ways n) → free w.guard ≡ true → nat_le d lim.levels ≡ true
    → Completes B m lim (deeper d w.symbols ++ ss) → Completes B m lim (Nt n d ∷ ss)
unfolding Completes
open-fill B m lim n d ss w i h le f = λ b. let y = f b in (y.0, y.1, Opens w i le (free-passes B m lim w.guard b h) y.2)

le-more : (a r f : ℕ) → nat_lt a r ≡ true → nat_lt r (suc f) ≡ true → nat_lt a f ≡ true
le-more a r f h i = let lt : a < r = ltb-true a r h in let le : r < suc f = ltb-true r (suc f) i in lt-ltb a f (omega arith)

-- a word of rank below f
word-fill : (B : Type 0) (m : Builder B) (lim : Limits) (f : ℕ) (n : Word) (d : ℕ) (ss : List Symbol) → nat_lt (rank n) f ≡ true → nat_le d lim.levels ≡ true → Completes B m lim ss → Completes B m lim (Nt n d ∷ ss)
unfolding FirstWay
word-fill B m lim zero n d ss h le c = no (sym (le-ltb (rank n) 0 zero-le) ∙ h)
word-fill B m lim (suc f) n d ss h le c =
    one_of (λ i. skip-fill B m lim n d ss i c)
    (λ i. let w = first-way n (ways n) i in
    open-fill B m lim n d ss w.0 w.1 w.2 le
    (way-fill B m lim (rank n) d w.0.symbols ss (λ x rest j. word-fill B m lim f x d rest (le-more (rank x) (rank n) f j h) le) w.3 c))
    (either (nullable n) (short (rank n) (ways n)) (empty-or-short n))

-- a stack in reach, over one that has ended
pub fill : (B : Type 0) (m : Builder B) (lim : Limits) (ss : List Symbol) → in_reach lim ss ≡ true → Completes B m lim ss
unfolding Completes
fill B m lim [] h = λ b. let u : Lexeme = record { kind = t.End; text = []; line = 0 } in (u ∷ [], b, Ends refl refl)
fill B m lim (Tk k ∷ ss) h = token-fill B m lim k ss (fill B m lim ss h)
fill B m lim (Do a ∷ ss) h = act-fill B m lim a ss (fill B m lim ss h)
fill B m lim (Nt n d ∷ ss) h =
    let p = both (nat_le d lim.levels || nullable n) (in_reach lim ss) h in
    let rest = fill B m lim ss p.1 in
    one_of (λ i. word-fill B m lim (suc (rank n)) n d ss (lt-ltb (rank n) (suc (rank n)) (omega arith)) i rest) (λ i. skip-fill B m lim n d ss i rest) (either (nat_le d lim.levels) (nullable n) p.0)

-- ---- the tokens so far fit

zero-suc : (n : ℕ) → zero ≡ suc n → ⊥
zero-suc n e = suc-ne-zero n (sym e)

pub nowhere : (n : ℕ) (u : Lexeme) → IsAt n [] u → ⊥
nowhere zero u i = i
nowhere (suc n) u i = i

pub further-stuck : (B : Type 0) (o : Outcome B) (n : ℕ) → one_further B o ≡ Stuck n → (k : ℕ) × (n ≡ suc k) × (o ≡ Stuck k)
further-stuck B (Done b) n e = absurd (stuck-done B n b (sym e))
further-stuck B (Stuck k) n e = (k, sym (stuck-one B (suc k) n e), refl)

module _ (B : Type 0) (m : Builder B) (lim : Limits) where
  Fits : List Symbol → B → List Lexeme → ℕ → Type 0
  Fits ss b ts n = CanBegin B m lim ss b (leading n ts)

  fits-of : (ss : List Symbol) (b : B) (u : Lexeme) (us : List Lexeme) (n : ℕ) (s : Step B)
      → ((rest : List Symbol) (c : B) (k : ℕ) → in_reach lim rest ≡ true → run B m lim rest c us ≡ Stuck k → Fits rest c us k)
      → in_reach lim ss ≡ true → After B m lim ss b u s → Reaches B lim s → go_on B (λ rest c. run B m lim rest c us) s us ≡ Stuck n → Fits ss b (u ∷ us) n
  unfolding After Reaches Completes Fits
  fits-of ss b u us n Refused f r a q e = subst (λ x. CanBegin B m lim ss b (leading x (u ∷ us))) (stuck-one B 0 n e) (fill B m lim ss r b)
  fits-of ss b u us n (Took rest c) f r a q e =
      let k = further-stuck B (run B m lim rest c us) n e in
      let y = f rest c k.0 q k.2 in
      subst (λ x. CanBegin B m lim ss b (leading x (u ∷ us))) (sym k.1) (y.0, y.1, a (leading k.0 us ++ y.0) y.1 y.2)
  fits-of ss b u [] n (Closed c) f r a q e = absurd (stuck-done B n c (sym e))
  fits-of ss b u (v ∷ vs) n (Closed c) f r a q e = subst (λ x. CanBegin B m lim ss b (leading x (u ∷ v ∷ vs))) (stuck-one B 1 n e) ([], c, a)

  pub stuck-fits : (ts : List Lexeme) (ss : List Symbol) (b : B) (n : ℕ) → in_reach lim ss ≡ true → run B m lim ss b ts ≡ Stuck n → CanBegin B m lim ss b (leading n ts)
  unfolding Completes Fits
  stuck-fits [] ss b n r e = subst (λ x. CanBegin B m lim ss b (leading x [])) (stuck-one B 0 n e) (fill B m lim ss r b)
  stuck-fits (u ∷ us) ss b n r e =
      fits-of ss b u us n (step B m lim depth_of_words ss b u) (λ rest c k q i. stuck-fits us rest c k q i) r (step-after B m lim depth_of_words ss b u) (step-reaches B m lim depth_of_words ss b u r) e

  -- ---- no text goes on with the next one

  Stays : List Symbol → B → List Lexeme → ℕ → Lexeme → Type 0
  Stays ss b ts n u = (more : List Lexeme) → run B m lim ss b ((leading n ts ++ (u ∷ [])) ++ more) ≡ Stuck n

  stays-of : (ss : List Symbol) (b : B) (v : Lexeme) (vs : List Lexeme) (n : ℕ) (u : Lexeme) (s : Step B) → step B m lim depth_of_words ss b v ≡ s
      → ((rest : List Symbol) (c : B) (k : ℕ) → run B m lim rest c vs ≡ Stuck k → IsAt k vs u → Stays rest c vs k u)
      → go_on B (λ rest c. run B m lim rest c vs) s vs ≡ Stuck n → IsAt n (v ∷ vs) u → Stays ss b (v ∷ vs) n u
  unfolding Stays
  stays-of ss b v vs zero u Refused q f e i =
      λ more. ap (λ x. go_on B (λ rest c. run B m lim rest c more) (step B m lim depth_of_words ss b x) more) (sym i) ∙ ap (λ s. go_on B (λ rest c. run B m lim rest c more) s more) q
  stays-of ss b v vs (suc n) u Refused q f e i = absurd (zero-suc n (stuck-one B 0 (suc n) e))
  stays-of ss b v vs zero u (Took rest c) q f e i = let k = further-stuck B (run B m lim rest c vs) zero e in absurd (zero-suc k.0 k.1)
  stays-of ss b v vs (suc n) u (Took rest c) q f e i =
      let k = further-stuck B (run B m lim rest c vs) (suc n) e in
      let is : n ≡ k.0 = ap pred k.1 in
      λ more. ap (λ s. go_on B (λ r d. run B m lim r d ((leading n vs ++ (u ∷ [])) ++ more)) s ((leading n vs ++ (u ∷ [])) ++ more)) q
      ∙ ap (one_further B) (f rest c n (k.2 ∙ ap (λ x. Stuck x) (sym is)) i more)
  stays-of ss b v [] n u (Closed c) q f e i = absurd (stuck-done B n c (sym e))
  stays-of ss b v (w ∷ ws) zero u (Closed c) q f e i = absurd (zero-suc 0 (stuck-one B 0 1 (sym e)))
  stays-of ss b v (w ∷ ws) (suc zero) u (Closed c) q f e i = λ more. ap (λ s. go_on B (λ r d. run B m lim r d (u ∷ more)) s (u ∷ more)) q
  stays-of ss b v (w ∷ ws) (suc (suc n)) u (Closed c) q f e i = absurd (zero-suc n (ap pred (stuck-one B 1 (suc (suc n)) e)))

  stuck-stays : (ts : List Lexeme) (ss : List Symbol) (b : B) (n : ℕ) (u : Lexeme) → run B m lim ss b ts ≡ Stuck n → IsAt n ts u → Stays ss b ts n u
  stuck-stays [] ss b n u e i = absurd (nowhere n u i)
  stuck-stays (v ∷ vs) ss b n u e i = stays-of ss b v vs n u (step B m lim depth_of_words ss b v) refl (λ rest c k. stuck-stays vs rest c k u) e i

  pub stuck-stops : (ts : List Lexeme) (ss : List Symbol) (b : B) (n : ℕ) (u : Lexeme) → Good ss → run B m lim ss b ts ≡ Stuck n → IsAt n ts u → CanBegin B m lim ss b (leading n ts ++ (u ∷ [])) → ⊥
  unfolding Stays
  stuck-stops ts ss b n u g e i c =
      stuck-done B n c.1 (sym (stuck-stays ts ss b n u e i c.0) ∙ derives-done B m lim ((leading n ts ++ (u ∷ [])) ++ c.0) ss b c.1 g c.2)

  -- ---- one tree

  pub one-tree : (ts : List Lexeme) (ss : List Symbol) (b one two : B) → Good ss → Derives B m lim ss b ts one → Derives B m lim ss b ts two → one ≡ two
  one-tree ts ss b one two g r q = done-one B one two (sym (derives-done B m lim ts ss b one g r) ∙ derives-done B m lim ts ss b two g q)
