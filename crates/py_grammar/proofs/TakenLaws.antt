-- What the reading takes has a derivation, and what it keeps on its stack can be completed.
use Rattle.std.proofs.Common.{◌≡◌, ◌∙◌, sym, refl, ap, subst, ℕ, zero, suc, Bool, true, false, ◌&&◌, ◌||◌, nat_le, List, [], ◌∷◌, ◌++◌, Option, Some, None}
use Rattle.py_grammar.specs.declared.act.Act.{Act}
use Rattle.py_grammar.specs.declared.symbol.Limits.{Limits}
use Rattle.py_grammar.specs.declared.symbol.Symbol.{Symbol}
use Rattle.py_grammar.specs.declared.symbol.Symbol.TheVariants.{Terminal as Tk, Word as Nt, Act as Do}
use Rattle.py_grammar.specs.declared.terminal.Terminal.TheVariants as t
use Rattle.py_grammar.specs.declared.word.Word.{Word}
use Rattle.py_grammar.specs.Building.{Lexeme, Builder, passes}
use Rattle.py_grammar.specs.Deriving.{Derives, Ends, Takes, Makes, Skips, Opens}
use Rattle.py_grammar.specs.Reading.{nullable, pick, in_reach, fits, Step, Refused, Took, Closed, when, opening_by, skipping, step, Outcome, Done, Stuck, one_further, closed, go_on, run, depth_of_words}
use Rattle.py_grammar.specs.Table.{ways, empty}
use Rattle.py_grammar.specs.Terminals.{same}
use Rattle.py_grammar.specs.Ways.{Way}
use Rattle.py_grammar.specs.Writing.{Among, deeper}
use Rattle.py_grammar.proofs.SetLaws.{both, and, or-left, or-right, and-and, pick-among}
use Rattle.py_grammar.proofs.TerminalLaws.{same-is}

-- ---- outcomes

is-done : (B : Type 0) → Outcome B → Type 0
is-done B (Done b) = Unit {0}
is-done B (Stuck n) = ⊥

pub stuck-done : (B : Type 0) (n : ℕ) (b : B) → Stuck n ≡ Done b → ⊥
unfolding is-done
stuck-done B n b e = subst (is-done B) (sym e) tt

made : (B : Type 0) → B → Outcome B → B
made B c (Done b) = b
made B c (Stuck n) = c

pub done-one : (B : Type 0) (b c : B) → Done b ≡ Done c → b ≡ c
unfolding made
done-one B b c e = ap (made B b) e

place : (B : Type 0) → Outcome B → ℕ
place B (Done b) = 0
place B (Stuck n) = n

pub stuck-one : (B : Type 0) (n k : ℕ) → ◌≡◌ {A = Outcome B} (Stuck n) (Stuck k) → n ≡ k
unfolding place
stuck-one B n k e = ap (place B) e

pub further-done : (B : Type 0) (o : Outcome B) (b : B) → one_further B o ≡ Done b → o ≡ Done b
further-done B (Done c) b e = e
further-done B (Stuck n) b e = absurd (stuck-done B (suc n) b e)

-- ---- what one token does

-- what follows from a derivation of the rest
unfoldable pub After : (B : Type 0) → Builder B → Limits → List Symbol → B → Lexeme → Step B → Type 0
After B m lim ss b u Refused = Unit {0}
After B m lim ss b u (Took rest c) = (ts : List Lexeme) (out : B) → Derives B m lim rest c ts out → Derives B m lim ss b (u ∷ ts) out
After B m lim ss b u (Closed c) = Derives B m lim ss b (u ∷ []) c

after-when : (B : Type 0) (m : Builder B) (lim : Limits) (ss : List Symbol) (b : B) (u : Lexeme) (x : Bool) (s : Step B)
    → (x ≡ true → After B m lim ss b u s) → After B m lim ss b u (when B x s)
unfolding After
after-when B m lim ss b u true s f = f refl
after-when B m lim ss b u false s f = tt

after-opening : (B : Type 0) (m : Builder B) (lim : Limits) (ss : List Symbol) (b : B) (u : Lexeme) (n : Word) (o : Option Way) (open_way : Way → Step B) (other : Step B)
    → pick (ways n) u.kind ≡ o → ((w : Way) → Among w (ways n) → After B m lim ss b u (open_way w)) → After B m lim ss b u other
    → After B m lim ss b u (opening_by B o open_way other)
after-opening B m lim ss b u n (Some w) open_way other e f g = f w (pick-among u.kind w (ways n) e)
after-opening B m lim ss b u n None open_way other e f g = g

after-skipping : (B : Type 0) (m : Builder B) (lim : Limits) (ss : List Symbol) (b : B) (u : Lexeme) (n : Word) (o : Option Act) (skip : Act → Step B)
    → empty n ≡ o → ((a : Act) → empty n ≡ Some a → After B m lim ss b u (skip a)) → After B m lim ss b u (skipping B o skip)
unfolding After
after-skipping B m lim ss b u n (Some a) skip e f = f a e
after-skipping B m lim ss b u n None skip e f = tt

-- one more symbol in front
after-front : (B : Type 0) (m : Builder B) (lim : Limits) (ss rs : List Symbol) (b c : B) (u : Lexeme) (s : Step B)
    → ((ts : List Lexeme) (out : B) → Derives B m lim ss c ts out → Derives B m lim rs b ts out) → After B m lim ss c u s → After B m lim rs b u s
unfolding After
after-front B m lim ss rs b c u Refused f a = tt
after-front B m lim ss rs b c u (Took rest d) f a = λ ts out r. f (u ∷ ts) out (a ts out r)
after-front B m lim ss rs b c u (Closed d) f a = f (u ∷ []) d a

pub step-after : (B : Type 0) (m : Builder B) (lim : Limits) (f : ℕ) (ss : List Symbol) (b : B) (u : Lexeme) → After B m lim ss b u (step B m lim f ss b u)
unfolding After
step-after B m lim f [] b u = after-when B m lim [] b u (same u.kind t.End) (Closed b) (λ e. Ends (same-is u.kind t.End e) refl)
step-after B m lim f (Tk k ∷ ss) b u =
    after-when B m lim (Tk k ∷ ss) b u (same u.kind k) (Took ss (m.take_in u b)) (λ e. λ ts out r. Takes (same-is u.kind k e) r)
step-after B m lim f (Do a ∷ ss) b u =
    after-front B m lim ss (Do a ∷ ss) b (m.act a b) u (step B m lim f ss (m.act a b) u) (λ ts out r. Makes r) (step-after B m lim f ss (m.act a b) u)
step-after B m lim zero (Nt n d ∷ ss) b u = tt
step-after B m lim (suc f) (Nt n d ∷ ss) b u =
    after-opening B m lim (Nt n d ∷ ss) b u n (pick (ways n) u.kind)
    (λ w. when B (fits B m lim w d b) (step B m lim f (deeper d w.symbols ++ ss) b u)) (skipping B (empty n) (λ a. step B m lim (suc f) ss (m.act a b) u)) refl
    (λ w i. after-when B m lim (Nt n d ∷ ss) b u (fits B m lim w d b) (step B m lim f (deeper d w.symbols ++ ss) b u)
    (λ e. let x = both (nat_le d lim.levels) (passes B m lim w.guard b && in_reach lim (deeper d w.symbols)) e in
    let y = both (passes B m lim w.guard b) (in_reach lim (deeper d w.symbols)) x.1 in
    after-front B m lim (deeper d w.symbols ++ ss) (Nt n d ∷ ss) b b u (step B m lim f (deeper d w.symbols ++ ss) b u)
    (λ ts out r. Opens w i x.0 y.0 r) (step-after B m lim f (deeper d w.symbols ++ ss) b u)))
    (after-skipping B m lim (Nt n d ∷ ss) b u n (empty n) (λ a. step B m lim (suc f) ss (m.act a b) u) refl
    (λ a e. after-front B m lim ss (Nt n d ∷ ss) b (m.act a b) u (step B m lim (suc f) ss (m.act a b) u) (λ ts out r. Skips a e r) (step-after B m lim (suc f) ss (m.act a b) u)))

-- ---- what stays on the stack is in reach

unfoldable pub Reaches : (B : Type 0) → Limits → Step B → Type 0
Reaches B lim Refused = Unit {0}
Reaches B lim (Took ss b) = in_reach lim ss ≡ true
Reaches B lim (Closed b) = Unit {0}

pub reach-append : (lim : Limits) (xs ys : List Symbol) → in_reach lim (xs ++ ys) ≡ (in_reach lim xs && in_reach lim ys)
reach-append lim [] ys = refl
reach-append lim (Tk k ∷ xs) ys = reach-append lim xs ys
reach-append lim (Do a ∷ xs) ys = reach-append lim xs ys
reach-append lim (Nt n d ∷ xs) ys =
    ap (λ b. (nat_le d lim.levels || nullable n) && b) (reach-append lim xs ys) ∙ and-and (nat_le d lim.levels || nullable n) (in_reach lim xs) (in_reach lim ys)

reach-when : (B : Type 0) (lim : Limits) (x : Bool) (s : Step B) → (x ≡ true → Reaches B lim s) → Reaches B lim (when B x s)
unfolding Reaches
reach-when B lim true s f = f refl
reach-when B lim false s f = tt

reach-opening : (B : Type 0) (lim : Limits) (o : Option Way) (open_way : Way → Step B) (other : Step B)
    → ((w : Way) → Reaches B lim (open_way w)) → Reaches B lim other → Reaches B lim (opening_by B o open_way other)
reach-opening B lim (Some w) open_way other f g = f w
reach-opening B lim None open_way other f g = g

reach-skipping : (B : Type 0) (lim : Limits) (o : Option Act) (skip : Act → Step B) → ((a : Act) → Reaches B lim (skip a)) → Reaches B lim (skipping B o skip)
unfolding Reaches
reach-skipping B lim (Some a) skip f = f a
reach-skipping B lim None skip f = tt

pub step-reaches : (B : Type 0) (m : Builder B) (lim : Limits) (f : ℕ) (ss : List Symbol) (b : B) (u : Lexeme) → in_reach lim ss ≡ true → Reaches B lim (step B m lim f ss b u)
unfolding Reaches
step-reaches B m lim f [] b u r = reach-when B lim (same u.kind t.End) (Closed b) (λ e. tt)
step-reaches B m lim f (Tk k ∷ ss) b u r = reach-when B lim (same u.kind k) (Took ss (m.take_in u b)) (λ e. r)
step-reaches B m lim f (Do a ∷ ss) b u r = step-reaches B m lim f ss (m.act a b) u r
step-reaches B m lim zero (Nt n d ∷ ss) b u r = tt
step-reaches B m lim (suc f) (Nt n d ∷ ss) b u r =
    let rest = (both (nat_le d lim.levels || nullable n) (in_reach lim ss) r).1 in
    reach-opening B lim (pick (ways n) u.kind)
    (λ w. when B (fits B m lim w d b) (step B m lim f (deeper d w.symbols ++ ss) b u)) (skipping B (empty n) (λ a. step B m lim (suc f) ss (m.act a b) u))
    (λ w. reach-when B lim (fits B m lim w d b) (step B m lim f (deeper d w.symbols ++ ss) b u)
    (λ e. let x = (both (nat_le d lim.levels) (passes B m lim w.guard b && in_reach lim (deeper d w.symbols)) e).1 in
    let y = (both (passes B m lim w.guard b) (in_reach lim (deeper d w.symbols)) x).1 in
    step-reaches B m lim f (deeper d w.symbols ++ ss) b u (reach-append lim (deeper d w.symbols) ss ∙ and (in_reach lim (deeper d w.symbols)) (in_reach lim ss) y rest)))
    (reach-skipping B lim (empty n) (λ a. step B m lim (suc f) ss (m.act a b) u) (λ a. step-reaches B m lim (suc f) ss (m.act a b) u rest))

-- what can be derived is in reach
pub derived-reach : (B : Type 0) (m : Builder B) (lim : Limits) {ss : List Symbol} {b out : B} {ts : List Lexeme} → Derives B m lim ss b ts out → in_reach lim ss ≡ true
derived-reach B m lim (Ends e f) = refl
derived-reach B m lim (Takes e r) = derived-reach B m lim r
derived-reach B m lim (Makes r) = derived-reach B m lim r
derived-reach B m lim (Skips {n = n} {d = d} {ss = ss} a e r) =
    and (nat_le d lim.levels || nullable n) (in_reach lim ss) (or-right (nat_le d lim.levels) (nullable n) (subst (λ o. is o) (sym e) refl)) (derived-reach B m lim r)
  where
    is : Option Act → Type 0
    is o = Rattle.py_grammar.specs.Reading.is_there o ≡ true
derived-reach B m lim (Opens {n = n} {d = d} {ss = ss} w i h g r) =
    and (nat_le d lim.levels || nullable n) (in_reach lim ss) (or-left (nat_le d lim.levels) (nullable n) h)
    (both (in_reach lim (deeper d w.symbols)) (in_reach lim ss) (sym (reach-append lim (deeper d w.symbols) ss) ∙ derived-reach B m lim r)).1

-- ---- the reading to the end

read-taken : (B : Type 0) (m : Builder B) (lim : Limits) (ss : List Symbol) (b out : B) (u : Lexeme) (us : List Lexeme) (s : Step B)
    → ((rest : List Symbol) (c : B) → run B m lim rest c us ≡ Done out → Derives B m lim rest c us out)
    → After B m lim ss b u s → go_on B (λ rest c. run B m lim rest c us) s us ≡ Done out → Derives B m lim ss b (u ∷ us) out
unfolding After
read-taken B m lim ss b out u us Refused f a e = absurd (stuck-done B 0 out e)
read-taken B m lim ss b out u us (Took rest c) f a e = a us out (f rest c (further-done B (run B m lim rest c us) out e))
read-taken B m lim ss b out u [] (Closed c) f a e = subst (λ x. Derives B m lim ss b (u ∷ []) x) (done-one B c out e) a
read-taken B m lim ss b out u (v ∷ vs) (Closed c) f a e = absurd (stuck-done B 1 out e)

-- what is read to the end has a derivation
pub done-derives : (B : Type 0) (m : Builder B) (lim : Limits) (ts : List Lexeme) (ss : List Symbol) (b out : B) → run B m lim ss b ts ≡ Done out → Derives B m lim ss b ts out
done-derives B m lim [] ss b out e = absurd (stuck-done B 0 out e)
done-derives B m lim (u ∷ us) ss b out e =
    read-taken B m lim ss b out u us (step B m lim depth_of_words ss b u) (λ rest c. done-derives B m lim us rest c out) (step-after B m lim depth_of_words ss b u) e
