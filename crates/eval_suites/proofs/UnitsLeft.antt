-- A run that ends with units left is the same run with more units or fewer, but for those left.
use Rattle.std.proofs.Common.{◌≡◌, ◌+◌, ◌-◌, ◌<◌, ◌≤◌, ℕ, zero, suc, refl, sym, ap, subst, ◌∙◌, arith}
use Rattle.std.specs.Prelude.{⊤}
use mathlib.Core.Path.{fun_ext}
use Rattle.side_trees.specs.Trees.{Tree, Return, Act, Tell, Stop, Spend, Do, Ask, bind, Ended, Done, Asked, Stopped, NoFuel, run}
use Rattle.side_trees.proofs.BindLaw.{bind-bind, bind-return}

-- the units left at an end
abbrev pub left_at : {C S Q A K D W : Type 0} → Ended C S Q A K D W → ℕ
left_at (Done a s u w) = u
left_at (Asked q k s u w) = u
left_at (Stopped x s u w) = u
left_at (NoFuel s w) = zero

-- the same end with so many units left
abbrev pub with_left : {C S Q A K D W : Type 0} → ℕ → Ended C S Q A K D W → Ended C S Q A K D W
with_left u (Done a s n w) = Done a s u w
with_left u (Asked q k s n w) = Asked q k s u w
with_left u (Stopped x s n w) = Stopped x s u w
with_left u (NoFuel s w) = NoFuel s w

-- a run did not want for units
abbrev pub HadUnits : {C S Q A K D W : Type 0} → Ended C S Q A K D W → Type 0
HadUnits (NoFuel s w) = ⊥
HadUnits _ = ⊤

-- the same run with so many units more
abbrev More : {C S Q A K D W : Type 0} → ℕ → Ended C S Q A K D W → Ended C S Q A K D W → Type 0
More v (Done a s u w) e = e ≡ Done a s (u + v) w
More v (Asked q k s u w) e = e ≡ Asked q k s (u + v) w
More v (Stopped x s u w) e = e ≡ Stopped x s (u + v) w
More v (NoFuel s w) e = 0 < v → left_at e < v

one_less : (n u : ℕ) → n ≤ u → n ≤ suc u
one_less n u h = omega arith

pub no_more : {C S Q A K D W : Type 0} (expand : C → Tree C S Q A K D) (emit : D → W → W) (u : ℕ) (t : Tree C S Q A K D) (s : S) (w : W) → left_at (run expand emit u t s w) ≤ u
no_more expand emit u (Return a) s w = omega arith
no_more expand emit u (Act g f) s w = no_more expand emit u (f s) (g s) w
no_more expand emit u (Tell d t) s w = no_more expand emit u t s (emit d w)
no_more expand emit u (Stop x) s w = omega arith
no_more expand emit zero (Spend c k) s w = omega arith
no_more expand emit (suc u) (Spend c k) s w = one_less _ u (no_more expand emit u (bind (expand c) k) s w)
no_more expand emit zero (Do o c k) s w = omega arith
no_more expand emit (suc u) (Do o c k) s w = one_less _ u (no_more expand emit u (bind (expand o) (λ a. bind (expand (c a)) k)) s w)
no_more expand emit u (Ask q c k) s w = omega arith

below : (n v u : ℕ) → n ≤ u → v ≡ suc u → n < v
below n v u h e = omega arith

none_at_first : {C S Q A K D W : Type 0} (expand : C → Tree C S Q A K D) (emit : D → W → W) (v : ℕ) (c : C) (k : A → Tree C S Q A K D) (s : S) (w : W) → 0 < v → left_at (run expand emit v (Spend c k) s w) < v
none_at_first expand emit zero c k s w h = omega (arith, h)
none_at_first expand emit (suc v) c k s w h = below _ (suc v) v (no_more expand emit v (bind (expand c) k) s w) refl

none_at_first_do : {C S Q A K D W : Type 0} (expand : C → Tree C S Q A K D) (emit : D → W → W) (v : ℕ) (o : C) (c : A → C) (k : A → Tree C S Q A K D) (s : S) (w : W) → 0 < v → left_at (run expand emit v (Do o c k) s w) < v
none_at_first_do expand emit zero o c k s w h = omega (arith, h)
none_at_first_do expand emit (suc v) o c k s w h = below _ (suc v) v (no_more expand emit v (bind (expand o) (λ a. bind (expand (c a)) k)) s w) refl

none_and : (v : ℕ) → v ≡ 0 + v
none_and v = omega arith

one_and : (u v : ℕ) → suc (u + v) ≡ suc u + v
one_and u v = omega arith

with_more : {C S Q A K D W : Type 0} (expand : C → Tree C S Q A K D) (emit : D → W → W) (v u : ℕ) (t : Tree C S Q A K D) (s : S) (w : W) → More v (run expand emit u t s w) (run expand emit (u + v) t s w)
with_more expand emit v u (Return a) s w = refl
with_more expand emit v u (Act g f) s w = with_more expand emit v u (f s) (g s) w
with_more expand emit v u (Tell d t) s w = with_more expand emit v u t s (emit d w)
with_more expand emit v u (Stop x) s w = refl
with_more expand emit v zero (Spend c k) s w =
    subst (λ (n : ℕ). 0 < v → left_at (run expand emit n (Spend c k) s w) < v) (none_and v) (none_at_first expand emit v c k s w)
with_more expand emit v (suc u) (Spend c k) s w =
    subst (λ (n : ℕ). More v (run expand emit u (bind (expand c) k) s w) (run expand emit n (Spend c k) s w)) (one_and u v) (with_more expand emit v u (bind (expand c) k) s w)
with_more expand emit v zero (Do o c k) s w =
    subst (λ (n : ℕ). 0 < v → left_at (run expand emit n (Do o c k) s w) < v) (none_and v) (none_at_first_do expand emit v o c k s w)
with_more expand emit v (suc u) (Do o c k) s w =
    subst (λ (n : ℕ). More v (run expand emit u (bind (expand o) (λ a. bind (expand (c a)) k)) s w) (run expand emit n (Do o c k) s w)) (one_and u v) (with_more expand emit v u (bind (expand o) (λ a. bind (expand (c a)) k)) s w)
with_more expand emit v u (Ask q c k) s w = refl

-- ---- with the units that it spent, and others

-- a number is at least another, by c, or below it, by c and one
data Apart (n m : ℕ) : Type 0 where
  AtLeast : (c : ℕ) → n ≡ m + c → Apart n m
  Below : (c : ℕ) → m ≡ n + suc c → Apart n m

one_apart : (n m : ℕ) → Apart n m → Apart (suc n) (suc m)
one_apart n m (AtLeast c e) = AtLeast c (omega arith)
one_apart n m (Below c e) = Below c (omega arith)

apart : (n m : ℕ) → Apart n m
apart n zero = AtLeast n (omega arith)
apart zero (suc m) = Below m (omega arith)
apart (suc n) (suc m) = one_apart n m (apart n m)

kept_more : {C S Q A K D W : Type 0} (v : ℕ) (z y : Ended C S Q A K D W) → HadUnits z → More v z y → y ≡ with_left (left_at z + v) z
kept_more v (Done a s u w) y f h = h
kept_more v (Asked q k s u w) y f h = h
kept_more v (Stopped x s u w) y f h = h
kept_more v (NoFuel s w) y f h = absurd f

same_left : (u c d : ℕ) → u + c ≡ d + c → u ≡ d
same_left u c d e = omega arith

not_less : (d c n : ℕ) → n ≡ d + suc c → (0 < suc c → n < suc c) → ⊥
not_less d c n e f = let k : n < suc c = f (omega arith) in absurd (omega arith)

kept_less : {C S Q A K D W : Type 0} (c d : ℕ) (x z : Ended C S Q A K D W) → left_at z ≡ d + suc c → More (suc c) x z → x ≡ with_left d z
kept_less c d (Done a s u w) z e k =
    let l : u ≡ d = same_left u (suc c) d (sym (ap left_at k) ∙ e) in
    ap (λ n. Done a s n w) l ∙ sym (ap (with_left d) k)
kept_less c d (Asked q f s u w) z e k =
    let l : u ≡ d = same_left u (suc c) d (sym (ap left_at k) ∙ e) in
    ap (λ n. Asked q f s n w) l ∙ sym (ap (with_left d) k)
kept_less c d (Stopped x s u w) z e k =
    let l : u ≡ d = same_left u (suc c) d (sym (ap left_at k) ∙ e) in
    ap (λ n. Stopped x s n w) l ∙ sym (ap (with_left d) k)
kept_less c d (NoFuel s w) z e k = absurd (not_less d c (left_at z) e k)

and_more : (u l d c : ℕ) → l ≤ u → d ≡ l + c → (u - l) + d ≡ u + c
and_more u l d c h e = omega arith

up_to_it : (u l d c : ℕ) → l ≤ u → l ≡ d + suc c → ((u - l) + d) + suc c ≡ u
up_to_it u l d c h e = omega arith

by_units : {C S Q A K D W : Type 0} (r : ℕ → Ended C S Q A K D W) (u d : ℕ) → ((v n : ℕ) → More v (r n) (r (n + v))) → left_at (r u) ≤ u → HadUnits (r u) → Apart d (left_at (r u))
    → r ((u - left_at (r u)) + d) ≡ with_left d (r u)
by_units r u d more most had (AtLeast c e) =
    ap r (and_more u (left_at (r u)) d c most e) ∙ kept_more c (r u) (r (u + c)) had (more c u) ∙ ap (λ n. with_left n (r u)) (sym e)
by_units r u d more most had (Below c e) =
    let n : ℕ = (u - left_at (r u)) + d in
    kept_less c d (r n) (r u) e (subst (λ i. More (suc c) (r n) (r i)) (up_to_it u (left_at (r u)) d c most e) (more (suc c) n))

-- with the units that it spent and any others, these are left
pub others_left : {C S Q A K D W : Type 0} (expand : C → Tree C S Q A K D) (emit : D → W → W) (u d : ℕ) (t : Tree C S Q A K D) (s : S) (w : W) → HadUnits (run expand emit u t s w)
    → run expand emit ((u - left_at (run expand emit u t s w)) + d) t s w ≡ with_left d (run expand emit u t s w)
others_left expand emit u d t s w had =
    by_units (λ n. run expand emit n t s w) u d (λ v n. with_more expand emit v n t s w) (no_more expand emit u t s w) had (apart d (left_at (run expand emit u t s w)))

-- ---- what goes on behind

-- what goes on behind an end
abbrev behind : {C S Q A K D W : Type 0} → (C → Tree C S Q A K D) → (D → W → W) → (A → Tree C S Q A K D) → Ended C S Q A K D W → Ended C S Q A K D W
behind expand emit k (Done a s u w) = run expand emit u (k a) s w
behind expand emit k (Asked q f s u w) = Asked q (λ a. bind (f a) k) s u w
behind expand emit k (Stopped x s u w) = Stopped x s u w
behind expand emit k (NoFuel s w) = NoFuel s w

run-bind : {C S Q A K D W : Type 0} (expand : C → Tree C S Q A K D) (emit : D → W → W) (u : ℕ) (t : Tree C S Q A K D) (k : A → Tree C S Q A K D) (s : S) (w : W)
    → run expand emit u (bind t k) s w ≡ behind expand emit k (run expand emit u t s w)
run-bind expand emit u (Return a) k s w = refl
run-bind expand emit u (Act g f) k s w = run-bind expand emit u (f s) k (g s) w
run-bind expand emit u (Tell d t) k s w = run-bind expand emit u t k s (emit d w)
run-bind expand emit u (Stop x) k s w = refl
run-bind expand emit zero (Spend c f) k s w = refl
run-bind expand emit (suc u) (Spend c f) k s w =
    ap (λ t. run expand emit u t s w) (sym (bind-bind (expand c) f k)) ∙ run-bind expand emit u (bind (expand c) f) k s w
run-bind expand emit zero (Do o c f) k s w = refl
run-bind expand emit (suc u) (Do o c f) k s w =
    ap (λ g. run expand emit u (bind (expand o) g) s w) (fun_ext (λ a. sym (bind-bind (expand (c a)) f k)))
    ∙ ap (λ t. run expand emit u t s w) (sym (bind-bind (expand o) (λ a. bind (expand (c a)) f) k))
    ∙ run-bind expand emit u (bind (expand o) (λ a. bind (expand (c a)) f)) k s w
run-bind expand emit u (Ask q c f) k s w = ap (λ g. Asked q g s u w) (fun_ext (λ a. sym (bind-bind (expand (c a)) f k)))

-- What comes to this end within so many units, whatever goes on behind, comes to it within any others, with these left.
pub comes_anyhow : {C S Q A K D W : Type 0} (expand : C → Tree C S Q A K D) (emit : D → W → W) (units left more : ℕ) (t : Tree C S Q A K D) (s now : S) (w : W) (a : A) (k : A → Tree C S Q A K D)
    → ((j : A → Tree C S Q A K D) → run expand emit units (bind t j) s w ≡ run expand emit left (j a) now w)
    → run expand emit ((units - left) + more) (bind t k) s w ≡ run expand emit more (k a) now w
comes_anyhow {C} {S} {Q} {A} {K} {D} {W} expand emit units left more t s now w a k comes =
    let it : run expand emit units t s w ≡ Done a now left w = ap (λ x. run expand emit units x s w) (sym (bind-return t)) ∙ comes (λ b. Return b) in
    let had : HadUnits (run expand emit units t s w) = subst (λ (e : Ended C S Q A K D W). HadUnits e) (sym it) tt in
    run-bind expand emit ((units - left) + more) t k s w
    ∙ ap (behind expand emit k)
    (ap (λ (n : ℕ). run expand emit ((units - n) + more) t s w) (sym (ap left_at it)) ∙ others_left expand emit units more t s w had ∙ ap (with_left more) it)
