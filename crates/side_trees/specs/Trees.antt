-- A computation of one side as a finite tree, and its run by that side alone.
use Rattle.std.specs.Prelude.{ℕ, zero, suc}

-- C codes of the language, S a side's own state, Q what is asked of the other side, A outcomes, K ways out of the subset, D what goes on record.
-- Return: it ends with an outcome. Act g f: the state becomes what g makes of it, and f sees it as it was. Tell: something goes on record.
-- Stop: it leaves the subset. Spend c k: one unit; the code c runs, and its outcome goes to k.
-- Do o c k: one unit; the code o runs, with its outcome a the code c a runs at no cost, and its outcome goes to k.
-- Ask q c k: q is asked of the other side (its unit is due there); with the answer a the code c a runs at no cost, and its outcome goes to k.
pub data Tree (C S Q A K D : Type 0) : Type 0 where
  Return : A → Tree C S Q A K D
  Act : (S → S) → (S → Tree C S Q A K D) → Tree C S Q A K D
  Tell : D → Tree C S Q A K D → Tree C S Q A K D
  Stop : K → Tree C S Q A K D
  Spend : C → (A → Tree C S Q A K D) → Tree C S Q A K D
  Do : C → (A → C) → (A → Tree C S Q A K D) → Tree C S Q A K D
  Ask : Q → (A → C) → (A → Tree C S Q A K D) → Tree C S Q A K D

-- the tree, and then what k makes of its outcome
abbrev pub bind : {C S Q A K D : Type 0} → Tree C S Q A K D → (A → Tree C S Q A K D) → Tree C S Q A K D
bind (Return a) k = k a
bind (Act g f) k = Act g (λ s. bind (f s) k)
bind (Tell d t) k = Tell d (bind t k)
bind (Stop x) k = Stop x
bind (Spend c f) k = Spend c (λ a. bind (f a) k)
bind (Do o c f) k = Do o c (λ a. bind (f a) k)
bind (Ask q c f) k = Ask q c (λ a. bind (f a) k)

-- How far a side gets by itself: done, at a question with the tree that goes on after the answer, out of the subset, or at a unit that is not left.
-- Each end has the state, the units left (none at NoFuel) and the record W.
pub data Ended (C S Q A K D W : Type 0) : Type 0 where
  Done : A → S → ℕ → W → Ended C S Q A K D W
  Asked : Q → (A → Tree C S Q A K D) → S → ℕ → W → Ended C S Q A K D W
  Stopped : K → S → ℕ → W → Ended C S Q A K D W
  NoFuel : S → W → Ended C S Q A K D W

-- The run of a tree within its units, by the rule book expand; emit puts on record. The recursion is on the units, and then on the tree.
abbrev pub run : {C S Q A K D W : Type 0} → (C → Tree C S Q A K D) → (D → W → W) → ℕ → Tree C S Q A K D → S → W → Ended C S Q A K D W
run expand emit u (Return a) s w = Done a s u w
run expand emit u (Act g f) s w = run expand emit u (f s) (g s) w
run expand emit u (Tell d t) s w = run expand emit u t s (emit d w)
run expand emit u (Stop x) s w = Stopped x s u w
run expand emit zero (Spend c k) s w = NoFuel s w
run expand emit (suc u) (Spend c k) s w = run expand emit u (bind (expand c) k) s w
run expand emit zero (Do o c k) s w = NoFuel s w
run expand emit (suc u) (Do o c k) s w = run expand emit u (bind (expand o) (λ a. bind (expand (c a)) k)) s w
run expand emit u (Ask q c k) s w = Asked q (λ a. bind (expand (c a)) k) s u w
