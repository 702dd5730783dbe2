-- What ends at once, in every run.
use Rattle.std.proofs.Common.{◌≡◌, ℕ, Option, Some, None, Result, Ok, Err, Bool, true, false, refl, sym, ◌∙◌, ap}
use Rattle.side_trees.specs.Trees.{Tree, Return, Act, Tell, Stop, Spend, Do, Ask, bind, Ended, Stopped, NoFuel, run}
use Rattle.language_rules.specs.AtOnce.{at_once}

-- what comes of an end that was reached at once
abbrev resumed : {C S Q A K D W : Type 0} → (C → Tree C S Q A K D) → (D → W → W) → ℕ → (A → Tree C S Q A K D) → S → W → Option (Result A K × S) → Ended C S Q A K D W
resumed expand emit u k s w (Some (Ok a, now)) = run expand emit u (k a) now w
resumed expand emit u k s w (Some (Err x, now)) = Stopped x now u w
resumed expand emit u k s w None = NoFuel s w

-- whether it is an outcome, and no way out of the subset
abbrev is_outcome : {A K S : Type 0} → Option (Result A K × S) → Bool
is_outcome (Some (Ok a, s)) = true
is_outcome _ = false

apart : {A K S : Type 0} (o : Option (Result A K × S)) (a : A) (x : K) (s now : S) → o ≡ Some (Ok a, s) → o ≡ Some (Err x, now) → ⊥
apart o a x s now h g = let e : true ≡ false = ap is_outcome (sym h ∙ g) in cc

pub goes_on : {C S Q A K D W : Type 0} (expand : C → Tree C S Q A K D) (emit : D → W → W) (u : ℕ) (t : Tree C S Q A K D) (k : A → Tree C S Q A K D) (s now : S) (w : W) (a : A)
    → at_once t s ≡ Some (Ok a, now) → run expand emit u (bind t k) s w ≡ run expand emit u (k a) now w
goes_on expand emit u (Return b) k s now w a h = ap (resumed expand emit u k s w) h
goes_on expand emit u (Act g f) k s now w a h = goes_on expand emit u (f s) k (g s) now w a h
goes_on expand emit u (Tell d t) k s now w a h = cc
goes_on expand emit u (Stop x) k s now w a h = absurd (apart (Some (Err x, s)) a x now s h refl)
goes_on expand emit u (Spend c f) k s now w a h = cc
goes_on expand emit u (Do o c f) k s now w a h = cc
goes_on expand emit u (Ask q c f) k s now w a h = cc

pub leaves : {C S Q A K D W : Type 0} (expand : C → Tree C S Q A K D) (emit : D → W → W) (u : ℕ) (t : Tree C S Q A K D) (k : A → Tree C S Q A K D) (s now : S) (w : W) (x : K)
    → at_once t s ≡ Some (Err x, now) → run expand emit u (bind t k) s w ≡ Stopped x now u w
leaves expand emit u (Return b) k s now w x h = absurd (apart (Some (Ok b, s)) b x s now refl h)
leaves expand emit u (Act g f) k s now w x h = leaves expand emit u (f s) k (g s) now w x h
leaves expand emit u (Tell d t) k s now w x h = cc
leaves expand emit u (Stop y) k s now w x h = ap (resumed expand emit u k s w) h
leaves expand emit u (Spend c f) k s now w x h = cc
leaves expand emit u (Do o c f) k s now w x h = cc
leaves expand emit u (Ask q c f) k s now w x h = cc
