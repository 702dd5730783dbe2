-- Two scripts of this stage are answered: each letter is bound to a number that can be sent.
use Rattle.std.proofs.Common.{◌≡◌, ◌∙◌, ◌<◌, Err, Result, ap, pos, ℕ, ◌-◌, List, [], ◌∷◌, Option, Some, None, Bool, true, false, sym, refl, subst, All, IsSome, length, get_or, suc, arith, cond, reverse, find, unwrap_or, option_map, ◌==◌}
use Rattle.std.proofs.lemmas.List.{get_or-reverse, length-reverse}
use Rattle.pair_run.specs.declared.scripts.Binding.{Binding}
use Rattle.pair_run.specs.declared.run.PairScripts.{PairScripts}
use Rattle.pair_run.specs.declared.scripts.ScriptEnd.{ScriptEnd}
use Rattle.pair_run.specs.declared.scripts.ScriptEnd.TheVariants as script_end
use Rattle.pair_run.specs.Running.{AreJoined}
use Rattle.pair_run.proofs.LastBindings.{bound_same}
use Rattle.pair_run.specs.Scripts.{Agrees, IsLetter, IsBinding, IsNumber, number_of}
use Rattle.pair_run.specs.Talk.{AreAnswered, value_of}

-- what is found is one of the list
found_at : {X : Type 0} (b : Bool) (P : X → Type 0) (x y : X) (o : Option X) → P x → (o ≡ Some y → P y) → cond b (Some x) o ≡ Some y → P y
found_at true P x y o h k e = let same : x ≡ y = cc in subst P same h
found_at false P x y o h k e = k e

tail_all : {X : Type 0} (P : X → Type 0) (x : X) (xs : List X) → All P (x ∷ xs) → All P xs
tail_all P x xs h = λ k d l. h (suc k) d (omega arith)

found_in : {X : Type 0} (P : X → Type 0) (p : X → Bool) (xs : List X) (y : X) → All P xs → find p xs ≡ Some y → P y
found_in P p [] y h e = cc
found_in P p (x ∷ xs) y h e = found_at (p x) P x y (find p xs) (h 0 x (omega arith)) (found_in P p xs y (tail_all P x xs h)) e

reversed_all : {X : Type 0} (P : X → Type 0) (xs : List X) → All P xs → All P (reverse xs)
reversed_all P xs h = λ k d l.
    let within : k < length xs = omega (arith, l, length-reverse xs) in
    subst P (sym (get_or-reverse xs k d within)) (h (length xs - 1 - k) d (omega arith))

number_of_binding : (o : Option Binding) → ((b : Binding) → o ≡ Some b → IsBinding b) → IsNumber (unwrap_or (option_map (λ b. b.number) o) (pos 0))
number_of_binding None h = (0, refl, omega arith)
number_of_binding (Some b) h = (h b refl).1

pub bound_number : (bindings : List Binding) (letter : ℕ) → All IsBinding bindings → IsNumber (value_of bindings letter)
bound_number bindings letter h =
    number_of_binding (find (λ b. b.letter == letter) (reverse bindings)) (λ b. found_in IsBinding (λ b. b.letter == letter) (reverse bindings) b (reversed_all IsBinding bindings h))

pub are_answered : (bindings : List Binding) (letters : List ℕ) → All IsLetter letters → All IsBinding bindings → All (λ letter. IsSome (number_of bindings letter)) letters → AreAnswered bindings letters
are_answered bindings letters lower_case in_range bound = λ k d l. (lower_case k d l, bound k d l, bound_number bindings (get_or letters k d) in_range)

-- what a pair of scripts is joined of, each part seen through a slice
pub are_joined : (letters letters_seen : List ℕ) (bindings namespace namespace_seen bindings_seen : List Binding) → All IsLetter letters → All IsBinding bindings
    → bindings_seen ≡ bindings → namespace_seen ≡ namespace → letters_seen ≡ letters → Agrees namespace bindings_seen
    → All (λ letter. IsSome (number_of namespace_seen letter)) letters_seen → AreJoined letters bindings namespace
are_joined letters letters_seen bindings namespace namespace_seen bindings_seen lower_case in_range e f g agrees bound =
    let F : List Binding → List ℕ → Type 0 = λ bs ls. All (λ letter. IsSome (number_of bs letter)) ls in
    let all : F namespace letters = subst (λ bs. F bs letters) f (subst (F namespace_seen) g bound) in
    let same : Agrees namespace bindings = λ letter. agrees letter ∙ ap (λ bs. number_of bs letter) e in
    record { answered = are_answered bindings letters lower_case in_range (bound_same namespace bindings letters same all); agrees = same }

pub same_line : (m n : ℕ) → ◌≡◌ {A = Result PairScripts ScriptEnd} (Err (script_end.NotYet m)) (Err (script_end.NotYet n)) → m ≡ n
same_line m n e = cc
