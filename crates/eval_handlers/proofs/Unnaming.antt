-- The innermost exception that has a name leaves it unbound.
use Rattle.std.proofs.Common.{◌≡◌, ◌+◌, ◌-◌, ◌<◌, ◌≤◌, ℕ, suc, arith, Bool, true, false, List, [], ◌∷◌, ◌++◌, drop, get_or, length, reverse, set, take, Some, if◌then◌else◌, sym, ◌∙◌, ap, subst}
use Rattle.std.proofs.lemmas.List.{append_assoc, reverse-append, take_more, set_split}
use Rattle.std.proofs.lemmas.Option.{get_or_from_slice_get}
use Rattle.language_rules.specs.Codes.{Env}
use Rattle.language_rules.specs.Handlers.{is_named, unbinds}
use Rattle.language_rules.specs.States.{Handling}
use Rattle.eval_handlers.specs.Unbinding.{IsLastNamed}

abbrev unnamed : Handling → Handling
unnamed h = record h { bound = false }

-- what an exception leaves, and those around it
abbrev leaves : Env → List ℕ → Handling → List Handling → Bool → List Handling
leaves env name h hs b = if b then unnamed h ∷ hs else h ∷ unbinds env name hs

-- behind a place none has the name
abbrev pub NoneBehind : Env → List ℕ → List Handling → ℕ → Type 0
NoneBehind env name hs at = unbinds env name (reverse hs) ≡ reverse (drop at hs) ++ unbinds env name (reverse (take at hs))

-- the exception at a place is looked at, behind which none has the name
looked : (env : Env) (name : List ℕ) (hs : List Handling) (at : ℕ) (h : Handling) (b : Bool)
    → NoneBehind env name hs (at + 1) → at < length hs → h ≡ get_or hs at h → b ≡ is_named env name h
    → unbinds env name (reverse hs) ≡ reverse (drop (at + 1) hs) ++ leaves env name h (reverse (take at hs)) b
looked env name hs at h b none-behind is-in read told =
    none-behind
    ∙ ap (λ (l : List Handling). reverse (drop (at + 1) hs) ++ unbinds env name (reverse l)) (take_more hs at h is-in ∙ ap (λ (x : Handling). take at hs ++ x ∷ []) (sym read))
    ∙ ap (λ (l : List Handling). reverse (drop (at + 1) hs) ++ unbinds env name l) (reverse-append (take at hs) (h ∷ []))
    ∙ ap (λ (x : Bool). reverse (drop (at + 1) hs) ++ leaves env name h (reverse (take at hs)) x) (sym told)

turned : (front behind : List Handling) (h : Handling) → reverse (front ++ h ∷ behind) ≡ reverse behind ++ h ∷ reverse front
turned front behind h =
    reverse-append front (h ∷ behind)
    ∙ ap (λ (l : List Handling). l ++ reverse front) (reverse-append (h ∷ []) behind)
    ∙ append_assoc (reverse behind) (h ∷ []) (reverse front)

next : (n : ℕ) → suc n ≡ n + 1
next n = omega arith

last_found : (env : Env) (name : List ℕ) (hs : List Handling) (at : ℕ) (h : Handling)
    → NoneBehind env name hs (at + 1) → at < length hs → h ≡ get_or hs at h → true ≡ is_named env name h → IsLastNamed env name hs (Some at)
last_found env name hs at h none-behind is-in read told = (
  is-in,
  λ g is.
      let same : g ≡ h = sym (get_or_from_slice_get hs at g h is) ∙ sym read in
      ap (λ (x : Handling). reverse (set hs at (unnamed x))) same
      ∙ ap (λ (l : List Handling). reverse l) (set_split hs at (unnamed h) is-in ∙ ap (λ (n : ℕ). take at hs ++ unnamed h ∷ drop n hs) (next at))
      ∙ turned (take at hs) (drop (at + 1) hs) (unnamed h)
      ∙ sym (looked env name hs at h true none-behind is-in read told),
)

pub last_found_below : (env : Env) (name : List ℕ) (hs : List Handling) (at : ℕ) (h : Handling)
    → at ≤ length hs → NoneBehind env name hs at → 0 < at → h ≡ get_or hs (at - 1) h → true ≡ is_named env name h → IsLastNamed env name hs (Some (at - 1))
last_found_below env name hs at h most none-behind some read told =
    let same : at ≡ (at - 1) + 1 = omega arith in
    let is-in : at - 1 < length hs = omega arith in
    last_found env name hs (at - 1) h (subst (NoneBehind env name hs) same none-behind) is-in read told
