-- One module of a list is asked, or takes a call.
use Rattle.std.proofs.Common.{◌≡◌, ℕ, Bool, List, map, set, slice_get, slice_set, Some, sym, ap, subst, ◌∙◌}
use Rattle.std.proofs.lemmas.List.{map-set}
use Rattle.std.proofs.lemmas.Option.{slice_get-map}
use Rattle.rp_base.specs.declared.plain.Plain.{Plain}
use Rattle.host_api.specs.declared.host.HostAnswer.{HostAnswer}
use Rattle.host_api.specs.declared.host.HostAnswer.TheVariants as answer
use Rattle.host_api.specs.Modules.{Rule, Module, module_of, HasTaken, HasAnswered, HasTakenAt, IsNameAt, SaysAt}

at_map : {X Y : Type 0} (f : X → Y) (xs : List X) (at : ℕ) (x : X) (y : Y) → slice_get xs at ≡ Some x → slice_get (map f xs) at ≡ Some y → f x ≡ y
at_map f xs at x y e h = let k = slice_get-map f xs at in let g = rw e at k in cc

abbrev seen : {X : Type 0} → (X → List ℕ) → (X → List ℕ → Bool) → (X → Rule) → (X → Plain) → X → Module
seen title functions rule state x = module_of (title x) (functions x) (rule x) (state x)

pub named : {X : Type 0} (title : X → List ℕ) (functions : X → List ℕ → Bool) (rule : X → Rule) (state : X → Plain) (xs : List X) (at : ℕ) (name : List ℕ) (x : X)
    → slice_get xs at ≡ Some x → name ≡ title x → IsNameAt (map (seen title functions rule state) xs) at name
named title functions rule state xs at name x e n =
    record { named = λ m h. n ∙ ap (λ (m : Module). m.name) (at_map (seen title functions rule state) xs at x m e h) }

pub says : {X : Type 0} (title : X → List ℕ) (functions : X → List ℕ → Bool) (rule : X → Rule) (state : X → Plain) (xs : List X) (at : ℕ) (func : List ℕ) (said : Bool) (x : X)
    → slice_get xs at ≡ Some x → said ≡ functions x func → SaysAt (map (seen title functions rule state) xs) at func said
says title functions rule state xs at func said x e n =
    record { says = λ m h. n ∙ ap (λ (m : Module). m.has func) (at_map (seen title functions rule state) xs at x m e h) }

pub taken : {X : Type 0} (title : X → List ℕ) (functions : X → List ℕ → Bool) (rule : X → Rule) (state : X → Plain) (xs : List X) (at : ℕ) (func : List ℕ) (args : List Plain) (given : HostAnswer) (x y : X)
    → slice_get xs at ≡ Some x → title y ≡ title x → functions y ≡ functions x → rule y ≡ rule x → HasTaken (rule x) (state x) func args given (state y)
    → HasTakenAt (map (seen title functions rule state) xs) at func args given (map (seen title functions rule state) (set xs at y))
taken {X} title functions rule state xs at func args given x y e t f r h = record { taken = there }
  where
    see : X → Module
    see = seen title functions rule state

    moved : (s : Plain) → state y ≡ s → see y ≡ module_of (title x) (functions x) (rule x) s
    moved s j = λ i. module_of (t i) (f i) (r i) (j i)

    answered : (given : HostAnswer) → rule x (state x) func args ≡ (given, state y)
        → (((see x).rule (see x).state func args).0 ≡ given) × (see y ≡ record (see x) { state = ((see x).rule (see x).state func args).1 })
    answered given h = (
      ap (λ (p : HostAnswer × Plain). p.0) h,
      moved ((rule x (state x) func args).1) (sym (ap (λ (p : HostAnswer × Plain). p.1) h)),
    )

    by : (given : HostAnswer) → HasTaken (rule x) (state x) func args given (state y) → HasAnswered (see x) func args given (see y)
    by answer.NoMemory h = moved (state x) h
    by (answer.Value p) h = answered (answer.Value p) h
    by (answer.Raise z) h = answered (answer.Raise z) h

    there : (m : Module) → slice_get (map see xs) at ≡ Some m → (next : Module) × (map see (set xs at y) ≡ slice_set (map see xs) at next) × HasAnswered m func args given next
    there m k =
        let P : Module → Type 0 = λ m. HasAnswered m func args given (see y) in
        (see y, map-set see xs at y, subst P (at_map see xs at x m e k) (by given h))
