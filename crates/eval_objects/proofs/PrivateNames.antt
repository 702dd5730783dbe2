-- Names that begin with two underscores.
use Rattle.std.proofs.Common.{◌≡◌, ◌==◌, ◌&&◌, ℕ, Bool, true, false, List, [], ◌∷◌, codes, refl, ◌∙◌, ap, arith}
use Rattle.std.specs.List.{starts_with}
use Rattle.language_rules.specs.TextFunctions.{begins_with}

turned : (a b : ℕ) → (a == b) ≡ (b == a)
turned a b = grind arith

pub begins_so : (name : List ℕ) → starts_with (λ a b. a == b) name (codes "__") ≡ begins_with name (codes "__")
begins_so [] = refl
begins_so (a ∷ []) = ap (λ (x : Bool). x && false) (turned 95 a)
begins_so (a ∷ b ∷ cs) = ap (λ (x : Bool). x && ((95 == b) && true)) (turned 95 a) ∙ ap (λ (y : Bool). (a == 95) && (y && true)) (turned 95 b)
