-- The value of an entry.
use Rattle.std.proofs.Common.{◌≡◌, Bool, true, false, cond, List, [], ◌∷◌, Option, Some, option_map, refl}
use Rattle.std.specs.Map.{lookup, lookup_entry}

first : {K X : Type 0} (b : Bool) (e : K × X) (vs : Option X) (r : Option (K × X)) → vs ≡ option_map (λ e. e.1) r → cond b (Some e.1) vs ≡ option_map (λ e. e.1) (cond b (Some e) r)
first true e vs r h = refl
first false e vs r h = h

pub value_of_entry : {K X : Type 0} (test : K → Bool) (es : List (K × X)) → lookup test es ≡ option_map (λ e. e.1) (lookup_entry test es)
value_of_entry test [] = refl
value_of_entry test (e ∷ es) = first (test e.0) e (lookup test es) (lookup_entry test es) (value_of_entry test es)
