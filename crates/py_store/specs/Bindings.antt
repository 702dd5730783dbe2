-- Names with their values, in the order in which the names came.
use Rattle.std.specs.Prelude.{ℕ, List, [], ◌∷◌, Option, Some, None, position, if◌then◌else◌}
use Rattle.std.specs.Str.{bytes_eq}
use Rattle.rp_base.specs.declared.value.Value.{Value}
use Rattle.py_store.specs.declared.cell.Binding.{Binding}

-- the place of the name
abbrev pub binding_place : List ℕ → List Binding → Option ℕ
binding_place name bindings = position (λ b. bytes_eq name b.name) bindings

-- the value that the name is bound to
abbrev pub bound_value : List ℕ → List Binding → Option Value
bound_value name [] = None
bound_value name (b ∷ bs) = if bytes_eq name b.name then Some b.value else bound_value name bs

-- a bound name keeps its place, and a new one goes last
abbrev pub with_binding : List ℕ → Value → List Binding → List Binding
with_binding name value [] = record { name = name; value = value } ∷ []
with_binding name value (b ∷ bs) = if bytes_eq name b.name then record b { value = value } ∷ bs else b ∷ with_binding name value bs

-- the others keep their order
abbrev pub without_binding : List ℕ → List Binding → List Binding
without_binding name [] = []
without_binding name (b ∷ bs) = if bytes_eq name b.name then bs else b ∷ without_binding name bs
