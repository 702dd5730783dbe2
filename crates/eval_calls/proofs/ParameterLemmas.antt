-- Parameters that are bound, one after another.
use Rattle.std.proofs.Common.{◌≡◌, ◌+◌, ◌<◌, ℕ, List, [], ◌∷◌, ◌++◌, drop, get_or, length, sym, ◌∙◌, ap}
use Rattle.std.proofs.lemmas.List.{append_assoc, append-nil, drop_more}
use Rattle.rp_base.specs.declared.value.Value.{Value}
use Rattle.py_ast.specs.declared.name.Name.{Name}
use Rattle.py_store.specs.declared.cell.Binding.{Binding}
use Rattle.language_rules.specs.Functions.{parameters_bound}

-- the parameters before this place are bound
abbrev pub IsBound : List Name → List Value → List Binding → ℕ → Type 0
IsBound ps vs names i = parameters_bound ps vs ≡ names ++ parameters_bound (drop i ps) (drop i vs)

pub one_bound : (ps : List Name) (vs : List Value) (names : List Binding) (i : ℕ) (p : Name) (v : Value)
    → i < length ps → i < length vs → get_or ps i p ≡ p → get_or vs i v ≡ v → IsBound ps vs names i
    → IsBound ps vs (names ++ record { name = p.text; value = v } ∷ []) (i + 1)
one_bound ps vs names i p v h g is-p is-v so-far =
    so-far
    ∙ ap (λ (qs : List Name). names ++ parameters_bound qs (drop i vs)) (drop_more ps i p h ∙ ap (λ (q : Name). q ∷ drop (i + 1) ps) is-p)
    ∙ ap (λ (ws : List Value). names ++ parameters_bound (p ∷ drop (i + 1) ps) ws) (drop_more vs i v g ∙ ap (λ (w : Value). w ∷ drop (i + 1) vs) is-v)
    ∙ sym (append_assoc names (record { name = p.text; value = v } ∷ []) (parameters_bound (drop (i + 1) ps) (drop (i + 1) vs)))

pub all_bound : (ps : List Name) (vs : List Value) (names : List Binding) (i : ℕ) → drop i ps ≡ [] → IsBound ps vs names i → names ≡ parameters_bound ps vs
all_bound ps vs names i none so-far =
    sym (so-far ∙ ap (λ (qs : List Name). names ++ parameters_bound qs (drop i vs)) none ∙ append-nil names)
