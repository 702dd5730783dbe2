-- Where no argument has a reference, most handlers have no object.
use Rattle.std.proofs.Common.{◌≡◌, false, List, [], ◌∷◌, map, refl}
use Rattle.rp_base.specs.declared.handlers.Handler.{Handler}
use Rattle.rp_base.specs.declared.handlers.Handler.TheVariants as handler
use Rattle.rp_base.specs.declared.plain.Plain.{Plain}
use Rattle.rp_base.specs.declared.value.Value.TheVariants as value
use Rattle.message_core.specs.Arguments.{arguments_fit}

pub no_object : (h : Handler) (ps : List Plain) → (h ≡ handler.Ping → ⊥) → (h ≡ handler.Close → ⊥) → (h ≡ handler.GetRoot → ⊥) → (h ≡ handler.Inspect → ⊥) → false ≡ arguments_fit h (map value.Plain ps)
no_object handler.Ping ps a b c d = absurd (a refl)
no_object handler.Close ps a b c d = absurd (b refl)
no_object handler.GetRoot ps a b c d = absurd (c refl)
no_object handler.Inspect ps a b c d = absurd (d refl)
no_object handler.GetAttr (o ∷ n ∷ []) a b c d = refl
no_object handler.DelAttr (o ∷ n ∷ []) a b c d = refl
no_object handler.SetAttr (o ∷ n ∷ v ∷ []) a b c d = refl
no_object handler.Call (o ∷ x ∷ k ∷ []) a b c d = refl
no_object handler.CallAttr (o ∷ n ∷ x ∷ k ∷ []) a b c d = refl
no_object handler.Repr (o ∷ []) a b c d = refl
no_object handler.Str (o ∷ []) a b c d = refl
no_object handler.Cmp (o ∷ x ∷ n ∷ []) a b c d = refl
no_object handler.Del (o ∷ n ∷ []) a b c d = refl
no_object h ps a b c d = refl
