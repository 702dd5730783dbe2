-- Entries of a dict display, put one after another.
use Rattle.std.proofs.Common.{◌≡◌, ◌∙◌, subst, Bool, true, false, List, [], ◌∷◌, ◌++◌, reverse, None}
use Rattle.rp_base.specs.declared.value.Value.{Value}
use Rattle.py_store.specs.EntryLists.{EntryList}
use Rattle.language_rules.specs.Displays.{entries_with}
use Rattle.eval_exprs.specs.Making.{IsPut}

pub goes_on : (items waiting rest left : List Value) (key : Value) (entries now : EntryList) (put : Bool) → waiting ≡ rest ++ key ∷ [] → entries_with [] items ≡ entries_with entries (reverse waiting)
    → ((before : List Value) → before ≡ rest ++ key ∷ [] → IsPut entries (reverse before) put now (reverse left)) → put ≡ true → entries_with [] items ≡ entries_with now (reverse left)
goes_on items waiting rest left key entries now put h invariant told e = invariant ∙ subst (λ (b : Bool). IsPut entries (reverse waiting) b now (reverse left)) e (told waiting h)

pub ends : (items waiting rest left : List Value) (key : Value) (entries now : EntryList) (put : Bool) → waiting ≡ rest ++ key ∷ [] → entries_with [] items ≡ entries_with entries (reverse waiting)
    → ((before : List Value) → before ≡ rest ++ key ∷ [] → IsPut entries (reverse before) put now (reverse left)) → put ≡ false → entries_with [] items ≡ None
ends items waiting rest left key entries now put h invariant told e = invariant ∙ subst (λ (b : Bool). IsPut entries (reverse waiting) b now (reverse left)) e (told waiting h)
