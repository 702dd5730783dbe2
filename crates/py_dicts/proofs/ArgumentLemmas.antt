-- Operations by their arguments.
use Rattle.std.proofs.Common.{◌≡◌, ℕ, ◌<◌, ◌≤◌, slice_index_or, List, [], ◌∷◌, length, Result, refl, sym, ◌∙◌, ap, subst, arith}
use Rattle.rp_base.specs.declared.ends.OpEnd.{OpEnd}
use Rattle.rp_base.specs.declared.value.Value.{Value}
use Rattle.object_operations.specs.declared.method.BuiltinMethod.{BuiltinMethod}
use Rattle.object_operations.specs.declared.special.Special.{Special}
use Rattle.py_store.specs.declared.cell.Cell.{Cell}
use Rattle.py_store.specs.EntryLists.{EntryList}
use Rattle.language_rules.specs.AtOnce.{Comes}
use Rattle.language_rules.specs.DictMethods.{dict_method}
use Rattle.language_rules.specs.Perform.{special_of_cell}
use Rattle.language_rules.specs.States.{State}

pub none_left : (vs : List Value) → length vs < 1 → vs ≡ []
none_left [] l = refl
none_left (v ∷ vs) l = absurd (omega (arith, l))

pub one_left : (vs : List Value) (x : Value) → 1 ≤ length vs → length vs < 2 → x ≡ slice_index_or vs 0 x → vs ≡ x ∷ []
one_left [] x l b k = absurd (omega (arith, l))
one_left (v ∷ []) x l b k = ap (λ (a : Value). a ∷ []) (sym k)
one_left (v ∷ w ∷ vs) x l b k = absurd (omega (arith, b))

pub two_left : (vs : List Value) (x y : Value) → 2 ≤ length vs → length vs < 3 → x ≡ slice_index_or vs 0 x → y ≡ slice_index_or vs 1 y → vs ≡ x ∷ y ∷ []
two_left [] x y l b k m = absurd (omega (arith, l))
two_left (v ∷ []) x y l b k m = absurd (omega (arith, l))
two_left (v ∷ w ∷ []) x y l b k m = ap (λ (a : Value). a ∷ w ∷ []) (sym k) ∙ ap (λ (a : Value). x ∷ a ∷ []) (sym m)
two_left (v ∷ w ∷ z ∷ vs) x y l b k m = absurd (omega (arith, b))

pub special_over : (o p : Special) (vs ws : List Value) (n : ℕ) (s : State) (c : Cell) (answer : Result Value OpEnd)
    → o ≡ p → vs ≡ ws → Comes (special_of_cell p n ws c) s answer s s → Comes (special_of_cell o n vs c) s answer s s
special_over o p vs ws n s c answer h k e =
    subst (λ (zs : List Value). Comes (special_of_cell o n zs c) s answer s s) (sym k) (subst (λ (z : Special). Comes (special_of_cell z n ws c) s answer s s) (sym h) e)

pub method_over : (o p : BuiltinMethod) (vs ws : List Value) (n : ℕ) (entries : EntryList) (shape : ℕ) (s now : State) (answer : Result Value OpEnd)
    → o ≡ p → vs ≡ ws → Comes (dict_method n entries shape p ws) s answer now s → Comes (dict_method n entries shape o vs) s answer now s
method_over o p vs ws n entries shape s now answer h k e =
    subst (λ (zs : List Value). Comes (dict_method n entries shape o zs) s answer now s) (sym k) (subst (λ (z : BuiltinMethod). Comes (dict_method n entries shape z ws) s answer now s) (sym h) e)
