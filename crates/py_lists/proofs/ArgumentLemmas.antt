-- Operations that only read, by their arguments.
use Rattle.std.proofs.Common.{◌≡◌, ℕ, ◌<◌, ◌≤◌, slice_index_or, List, [], ◌∷◌, length, Result, refl, sym, subst, arith}
use Rattle.rp_base.specs.declared.ends.OpEnd.{OpEnd}
use Rattle.rp_base.specs.declared.value.Value.{Value}
use Rattle.object_operations.specs.declared.special.Special.{Special}
use Rattle.object_operations.specs.declared.special.Special.TheVariants as special
use Rattle.py_store.specs.declared.cell.Cell.{Cell}
use Rattle.language_rules.specs.AtOnce.{Comes}
use Rattle.language_rules.specs.Perform.{special_of_cell}
use Rattle.language_rules.specs.States.{State}
use Rattle.py_lists.specs.Lists.{IsReading}

pub no_arguments_of_len : (o : Special) (vs : List Value) → o ≡ special.Len → IsReading o vs → vs ≡ []
no_arguments_of_len o [] h r = refl
no_arguments_of_len o (v ∷ vs) h r = absurd (subst (λ (z : Special). IsReading z (v ∷ vs)) h r)

pub no_arguments_of_bool : (o : Special) (vs : List Value) → o ≡ special.Bool → IsReading o vs → vs ≡ []
no_arguments_of_bool o [] h r = refl
no_arguments_of_bool o (v ∷ vs) h r = absurd (subst (λ (z : Special). IsReading z (v ∷ vs)) h r)

pub without : (o p : Special) (vs : List Value) (n : ℕ) (s : State) (c : Cell) (answer : Result Value OpEnd) → o ≡ p → vs ≡ [] → Comes (special_of_cell p n [] c) s answer s s → Comes (special_of_cell o n vs c) s answer s s
without o p vs n s c answer h k e = subst (λ (ws : List Value). Comes (special_of_cell o n ws c) s answer s s) (sym k) (subst (λ (z : Special). Comes (special_of_cell z n [] c) s answer s s) (sym h) e)

pub with_one : (o p : Special) (vs : List Value) (x : Value) (n : ℕ) (s : State) (c : Cell) (answer : Result Value OpEnd) → o ≡ p → 1 ≤ length vs → length vs < 2 → x ≡ slice_index_or vs 0 x → Comes (special_of_cell p n (x ∷ []) c) s answer s s → Comes (special_of_cell o n vs c) s answer s s
with_one o p [] x n s c answer h l b k e = absurd (omega (arith, l))
with_one o p (v ∷ []) x n s c answer h l b k e = subst (λ (y : Value). Comes (special_of_cell o n (y ∷ []) c) s answer s s) k (subst (λ (z : Special). Comes (special_of_cell z n (x ∷ []) c) s answer s s) (sym h) e)
with_one o p (v ∷ w ∷ vs) x n s c answer h l b k e = absurd (omega (arith, b))
