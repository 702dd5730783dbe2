-- Special operations on functions, and on what is no object, by their arguments.
use Rattle.std.proofs.Common.{◌≡◌, ◌<◌, ◌≤◌, ℕ, List, [], ◌∷◌, length, reverse, Result, Ok, Err, IfOk, refl, sym, ◌∙◌, ap, arith}
use Rattle.rp_base.specs.declared.ends.NoMemory.{NoMemory}
use Rattle.rp_base.specs.declared.value.Value.{Value}
use Rattle.object_operations.specs.declared.special.Special.{Special}
use Rattle.object_operations.specs.declared.special.Special.TheVariants as special
use Rattle.py_store.specs.declared.cell.Cell.TheVariants as cell
use Rattle.side_trees.specs.Trees.{bind}
use Rattle.language_rules.specs.Going.{RuleTree}
use Rattle.language_rules.specs.Perform.{special_of_cell, special_of_plain}
use Rattle.language_rules.specs.PlainItems.{no_items}
use Rattle.eval_frames.specs.declared.frame.Frame.{Frame}
use Rattle.eval_frames.specs.declared.next.Next.{Next}
use Rattle.eval_frames.specs.Meaning.{Means, rest}

-- ---- how many arguments there are

one_long : (P : List Value → Type 0) → ((x : Value) → P (x ∷ [])) → (vs : List Value) → 1 ≤ length vs → length vs < 2 → P vs
one_long P h [] l b = absurd (omega (arith, l))
one_long P h (v ∷ []) l b = h v
one_long P h (v ∷ w ∷ vs) l b = absurd (omega (arith, b))

two_long : (P : List Value → Type 0) → ((x y : Value) → P (x ∷ y ∷ [])) → (vs : List Value) → 2 ≤ length vs → length vs < 3 → P vs
two_long P h [] l b = absurd (omega (arith, l))
two_long P h (v ∷ []) l b = absurd (omega (arith, l))
two_long P h (v ∷ w ∷ []) l b = h v w
two_long P h (v ∷ w ∷ x ∷ vs) l b = absurd (omega (arith, b))

-- ---- by the operation

told : (rule : Special → RuleTree) (operator as_told : Special) (t : RuleTree) (n : Next) (stack : List Frame) → operator ≡ as_told → rule as_told ≡ t → Means stack n t stack → Means stack n (rule operator) stack
told rule operator as_told t n stack is so h = h ∙ ap (λ (x : RuleTree). bind x (rest (reverse stack))) (sym (ap rule is ∙ so))

-- what every function answers without arguments, with one, and with two
pub alone : (operator as_told : Special) (t : RuleTree) (r : Result Next NoMemory) → operator ≡ as_told
    → ((number text function scope : ℕ) → special_of_cell as_told number [] (cell.Function text function scope) ≡ t)
    → IfOk r (λ n. (stack : List Frame) → Means stack n t stack)
    → IfOk r (λ n. (number text function scope : ℕ) (stack : List Frame) → Means stack n (special_of_cell operator number [] (cell.Function text function scope)) stack)
alone operator as_told t (Ok n) is so h = λ number text function scope stack.
    told (λ s. special_of_cell s number [] (cell.Function text function scope)) operator as_told t n stack is (so number text function scope) (h stack)
alone operator as_told t (Err e) is so h = h

pub with_one : (operator as_told : Special) (t : RuleTree) (r : Result Next NoMemory) → operator ≡ as_told
    → ((number text function scope : ℕ) (v : Value) → special_of_cell as_told number (v ∷ []) (cell.Function text function scope) ≡ t)
    → IfOk r (λ n. (stack : List Frame) → Means stack n t stack)
    → IfOk r (λ n. (number text function scope : ℕ) (v : Value) (stack : List Frame) → Means stack n (special_of_cell operator number (v ∷ []) (cell.Function text function scope)) stack)
with_one operator as_told t (Ok n) is so h = λ number text function scope v stack.
    told (λ s. special_of_cell s number (v ∷ []) (cell.Function text function scope)) operator as_told t n stack is (so number text function scope v) (h stack)
with_one operator as_told t (Err e) is so h = h

pub with_two : (operator as_told : Special) (t : RuleTree) (r : Result Next NoMemory) → operator ≡ as_told
    → ((number text function scope : ℕ) (v w : Value) → special_of_cell as_told number (v ∷ w ∷ []) (cell.Function text function scope) ≡ t)
    → IfOk r (λ n. (stack : List Frame) → Means stack n t stack)
    → IfOk r (λ n. (number text function scope : ℕ) (v w : Value) (stack : List Frame) → Means stack n (special_of_cell operator number (v ∷ w ∷ []) (cell.Function text function scope)) stack)
with_two operator as_told t (Ok n) is so h = λ number text function scope v w stack.
    told (λ s. special_of_cell s number (v ∷ w ∷ []) (cell.Function text function scope)) operator as_told t n stack is (so number text function scope v w) (h stack)
with_two operator as_told t (Err e) is so h = h

-- ---- functions, with arguments that are as many

pub of_one : (operator : Special) (vs : List Value) (r : Result Next NoMemory) → 1 ≤ length vs → length vs < 2
    → IfOk r (λ n. (number text function scope : ℕ) (v : Value) (stack : List Frame) → Means stack n (special_of_cell operator number (v ∷ []) (cell.Function text function scope)) stack)
    → IfOk r (λ n. (number text function scope : ℕ) (stack : List Frame) → Means stack n (special_of_cell operator number vs (cell.Function text function scope)) stack)
of_one operator vs (Ok n) l b h = λ number text function scope stack.
    one_long (λ ws. Means stack n (special_of_cell operator number ws (cell.Function text function scope)) stack) (λ v. h number text function scope v stack) vs l b
of_one operator vs (Err e) l b h = h

pub of_two : (operator : Special) (vs : List Value) (r : Result Next NoMemory) → 2 ≤ length vs → length vs < 3
    → IfOk r (λ n. (number text function scope : ℕ) (v w : Value) (stack : List Frame) → Means stack n (special_of_cell operator number (v ∷ w ∷ []) (cell.Function text function scope)) stack)
    → IfOk r (λ n. (number text function scope : ℕ) (stack : List Frame) → Means stack n (special_of_cell operator number vs (cell.Function text function scope)) stack)
of_two operator vs (Ok n) l b h = λ number text function scope stack.
    two_long (λ ws. Means stack n (special_of_cell operator number ws (cell.Function text function scope)) stack) (λ v w. h number text function scope v w stack) vs l b
of_two operator vs (Err e) l b h = h

-- ---- what is no object has no items

pub item_set : (operator : Special) (receiver : Value) (vs : List Value) (r : Result Next NoMemory) → operator ≡ special.SetItem → 2 ≤ length vs → length vs < 3
    → IfOk r (λ n. (stack : List Frame) → Means stack n no_items stack) → IfOk r (λ n. (stack : List Frame) → Means stack n (special_of_plain operator receiver vs) stack)
item_set operator receiver vs (Ok n) is l b h = λ stack.
    told (λ s. special_of_plain s receiver vs) operator special.SetItem no_items n stack is (two_long (λ ws. special_of_plain special.SetItem receiver ws ≡ no_items) (λ v w. refl) vs l b) (h stack)
item_set operator receiver vs (Err e) is l b h = h

pub item_deleted : (operator : Special) (receiver : Value) (vs : List Value) (r : Result Next NoMemory) → operator ≡ special.DelItem → 1 ≤ length vs → length vs < 2
    → IfOk r (λ n. (stack : List Frame) → Means stack n no_items stack) → IfOk r (λ n. (stack : List Frame) → Means stack n (special_of_plain operator receiver vs) stack)
item_deleted operator receiver vs (Ok n) is l b h = λ stack.
    told (λ s. special_of_plain s receiver vs) operator special.DelItem no_items n stack is (one_long (λ ws. special_of_plain special.DelItem receiver ws ≡ no_items) (λ v. refl) vs l b) (h stack)
item_deleted operator receiver vs (Err e) is l b h = h
