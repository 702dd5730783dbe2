-- As many items as targets, or not.
use Rattle.std.proofs.Common.{◌≡◌, ◌∙◌, ◌==◌, ℕ, Bool, true, false, ap, sym, subst, List, length, reverse, codes, Result, Ok, Err, IfOk}
use Rattle.rp_base.specs.declared.ends.NoMemory.{NoMemory}
use Rattle.rp_base.specs.declared.exceptions.ExcKind.TheVariants as kind
use Rattle.rp_base.specs.declared.value.Value.{Value}
use Rattle.py_ast.specs.declared.program.Program.{Program}
use Rattle.py_store.specs.declared.cell.Cell.{Cell}
use Rattle.side_trees.specs.Trees.{bind}
use Rattle.language_rules.specs.AtOnce.{stated}
use Rattle.language_rules.specs.Draining.{counted}
use Rattle.language_rules.specs.Going.{RuleTree, fails}
use Rattle.language_rules.specs.Running.{runs}
use Rattle.language_rules.specs.States.{State}
use Rattle.eval_frames.specs.declared.frame.Frame.{Frame}
use Rattle.eval_frames.specs.declared.next.Next.{Next}
use Rattle.eval_frames.specs.Meaning.{Means, MeansOver, rest}

abbrev by_count : Bool → (List Value → RuleTree) → List Value → RuleTree
by_count b f items = elim b [ true ↦ f items | false ↦ fails kind.ValueError (codes "wrong number of values") ]

told : (found : Bool) (n m : ℕ) (items : List Value) → found ≡ (length items == m) → m ≡ n → found ≡ (length items == n)
told found n m items h e = h ∙ ap (λ (k : ℕ). length items == k) e

pub miscounted : (r : Result Next NoMemory) (stack : List Frame) (cells : List Cell) (texts : List Program) (found : Bool) (n m : ℕ) (as_lent items : List Value) (f : List Value → RuleTree) → found ≡ (length as_lent == m) → as_lent ≡ items → m ≡ n → found ≡ false
    → IfOk r (λ x. (stack : List Frame) → Means stack x (fails kind.ValueError (codes "wrong number of values")) stack)
    → IfOk r (λ x. (fixed : State) → MeansOver (stated fixed cells texts) (stated fixed cells texts) stack x (counted n f items) stack)
miscounted (Ok x) stack cells texts found n m as_lent items f h l e other means = λ fixed units printed.
    ap (λ (b : Bool). runs units (bind (by_count b f items) (rest (reverse stack))) (stated fixed cells texts) printed) (sym (told found n m items (h ∙ ap (λ (vs : List Value). length vs == m) l) e) ∙ other)
    ∙ ap (λ (t : RuleTree). runs units t (stated fixed cells texts) printed) (sym (means stack))
miscounted (Err y) stack cells texts found n m as_lent items f h l e other means = tt

pub well_counted : (r : Result Next NoMemory) (before now : List Frame) (cells cells' : List Cell) (texts : List Program) (found : Bool) (n m : ℕ) (as_lent items : List Value) (f : List Value → RuleTree) → found ≡ (length as_lent == m) → as_lent ≡ items → m ≡ n → found ≡ true
    → IfOk r (λ x. (fixed : State) → MeansOver (stated fixed cells texts) (stated fixed cells' texts) now x (f items) before)
    → IfOk r (λ x. (fixed : State) → MeansOver (stated fixed cells texts) (stated fixed cells' texts) now x (counted n f items) before)
well_counted r before now cells cells' texts found n m as_lent items f h l e same means =
    subst (λ (b : Bool). IfOk r (λ x. (fixed : State) → MeansOver (stated fixed cells texts) (stated fixed cells' texts) now x (by_count b f items) before))
    (sym same ∙ told found n m items (h ∙ ap (λ (vs : List Value). length vs == m) l) e) means
