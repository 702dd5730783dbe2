-- A value that is gone over, by its kind.
use Rattle.std.proofs.Common.{◌≡◌, ◌∙◌, List, Bool, true, Option, Result, Ok, Err, IfOk, sym, subst}
use Rattle.rp_base.specs.declared.ends.NoMemory.{NoMemory}
use Rattle.rp_base.specs.declared.identity.Kind.{Kind}
use Rattle.rp_base.specs.declared.value.Value.{Value}
use Rattle.py_ast.specs.declared.program.Program.{Program}
use Rattle.py_store.specs.declared.cell.Cell.{Cell}
use Rattle.language_rules.specs.AtOnce.{stated}
use Rattle.language_rules.specs.Codes.{AList}
use Rattle.language_rules.specs.Draining.{drains_kind, goes_over}
use Rattle.language_rules.specs.Going.{RuleTree}
use Rattle.language_rules.specs.Kinds.{kind_of, on_kind}
use Rattle.language_rules.specs.States.{State}
use Rattle.eval_exprs.proofs.Moving.{means_as}
use Rattle.eval_exprs.proofs.Objects.{drains_over}
use Rattle.eval_exprs.specs.Steps.{is_gone_over}
use Rattle.eval_frames.specs.declared.frame.Frame.{Frame}
use Rattle.eval_frames.specs.declared.next.Next.{Next}
use Rattle.eval_frames.specs.Meaning.{Means, MeansIn}
use Rattle.eval_ranges.proofs.SpecialLemmas.{in_state, of_kind}

abbrev IsKind : List Cell → Value → Option Kind → Type 0
IsKind cells v k = (fixed : State) (texts : List Program) → k ≡ kind_of (stated fixed cells texts) v

abbrev pub drains_by : (List Value → RuleTree) → Value → Option Kind → RuleTree
drains_by f v = drains_kind (goes_over AList v f)

on_kinds : (cells : List Cell) (v : Value) (f : Option Kind → RuleTree) (k : Option Kind) (r : Result Next NoMemory) (now before : List Frame)
    → ((fixed : State) (texts : List Program) → k ≡ kind_of (stated fixed cells texts) v) → IfOk r (λ n. Means now n (f k) before)
    → IfOk r (λ n. (fixed : State) (texts : List Program) → MeansIn (stated fixed cells texts) now n (on_kind v f) before)
on_kinds cells v f k (Ok n) now before is h = λ fixed texts. of_kind v f k n (stated fixed cells texts) now before (is fixed texts) (in_state (stated fixed cells texts) (f k) n now before h)
on_kinds cells v f k (Err e) now before is h = h

pub gone_over : (cells : List Cell) (v w : Value) (f : List Value → RuleTree) (k : Option Kind) (b : Bool) (r : Result Next NoMemory) (now before : List Frame) → IsKind cells v k → b ≡ is_gone_over k → b ≡ true → w ≡ v
    → IfOk r (λ n. Means now n (goes_over AList w f) before)
    → IfOk r (λ n. (fixed : State) (texts : List Program) → MeansIn (stated fixed cells texts) now n (on_kind v (drains_by f v)) before)
gone_over cells v w f k b r now before is told over copied h =
    on_kinds cells v (drains_by f v) k r now before is
    (means_as r now before (goes_over AList v f) (drains_by f v k) (sym (drains_over (goes_over AList v f) k (sym told ∙ over)))
    (subst (λ (x : Value). IfOk r (λ n. Means now n (goes_over AList x f) before)) copied h))

pub not_gone_over : (cells : List Cell) (v : Value) (f : List Value → RuleTree) (k : Option Kind) (r : Result Next NoMemory) (stack : List Frame) → IsKind cells v k
    → IfOk r (λ n. (over : RuleTree) (stack : List Frame) → Means stack n (drains_kind over k) stack)
    → IfOk r (λ n. (fixed : State) (texts : List Program) → MeansIn (stated fixed cells texts) stack n (on_kind v (drains_by f v)) stack)
not_gone_over cells v f k (Ok n) stack is h = on_kinds cells v (drains_by f v) k (Ok n) stack stack is (h (goes_over AList v f) stack)
not_gone_over cells v f k (Err e) stack is h = h
