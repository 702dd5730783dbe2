-- What is carried out at once, with its units, and what comes next behind it.
use Rattle.std.specs.Prelude.{◌≡◌, ◌+◌, ◌-◌, ◌*◌, ◌≤◌, ℕ, List, Bool, Option, Some, None, length, reverse, if◌then◌else◌}
use Rattle.std.specs.Bool.{⊤}
use Rattle.py_ast.specs.declared.program.Program.{Program}
use Rattle.py_store.specs.Cells.{Cells}
use Rattle.py_store.specs.declared.cell.Cell.{Cell}
use Rattle.side_trees.specs.Trees.{Return, bind}
use Rattle.language_rules.specs.AtOnce.{stated}
use Rattle.language_rules.specs.Beginnings.{while_begins}
use Rattle.language_rules.specs.Codes.{Completion, Env}
use Rattle.language_rules.specs.Going.{RuleTree, done, evaluates}
use Rattle.language_rules.specs.Loops.{next_turn}
use Rattle.language_rules.specs.Running.{runs}
use Rattle.language_rules.specs.States.{State}
use Rattle.language_rules.specs.Statements.{otherwise_rule}
use Rattle.language_rules.specs.Texts.{executes_suite}
use Rattle.language_rules.specs.Truth.{on_truth}
use Rattle.eval_frames.specs.declared.frame.Frame.{Frame}
use Rattle.eval_frames.specs.declared.next.Next.{Next}
use Rattle.eval_frames.specs.Meaning.{load, meant, rest}
use Rattle.eval_suites.specs.declared.testing.Tested.{Tested}

-- Over these cells a computation goes on as the other one does over those cells, with what was spent: whatever follows, and however many units more there are, no run tells the one from the other.
abbrev pub GoesOnAs : List Program → Cells → RuleTree → ℕ → Cells → RuleTree → Type 0
GoesOnAs texts before t spent after u = (fixed : State) (k : Completion → RuleTree) (more : ℕ) (printed : List ℕ) → runs (spent + more) (bind t k) (stated fixed before.cells texts) printed ≡ runs more (bind u k) (stated fixed after.cells texts) printed

-- the same, and the other is what comes next over the new stack
abbrev pub MeansWithin : List Program → Cells → RuleTree → List Frame → ℕ → Cells → Next → List Frame → Type 0
MeansWithin texts before t stack spent after n now = (fixed : State) (more : ℕ) (printed : List ℕ) → runs (spent + more) (bind t (rest (reverse stack))) (stated fixed before.cells texts) printed ≡ runs more (meant now n) (stated fixed after.cells texts) printed

-- the test of this number has this truth, which takes a unit at least; without a truth nothing is told
abbrev pub IsTested : List Cell → List Program → Env → ℕ → ℕ → Option Tested → Type 0
IsTested cells texts env test units (Some t) =
    ((fixed : State) (f : Bool → RuleTree) (k : Completion → RuleTree) (more : ℕ) (printed : List ℕ) → runs ((units - t.left) + more) (bind (evaluates env test (λ v. on_truth v f)) k) (stated fixed cells texts) printed ≡ runs more (bind (f t.holds) k) (stated fixed cells texts) printed)
    × (t.left + 1 ≤ units)
IsTested cells texts env test units None = ⊤

-- Little is to be done before a further unit is due, beyond what so many frames and units stand for.
abbrev pub IsWithin : ℕ → List Frame → ℕ → List Frame → Next → ℕ → Type 0
IsWithin more before units now n left = 20 * left + load now n ≤ 20 * units + 3 * length before + more

-- what the truth of a test chooses: of the suites of an `if`
abbrev pub chosen : Env → ℕ → Option ℕ → Bool → RuleTree
chosen env body otherwise holds = if holds then executes_suite env body else otherwise_rule env otherwise

-- and of a `while` its suite and the next turn, or its end
abbrev pub goes_round : Env → ℕ → ℕ → Bool → RuleTree
goes_round env test body holds = if holds then bind (executes_suite env body) (next_turn (while_begins env test body)) else Return done
