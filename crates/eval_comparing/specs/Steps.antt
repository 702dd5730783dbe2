-- What comes next in more states than one, and how much is added.
use Rattle.std.specs.Prelude.{◌+◌, ◌*◌, ◌≤◌, Bool, true, false, List, length}
use Rattle.rp_base.specs.declared.plain.Plain.TheVariants as plain
use Rattle.rp_base.specs.declared.value.Value.TheVariants as value
use Rattle.py_ast.specs.declared.program.Program.{Program}
use Rattle.py_store.specs.declared.cell.Cell.{Cell}
use Rattle.language_rules.specs.AtOnce.{stated}
use Rattle.language_rules.specs.Codes.{Completion, Gives}
use Rattle.language_rules.specs.Going.{RuleTree}
use Rattle.language_rules.specs.States.{State}
use Rattle.eval_frames.specs.declared.frame.Frame.{Frame}
use Rattle.eval_frames.specs.declared.next.Next.{Next}
use Rattle.eval_frames.specs.Meaning.{MeansIn, load}

-- what comes next in every state with these cells, whatever its texts
abbrev pub MeansAt : List Cell → List Frame → Next → RuleTree → List Frame → Type 0
MeansAt cells now n t before = (fixed : State) (texts : List Program) → MeansIn (stated fixed cells texts) now n t before

-- what comes next in every state
abbrev pub MeansAnywhere : List Frame → Next → RuleTree → List Frame → Type 0
MeansAnywhere now n t before = (s : State) → MeansIn s now n t before

-- so little is added that a frame may still be pushed before
abbrev pub IsSlight : List Frame → Next → List Frame → Type 0
IsSlight now n before = load now n ≤ 3 * length before + 9

-- whether an operand answers that it is not compared with the other one
abbrev pub is_not_implemented : Completion → Bool
is_not_implemented (Gives (value.Plain plain.NotImpl)) = true
is_not_implemented _ = false

-- no more is added than a frame
abbrev pub AddsFrame : List Frame → Next → List Frame → Type 0
AddsFrame now n before = load now n ≤ 3 * length before + 3
