-- The beginning of a call, and what waits for the end of its body.
use Rattle.std.specs.Prelude.{ℕ, Bool, List, Some, if◌then◌else◌}
use Rattle.rp_base.specs.declared.value.Value.{Value}
use Rattle.py_ast.specs.declared.program.FunctionInfo.{FunctionInfo}
use Rattle.py_store.specs.declared.cell.Cell.TheVariants as cell
use Rattle.side_trees.specs.Trees.{bind}
use Rattle.language_rules.specs.Functions.{ends_call, parameters_bound, runs_body}
use Rattle.language_rules.specs.Going.{RuleTree, makes}
use Rattle.eval_frames.specs.declared.frame.Frame.{Frame}
use Rattle.eval_frames.specs.declared.frame.Frame.TheVariants as frame

-- by whether a function stands inside the one that is called
abbrev pub waits_for_end : Bool → ℕ → ℕ → Frame
waits_for_end has_inner scope parent = if has_inner then frame.Call else frame.EmptiedCall scope parent

-- a call with as many arguments as parameters
abbrev pub begins_call : ℕ → ℕ → ℕ → List Value → FunctionInfo → RuleTree
begins_call text function parent arguments info =
    makes (cell.Scope (parameters_bound info.parameters arguments) parent) (λ scope.
    bind (runs_body (record { text = text; function = Some function; scope = scope }) info.body) (ends_call info scope parent))
