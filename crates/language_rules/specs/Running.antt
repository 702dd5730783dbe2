-- How far a side gets by itself, with the bytes that it has printed.
use Rattle.std.specs.Prelude.{◌≡◌, ℕ, List, ◌++◌}
use Rattle.std.specs.Bool.{⊤}
use Rattle.rp_base.specs.declared.exceptions.Beyond.{Beyond}
use Rattle.object_operations.specs.declared.operation.Operation.{Operation}
use Rattle.side_trees.specs.SharedRun.{A}
use Rattle.side_trees.specs.Trees.{Ended, Done, Asked, Stopped, NoFuel, run}
use Rattle.language_rules.specs.Codes.{Code, Completion}
use Rattle.language_rules.specs.Going.{RuleTree}
use Rattle.language_rules.specs.OneInterpreter.{ScriptCourse, EndsDone, EndsOutOfFuel, EndsBeyond, end_of_script, run_end, units_left, output}
use Rattle.language_rules.specs.Rules.{expand}
use Rattle.language_rules.specs.States.{State}

abbrev pub ScriptEnd : Type 0
ScriptEnd = Ended Code State Operation Completion Beyond (List ℕ) (List ℕ)

-- a piece that is printed goes behind the others
abbrev pub prints_behind : List ℕ → List ℕ → List ℕ
prints_behind piece printed = printed ++ piece

-- the run of a computation, within so many units, from this state and with these bytes printed before
abbrev pub runs : ℕ → RuleTree → State → List ℕ → ScriptEnd
runs u t s printed = run expand prints_behind u t s printed

-- A run of the one interpreter is this run of one side: its end, what it printed, and the units left. A side that asks the other is no run by itself, and nothing is told of it.
abbrev pub IsRunOfOne : ScriptCourse → ScriptEnd → Type 0
IsRunOfOne c (Done a s u printed) = (run_end c ≡ end_of_script A a EndsDone) × (output A c ≡ printed) × (units_left c ≡ u)
IsRunOfOne c (Stopped b s u printed) = (run_end c ≡ EndsBeyond b) × (output A c ≡ printed) × (units_left c ≡ u)
IsRunOfOne c (NoFuel s printed) = (run_end c ≡ EndsOutOfFuel) × (output A c ≡ printed) × (units_left c ≡ 0)
IsRunOfOne c (Asked q k s u printed) = ⊤
