-- Where an endpoint stands in the life of its script, and what a step of it answers.
use Rattle.std.specs.Prelude.{◌≡◌, ◌+◌, ◌≤◌, ℕ, [], List, Option, Some, None}
use Rattle.std.specs.Bool.{⊤}
use Rattle.py_ast.specs.declared.program.Program.{Program}
use Rattle.side_trees.specs.SharedRun.{A}
use Rattle.language_rules.specs.OneInterpreter.{EndsDone, end_of_script}
use Rattle.language_rules.specs.Running.{runs}
use Rattle.language_rules.specs.Starting.{Reader, first_state, text_of}
use Rattle.nested_serve.specs.declared.alone.AloneEnd.{AloneEnd}
use Rattle.nested_serve.specs.declared.alone.AloneEnd.TheVariants as end
use Rattle.nested_serve.specs.declared.alone.AloneRun.{AloneRun}
use Rattle.nested_serve.specs.declared.endpoint.Endpoint.{Endpoint}
use Rattle.nested_serve.specs.declared.endpoint.Role.{Role}
use Rattle.nested_serve.specs.declared.endpoint.StepEnd.{StepEnd}
use Rattle.nested_serve.specs.declared.endpoint.StepEnd.TheVariants as step
use Rattle.nested_serve.specs.declared.endpoint.TextEnd.{TextEnd}
use Rattle.nested_serve.specs.declared.endpoint.TextEnd.TheVariants as text_end
use Rattle.nested_serve.specs.declared.endpoint.Turn.{Turn}
use Rattle.nested_serve.specs.declared.endpoint.Turn.TheVariants as turn
use Rattle.nested_serve.specs.declared.machine.Halt.{Halt}
use Rattle.nested_serve.specs.declared.machine.Halt.TheVariants as halt
use Rattle.nested_serve.specs.declared.machine.Machine.{Machine}
use Rattle.nested_serve.specs.declared.running.Progress.{Progress}
use Rattle.nested_serve.specs.declared.running.Progress.TheVariants as progress
use Rattle.nested_serve.specs.Alone.{IsRunAlone, end_of_run}
use Rattle.nested_serve.specs.Machines.{ahead, course, printed_by}

-- ---- what is told of an endpoint

abbrev pub role_of : Endpoint → Role
role_of e = e.role

-- the bytes that it printed
abbrev pub output_of : Endpoint → List ℕ
output_of e = printed_by e.machine

-- the end of the text, where it has ended
abbrev pub end_at : Turn → Option TextEnd
end_at (turn.Ended e) = Some e
end_at _ = None

abbrev pub text_end_of : Endpoint → Option TextEnd
text_end_of e = end_at e.turn

-- what every further step answers; None while the text runs
abbrev pub answer_at : Turn → Option StepEnd
answer_at (turn.Next n) = None
answer_at (turn.Ended e) = Some step.Idle
answer_at turn.NoFuel = Some step.NoFuel
answer_at (turn.Beyond b) = Some (step.Beyond b)
answer_at turn.NoMemory = Some step.NoMemory

abbrev pub answer_of : Endpoint → Option StepEnd
answer_of e = answer_at e.turn

-- ---- where it stands

-- the end of a text, as a report tells it
abbrev pub told_end : TextEnd → AloneEnd
told_end text_end.Done = end.Done
told_end (text_end.Raised r) = end.Raised r

-- a run with this end and this machine's output, which spent so many units
abbrev pub run_over : AloneEnd → Machine → ℕ → AloneRun
run_over e m spent = record { end = e; printed = printed_by m; units = spent }

-- a run with this end and an endpoint's output, which spent so many units
abbrev pub run_of : AloneEnd → Endpoint → ℕ → AloneRun
run_of told e spent = run_over told e.machine spent

-- A machine of a script that spent so many units, and what it is about.
-- While the text runs: however many units more there are, the script's run with those spent and those more is what comes next, with those more.
-- Once it has ended, or left the subset: the script's run with those spent, and any more, has this end and this output, and spends just those.
-- Out of fuel: so does the script's run with just those that were spent. After want of memory nothing is told.
abbrev pub StandsAt : Program → ℕ → Machine → Turn → Type 0
StandsAt program spent m (turn.Next n) = (reader : Reader) (more : ℕ) → runs (spent + more) (text_of program) (first_state reader []) [] ≡ course (first_state reader []) m n more
StandsAt program spent m (turn.Ended e) = (more : ℕ) → IsRunAlone program (spent + more) (run_over (told_end e) m spent)
StandsAt program spent m turn.NoFuel = IsRunAlone program spent (run_over end.OutOfFuel m spent)
StandsAt program spent m (turn.Beyond b) = (more : ℕ) → IsRunAlone program (spent + more) (run_over (end.Beyond b) m spent)
StandsAt program spent m turn.NoMemory = ⊤

-- an endpoint of this script that spent so many units
abbrev pub IsAt : Program → ℕ → Endpoint → Type 0
IsAt program spent e = StandsAt program spent e.machine e.turn

-- ---- its steps

-- an upper bound of the steps until the text has ended, or nothing goes on any more
abbrev pub ahead_at : Machine → Turn → ℕ → ℕ
ahead_at m (turn.Next n) units = ahead m n units + 1
ahead_at m _ units = 0

abbrev pub ahead_of : Endpoint → ℕ → ℕ
ahead_of e units = ahead_at e.machine e.turn units

-- the text runs, or has ended
abbrev pub IsOnOrEnded : Option StepEnd → Type 0
IsOnOrEnded None = ⊤
IsOnOrEnded (Some step.Idle) = ⊤
IsOnOrEnded (Some _) = ⊥

-- What a step of a text that runs answers, with what was ahead before it, what is ahead after it, what every further step answers, and the units left: that it went, where the text runs on or has now ended, and less is ahead; or what every further step answers, and that there is no fuel only where no unit is left.
abbrev pub Answers : ℕ → StepEnd → ℕ → Option StepEnd → ℕ → Type 0
Answers before step.Went now further left = IsOnOrEnded further × (now + 1 ≤ before)
Answers before step.Idle now further left = ⊥
Answers before step.NoFuel now further left = (further ≡ Some step.NoFuel) × (left ≡ 0)
Answers before (step.Beyond b) now further left = further ≡ Some (step.Beyond b)
Answers before step.NoMemory now further left = further ≡ Some step.NoMemory

abbrev pub Goes : Endpoint → ℕ → StepEnd → Endpoint → ℕ → Type 0
Goes before units answer now left = Answers (ahead_of before units) answer (ahead_of now left) (answer_of now) left

-- what a machine that got so far is about then, and what the step that came there answers
abbrev pub IsTurnOf : Halt → Turn → Type 0
IsTurnOf (halt.Done a) (turn.Ended e) = end_of_run (told_end e) ≡ end_of_script A a EndsDone
IsTurnOf (halt.Done a) _ = ⊥
IsTurnOf halt.OutOfFuel t = t ≡ turn.NoFuel
IsTurnOf (halt.Beyond b) t = t ≡ turn.Beyond b

abbrev pub answer_to : Halt → StepEnd
answer_to (halt.Done a) = step.Went
answer_to halt.OutOfFuel = step.NoFuel
answer_to (halt.Beyond b) = step.Beyond b

-- what it is about after a step, and what the step answers
abbrev pub IsTurnAfter : Progress → Turn → Type 0
IsTurnAfter (progress.On further) t = t ≡ turn.Next further
IsTurnAfter (progress.Halted h) t = IsTurnOf h t

abbrev pub answer_after : Progress → StepEnd
answer_after (progress.On further) = step.Went
answer_after (progress.Halted h) = answer_to h
