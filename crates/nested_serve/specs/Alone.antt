-- What the run of a script alone is: the run of the one interpreter over that script.
use Rattle.std.specs.Prelude.{◌≡◌, ◌+◌, ℕ}
use Rattle.py_ast.specs.declared.program.Program.{Program}
use Rattle.side_trees.specs.SharedRun.{A}
use Rattle.language_rules.specs.OneInterpreter.{ScriptCourse, RunEnd, EndsDone, EndsRaised, EndsOutOfFuel, EndsBeyond, end_of_script, run_end, units_left, output, solo_course}
use Rattle.language_rules.specs.Starting.{Reader}
use Rattle.nested_serve.specs.declared.alone.AloneEnd.{AloneEnd}
use Rattle.nested_serve.specs.declared.alone.AloneEnd.TheVariants as end
use Rattle.nested_serve.specs.declared.alone.AloneRun.{AloneRun}
use Rattle.nested_serve.specs.declared.machine.Halt.{Halt}
use Rattle.nested_serve.specs.declared.machine.Halt.TheVariants as halt

-- an end as the one interpreter tells it
abbrev pub end_of_run : AloneEnd → RunEnd
end_of_run end.Done = EndsDone
end_of_run (end.Raised r) = EndsRaised A r
end_of_run end.OutOfFuel = EndsOutOfFuel
end_of_run (end.Beyond b) = EndsBeyond b

-- the end of a side's own run, as the one interpreter tells it
abbrev pub IsEndOf : Halt → AloneEnd → Type 0
IsEndOf (halt.Done a) e = end_of_run e ≡ end_of_script A a EndsDone
IsEndOf halt.OutOfFuel e = end_of_run e ≡ EndsOutOfFuel
IsEndOf (halt.Beyond b) e = end_of_run e ≡ EndsBeyond b

-- its end, what it printed, and the units that it spent of those that were given
abbrev pub IsRunOf : ScriptCourse → ℕ → AloneRun → Type 0
IsRunOf c fuel r = (run_end c ≡ end_of_run r.end) × (output A c ≡ r.printed) × (fuel ≡ units_left c + r.units)

-- the run of this script, whatever texts would be read as: a script alone reads none
abbrev pub IsRunAlone : Program → ℕ → AloneRun → Type 0
IsRunAlone program fuel r = (reader : Reader) → IsRunOf (solo_course reader program fuel) fuel r
