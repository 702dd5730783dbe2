-- The exit statuses.
use Rattle.std.specs.Prelude.{ℕ}
use Rattle.nested_serve.specs.declared.alone.AloneEnd.{AloneEnd}
use Rattle.nested_serve.specs.declared.alone.AloneEnd.TheVariants as alone
use Rattle.rpyc_cmd.specs.declared.status.Status.{Status}
use Rattle.rpyc_cmd.specs.declared.status.Status.TheVariants as status

abbrev pub code_of : Status → ℕ
code_of status.Done = 0
code_of status.Raised = 1
code_of status.Words = 2
code_of status.Script = 3
code_of status.File = 4
code_of status.OutOfFuel = 6
code_of status.Beyond = 7
code_of status.Device = 8
code_of status.Peer = 9
code_of status.Output = 10
code_of status.NoMemory = 11

-- the status of a run of a script alone, by its end
abbrev pub status_of : AloneEnd → Status
status_of alone.Done = status.Done
status_of (alone.Raised r) = status.Raised
status_of alone.OutOfFuel = status.OutOfFuel
status_of (alone.Beyond b) = status.Beyond
