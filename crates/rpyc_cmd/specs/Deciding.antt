-- What is known of a stop before a run, and of the writing of a text.
use Rattle.std.specs.Prelude.{◌≡◌, ℕ, List, Option, ◌⊎◌}
use Rattle.wire_io.specs.Devices.{Rose, Wrote, IsPart}
use Rattle.rp_base.specs.declared.rules.Rule.{Rule}
use Rattle.rpyc_cmd.specs.declared.decide.Stop.{Stop}
use Rattle.rpyc_cmd.specs.declared.decide.Stop.TheVariants as stop
use Rattle.rpyc_cmd.specs.declared.status.Status.{Status}
use Rattle.rpyc_cmd.specs.declared.status.Status.TheVariants as status
use Rattle.rpyc_cmd.specs.Report.{script_line}

-- a fact of what was decided on instead, where it is a refusal
abbrev pub IfRefused : (Status → List ℕ → Type 0) → Stop → Type 0
IfRefused P (stop.Refused d) = P d.status d.text
IfRefused P stop.NoMemory = Unit {0}

-- a fact that holds where memory ran out
abbrev pub IfNoMemory : Type 0 → Stop → Type 0
IfNoMemory P (stop.Refused d) = Unit {0}
IfNoMemory P stop.NoMemory = P

-- the refusal of a script, of which this name, this line and this rule are the cause
abbrev pub RefusesScript : (List ℕ → ℕ → Rule → Type 0) → Status → List ℕ → Type 0
RefusesScript Cause decided text = (decided ≡ status.Script) × ((name : List ℕ) × (line : ℕ) × (rule : Rule) × Cause name line rule × (text ≡ script_line name line rule))

-- the status once the output failed
abbrev pub after_fault : Status → Status
after_fault status.Done = status.Output
after_fault decided = decided

-- How the writing of a text ends.
abbrev pub Finished : Status → Status → List ℕ → Option (List ℕ) → ℕ → Option (List ℕ) → ℕ → Type 0
Finished decided ended text told faults told_new faults_new =
    ((ended ≡ decided) × Wrote told text told_new)
    ⊎ ((ended ≡ after_fault decided) × Rose faults faults_new × IsPart told text told_new)
    ⊎ ((ended ≡ status.NoMemory) × IsPart told text told_new)
