-- What a run of the program makes of its words, its files and its wires, and what it writes.
use Rattle.std.specs.Prelude.{◌≡◌, ℕ, List, [], Option, Some, None, ◌⊎◌, All, IsSome, take}
use Rattle.wire_io.specs.Devices.{Rose, Wrote, IsPart}
use Rattle.wire_io.specs.declared.wire.Over.{Over}
use Rattle.py_ast.specs.declared.program.Program.{Program}
use Rattle.py_grammar.specs.declared.symbol.Start.TheVariants as starts
use Rattle.py_scope.specs.Accepting.{Accepted, RefusedAt}
use Rattle.rp_base.specs.declared.rules.Rule.{Rule}
use Rattle.rp_base.specs.declared.rules.Rule.TheVariants as rules
use Rattle.pair_run.specs.declared.ends.RunEnd.TheVariants as run_end
use Rattle.pair_run.specs.declared.scripts.Binding.{Binding}
use Rattle.pair_run.specs.Running.{Wires, wires, IsUnrun, IsWholeRun, IsPartRun, IsCutRun, HasFailed}
use Rattle.pair_run.specs.Scripts.{AsksFor, Binds, IsFirstOtherQuestion, IsFirstOtherBinding, IsFirstUnbound, number_of}
use Rattle.pair_run.specs.Talk.{printed, units_of}
use Rattle.message_core.specs.declared.faults.PeerFault.{PeerFault}
use Rattle.nested_serve.specs.Alone.{IsRunAlone}
use Rattle.nested_serve.specs.declared.alone.AloneRun.{AloneRun}
use Rattle.report_text.specs.Dumping.{dump_text, dump_fault}
use Rattle.rpyc_cmd.specs.declared.status.Status.{Status}
use Rattle.rpyc_cmd.specs.declared.status.Status.TheVariants as status
use Rattle.rpyc_cmd.specs.Words.{IsPair, Asked, PairOf, DumpOf, RunOf, Spells, IsRefusedAt}
use Rattle.rpyc_cmd.specs.Statuses.{status_of}
use Rattle.rpyc_cmd.specs.Report.{report, run_text, words_line, script_line, not_there_line, read_fault_line}

-- a map from names to bytes, where the files tell it
abbrev pub Held : Type 0
Held = Option (List ℕ → Option (List ℕ))

-- Where the files tell, they hold these bytes under this name, or nothing.
abbrev pub Holds : Held → List ℕ → List ℕ → Type 0
Holds None name bytes = Unit {0}
Holds (Some held) name bytes = held name ≡ Some bytes

abbrev pub Lacks : Held → List ℕ → Type 0
Lacks None name = Unit {0}
Lacks (Some held) name = held name ≡ None

-- what the files and the wires show from outside
pub record Outside : Type 0 where
  pub held : Held
  pub file_faults : ℕ
  pub wires : Wires

-- the same, from what a form of the files and a form of the wire mean
abbrev pub outside : {X Y : Type 0} → (X → Held) → (X → ℕ) → (Y → List ℕ) → (Y → Option Over) → (Y → ℕ) → X → Y → Y → Outside
outside held file_faults carried begun faults files ab ba = record { held = held files; file_faults = file_faults files; wires = wires carried begun faults ab ba }

-- no run was begun: the wires were not touched
abbrev pub Unbegun : Outside → Outside → Type 0
Unbegun old new = new.wires ≡ old.wires

-- two files, of these names, were read: these scripts
pub record Scripts (name_a name_b : List ℕ) (held : Held) : Type 0 where
  pub text_a : List ℕ
  pub text_b : List ℕ
  pub read_a : Holds held name_a text_a
  pub read_b : Holds held name_b text_b

-- a text of the language, with its program
unfoldable pub IsScriptOf : List ℕ → Program → Type 0
IsScriptOf text program = Accepted starts.Script text program

unfoldable pub IsScript : List ℕ → Type 0
IsScript text = (program : Program) × IsScriptOf text program

-- A's text is a script that asks for these letters; B's is one that binds these
abbrev pub Asks : List ℕ → List ℕ → Type 0
Asks text letters = IsScript text × AsksFor text letters

abbrev pub BindsAll : List ℕ → List Binding → Type 0
BindsAll text bindings = IsScript text × Binds text bindings

-- both texts are scripts, A's asks for these letters, B's binds these, and each letter is bound
pub record AreAccepted (text_a text_b : List ℕ) (letters : List ℕ) (bindings : List Binding) : Type 0 where
  pub asks : Asks text_a letters
  pub binds : BindsAll text_b bindings
  pub bound : All (λ letter. IsSome (number_of bindings letter)) letters

-- a text that the language refuses at this line by this rule
unfoldable pub IsNoScript : List ℕ → ℕ → Rule → Type 0
IsNoScript text line rule = RefusedAt starts.Script text (record { line = line; rule = rule })

-- The refusal of one text: it is no script, by this rule at this line; or it is one, and this line is the first that is
-- outside the forms of this stage.
abbrev pub IsTextRefusal : (List ℕ → ℕ → Type 0) → List ℕ → ℕ → Rule → Type 0
IsTextRefusal IsFirstOther text line rule =
    IsNoScript text line rule ⊎ (IsScript text × IsFirstOther text line × (rule ≡ rules.NotYet))

-- The first refusal: of A's text, then of B's, then of a letter of A that B does not bind.
abbrev pub IsRefusal : List ℕ → List ℕ → List ℕ → List ℕ → List ℕ → ℕ → Rule → Type 0
IsRefusal name_a text_a name_b text_b name line rule =
    ((name ≡ name_a) × IsTextRefusal IsFirstOtherQuestion text_a line rule)
    ⊎ ((letters : List ℕ) × Asks text_a letters × (name ≡ name_b) × IsTextRefusal IsFirstOtherBinding text_b line rule)
    ⊎ ((letters : List ℕ) × (bindings : List Binding) × Asks text_a letters × BindsAll text_b bindings
    × (name ≡ name_a) × IsFirstUnbound bindings letters line × (rule ≡ rules.NotYet))

-- a file that is not there, or could not be read, with its line of text
abbrev pub IsFileRefusal : Held → List ℕ → ℕ → ℕ → List ℕ → Type 0
IsFileRefusal held name old_faults new_faults text = (Lacks held name × (text ≡ not_there_line name)) ⊎ (Rose old_faults new_faults × (text ≡ read_fault_line name))

-- the report of a run that is done
abbrev pub done_report : List Binding → List ℕ → List ℕ
done_report bindings letters = report run_end.Done [] (printed bindings letters) (Some (units_of bindings letters)) (Some (0, 2))

-- the report of a run that a wire cut short after so many lines
abbrev pub cut_report : List Binding → List ℕ → ℕ → List ℕ
cut_report bindings letters count = report run_end.Wire [] (printed bindings (take count letters)) None None

-- A run that was cut short, with its report: nothing was printed where nothing ran.
abbrev pub IsReportedCut : List Binding → List ℕ → List ℕ → Wires → Wires → Type 0
IsReportedCut bindings letters text old new =
    (IsUnrun old new × (text ≡ cut_report bindings letters 0)) ⊎ (IsPartRun bindings letters old new × ((count : ℕ) × (text ≡ cut_report bindings letters count)))

-- what a run decides on: the status, the report, and what the wires show
abbrev pub IsDecided : Status → List Binding → List ℕ → List ℕ → Wires → Wires → Type 0
IsDecided status.Done bindings letters text old new = IsWholeRun bindings letters old new × (text ≡ done_report bindings letters)
IsDecided status.Device bindings letters text old new = IsReportedCut bindings letters text old new × HasFailed old new
IsDecided decided bindings letters text old new = ⊥

-- two files were read, and their scripts were run
abbrev pub Runs : Status → List ℕ → List ℕ → Outside → Outside → List ℕ → Type 0
Runs decided name_a name_b old new text =
    (s : Scripts name_a name_b old.held) × (letters : List ℕ) × (bindings : List Binding) × AreAccepted s.text_a s.text_b letters bindings
    × IsDecided decided bindings letters text old.wires new.wires

-- What comes of two files of these names: a status and a text.
abbrev pub PairGives : Status → List ℕ → List ℕ → Outside → Outside → List ℕ → Type 0
PairGives status.Done name_a name_b old new text = Runs status.Done name_a name_b old new text
PairGives status.Device name_a name_b old new text = Runs status.Device name_a name_b old new text
PairGives status.Script name_a name_b old new text =
    (s : Scripts name_a name_b old.held) × (name : List ℕ) × (line : ℕ) × (rule : Rule) × IsRefusal name_a s.text_a name_b s.text_b name line rule
    × (text ≡ script_line name line rule) × Unbegun old new
PairGives status.File name_a name_b old new text = Unbegun old new
    × (IsFileRefusal old.held name_a old.file_faults new.file_faults text
    ⊎ ((text_a : List ℕ) × Holds old.held name_a text_a × IsFileRefusal old.held name_b old.file_faults new.file_faults text))
PairGives decided name_a name_b old new text = ⊥

-- a file was read whose frames have this first fault, or none, and this text
abbrev pub Dumps : Held → List ℕ → Option PeerFault → List ℕ → Type 0
Dumps held file fault text = (bytes : List ℕ) × Holds held file bytes × (dump_fault bytes ≡ fault) × (text ≡ dump_text bytes)

abbrev pub IsDumped : Status → Held → List ℕ → List ℕ → Type 0
IsDumped status.Done held file text = Dumps held file None text
IsDumped status.Peer held file text = (fault : PeerFault) × Dumps held file (Some fault) text
IsDumped decided held file text = ⊥

-- What comes of a file of frames of this name. No wire is begun.
abbrev pub DumpGives : Status → List ℕ → Outside → Outside → List ℕ → Type 0
DumpGives status.File file old new text = IsFileRefusal old.held file old.file_faults new.file_faults text × Unbegun old new
DumpGives decided file old new text = IsDumped decided old.held file text × Unbegun old new

-- a status and a report that are those of a run of this program within so many units
unfoldable pub IsReportedRun : Status → Program → ℕ → List ℕ → Type 0
IsReportedRun decided program fuel text =
    (run : AloneRun) × IsRunAlone program fuel run × (decided ≡ status_of run.end) × (text ≡ run_text run.printed run.end run.units)

-- A file was read, its text is a script, and that was run alone.
abbrev pub RunsAlone : List ℕ → ℕ → Held → Status → List ℕ → Type 0
RunsAlone file fuel held decided text =
    (bytes : List ℕ) × (program : Program) × Holds held file bytes × IsScriptOf bytes program × IsReportedRun decided program fuel text

-- a file was read, and its text is no script of the language
abbrev pub RefusesAlone : List ℕ → Held → List ℕ → Type 0
RefusesAlone file held text =
    (bytes : List ℕ) × (line : ℕ) × (rule : Rule) × Holds held file bytes × IsNoScript bytes line rule × (text ≡ script_line file line rule)

-- the refusal of a run: of its file, or of the script in it
abbrev pub IsAloneRefusal : List ℕ → Held → ℕ → ℕ → Status → List ℕ → Type 0
IsAloneRefusal file held old_faults new_faults decided text =
    ((decided ≡ status.File) × IsFileRefusal held file old_faults new_faults text) ⊎ ((decided ≡ status.Script) × RefusesAlone file held text)

-- What comes of a script alone in a file of this name, within so many units. No wire is begun.
abbrev pub AloneGives : Status → List ℕ → ℕ → Outside → Outside → List ℕ → Type 0
AloneGives status.File file fuel old new text = IsFileRefusal old.held file old.file_faults new.file_faults text × Unbegun old new
AloneGives status.Script file fuel old new text = RefusesAlone file old.held text × Unbegun old new
AloneGives decided file fuel old new text = RunsAlone file fuel old.held decided text × Unbegun old new

-- what comes of what was asked for
abbrev pub Gives : Status → Asked → Outside → Outside → List ℕ → Type 0
Gives decided (PairOf name_a name_b) old new text = PairGives decided name_a name_b old new text
Gives decided (DumpOf file) old new text = DumpGives decided file old new text
Gives decided (RunOf file fuel) old new text = AloneGives decided file fuel old new text

-- What the program decides on before it writes: a status and a text.
abbrev pub Decides : Status → List (List ℕ) → Outside → Outside → List ℕ → Type 0
Decides status.Words words old new text = (at : ℕ) × IsRefusedAt words at × (text ≡ words_line at) × Unbegun old new × (new.file_faults ≡ old.file_faults)
Decides decided words old new text = (asked : Asked) × Spells words asked × Gives decided asked old new text

-- memory ran out while two scripts were run
abbrev pub PairRunsOut : List ℕ → List ℕ → Outside → Outside → Type 0
PairRunsOut name_a name_b old new =
    (s : Scripts name_a name_b old.held) × (letters : List ℕ) × (bindings : List Binding) × AreAccepted s.text_a s.text_b letters bindings × IsCutRun bindings letters old.wires new.wires

-- memory ran out in what was asked for: the wires were not touched, or a run was cut short
abbrev pub AskedRunsOut : Asked → Outside → Outside → Type 0
AskedRunsOut (PairOf name_a name_b) old new = Unbegun old new ⊎ PairRunsOut name_a name_b old new
AskedRunsOut (DumpOf file) old new = Unbegun old new
AskedRunsOut (RunOf file fuel) old new = Unbegun old new

-- Memory ran out before there was a text: the wires were not touched, or a run was cut short.
abbrev pub RunsOut : List (List ℕ) → Outside → Outside → Type 0
RunsOut words old new = Unbegun old new ⊎ ((name_a : List ℕ) × (name_b : List ℕ) × IsPair words name_a name_b × PairRunsOut name_a name_b old new)

-- A text was written whole, or a front of it where the sink's count of faults rose.
abbrev pub Writes : List ℕ → Option (List ℕ) → ℕ → Option (List ℕ) → ℕ → Type 0
Writes text told faults told_new faults_new = Wrote told text told_new ⊎ (Rose faults faults_new × IsPart told text told_new)

-- The whole run, by its status.
abbrev pub Ends : Status → List (List ℕ) → Outside → Outside → Option (List ℕ) → ℕ → Option (List ℕ) → ℕ → Type 0
Ends status.Done words old new told faults told_new faults_new = (text : List ℕ) × Decides status.Done words old new text × Wrote told text told_new
Ends status.Output words old new told faults told_new faults_new =
    (text : List ℕ) × Decides status.Done words old new text × Rose faults faults_new × IsPart told text told_new
Ends status.NoMemory words old new told faults told_new faults_new =
    (RunsOut words old new × Wrote told [] told_new) ⊎ ((decided : Status) × (text : List ℕ) × Decides decided words old new text × IsPart told text told_new)
Ends decided words old new told faults told_new faults_new = (text : List ℕ) × Decides decided words old new text × Writes text told faults told_new faults_new
