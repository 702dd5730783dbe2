-- From what the parts of the program say to what a whole run does.
use Rattle.std.proofs.Common.{◌≡◌, ℕ, List, Option, sym, subst, inl, inr}
use Rattle.wire_io.specs.Devices.{Rose, Wrote, IsPart}
use Rattle.rp_base.specs.declared.rules.Rule.{Rule}
use Rattle.pair_run.specs.declared.scripts.Binding.{Binding}
use Rattle.rpyc_cmd.specs.declared.decide.Decided.{Decided}
use Rattle.rpyc_cmd.specs.declared.decide.Stop.{Stop}
use Rattle.rpyc_cmd.specs.declared.decide.Stop.TheVariants as stop
use Rattle.rpyc_cmd.specs.declared.status.Status.{Status}
use Rattle.rpyc_cmd.specs.declared.status.Status.TheVariants as status
use Rattle.py_ast.specs.declared.program.Program.{Program}
use Rattle.nested_serve.specs.declared.alone.AloneEnd.{AloneEnd}
use Rattle.nested_serve.specs.declared.alone.AloneEnd.TheVariants as alone
use Rattle.rpyc_cmd.specs.Statuses.{status_of}
use Rattle.rpyc_cmd.specs.Deciding.{IfRefused, IfNoMemory, RefusesScript, Finished, after_fault}
use Rattle.rpyc_cmd.specs.Outcome.{Held, Holds, Unbegun, IsScriptOf, IsNoScript, IsReportedRun, RunsAlone, IsAloneRefusal, AloneGives, IsRefusal, IsDecided, Outside, Scripts, AreAccepted, IsFileRefusal, IsDumped, DumpGives, PairGives, Gives, AskedRunsOut, Decides, RunsOut, Ends}
use Rattle.rpyc_cmd.specs.Report.{script_line}
use Rattle.rpyc_cmd.specs.Words.{Asked, PairOf, DumpOf, RunOf, Spells}

pub if_refused : (s : Stop) (P Q : Status → List ℕ → Type 0) → ((decided : Status) (text : List ℕ) → P decided text → Q decided text) → IfRefused P s → IfRefused Q s
if_refused (stop.Refused d) P Q f h = f d.status d.text h
if_refused stop.NoMemory P Q f h = tt

pub refused_by : (s : Stop) (C D : List ℕ → ℕ → Rule → Type 0) → ((name : List ℕ) (line : ℕ) (rule : Rule) → C name line rule → D name line rule) → IfRefused (RefusesScript C) s → IfRefused (RefusesScript D) s
refused_by s C D f = if_refused s (RefusesScript C) (RefusesScript D) (λ decided text h. (h.0, (h.1.0, h.1.1, h.1.2, f h.1.0 h.1.1 h.1.2 h.1.3, h.1.4)))

-- a refusal at a line by a rule, with its cause
pub refused_at_line : (s : Stop) (C : List ℕ → ℕ → Rule → Type 0) (name : List ℕ) (line : ℕ) (rule : Rule) → C name line rule
    → IfRefused (λ decided text. (decided ≡ status.Script) × (text ≡ script_line name line rule)) s → IfRefused (RefusesScript C) s
refused_at_line s C name line rule cause =
    if_refused s (λ decided text. (decided ≡ status.Script) × (text ≡ script_line name line rule)) (RefusesScript C) (λ decided text h. (h.0, (name, line, rule, cause, h.1)))

-- both files were read
abbrev pub scripts_of : (held held_later : Held) (name_a name_b bytes_a text_a bytes_b text_b : List ℕ) → Holds held name_a bytes_a → text_a ≡ bytes_a
    → held_later ≡ held → Holds held_later name_b bytes_b → text_b ≡ bytes_b → Scripts name_a name_b held
scripts_of held held_later name_a name_b bytes_a text_a bytes_b text_b a e kept b f = record {
  text_a = text_a;
  text_b = text_b;
  read_a = subst (Holds held name_a) (sym e) a;
  read_b = subst (Holds held name_b) (sym f) (subst (λ h. Holds h name_b bytes_b) kept b);
}

-- what a run decides on is what comes of the pair
pub run_gives : (decided : Status) (name_a name_b : List ℕ) (old new : Outside) (s : Scripts name_a name_b old.held) (letters : List ℕ) (bindings : List Binding) (text : List ℕ)
    → AreAccepted s.text_a s.text_b letters bindings → IsDecided decided bindings letters text old.wires new.wires → PairGives decided name_a name_b old new text
run_gives status.Done name_a name_b old new s letters bindings text a h = (s, letters, bindings, a, h)
run_gives status.Device name_a name_b old new s letters bindings text a h = (s, letters, bindings, a, h)
run_gives status.Peer name_a name_b old new s letters bindings text a h = absurd h
run_gives status.Words name_a name_b old new s letters bindings text a h = absurd h
run_gives status.Script name_a name_b old new s letters bindings text a h = absurd h
run_gives status.File name_a name_b old new s letters bindings text a h = absurd h
run_gives status.Output name_a name_b old new s letters bindings text a h = absurd h
run_gives status.Raised name_a name_b old new s letters bindings text a h = absurd h
run_gives status.OutOfFuel name_a name_b old new s letters bindings text a h = absurd h
run_gives status.Beyond name_a name_b old new s letters bindings text a h = absurd h
run_gives status.NoMemory name_a name_b old new s letters bindings text a h = absurd h

-- the refusal of a script is what comes of the pair
script_gives : (name_a name_b : List ℕ) (old new : Outside) (s : Scripts name_a name_b old.held) → Unbegun old new → (decided : Status) (text : List ℕ)
    → RefusesScript (IsRefusal name_a s.text_a name_b s.text_b) decided text → PairGives decided name_a name_b old new text
script_gives name_a name_b old new s same decided text h =
    let F : Status → Type 0 = λ k. PairGives k name_a name_b old new text in
    subst F (sym h.0) (s, h.1.0, h.1.1, h.1.2, h.1.3, h.1.4, same)

pub scripts_refused : (stopped : Stop) (name_a name_b : List ℕ) (old new : Outside) (s : Scripts name_a name_b old.held) → Unbegun old new
    → IfRefused (RefusesScript (IsRefusal name_a s.text_a name_b s.text_b)) stopped → IfRefused (λ decided text. PairGives decided name_a name_b old new text) stopped
scripts_refused stopped name_a name_b old new s same =
    if_refused stopped (RefusesScript (IsRefusal name_a s.text_a name_b s.text_b)) (λ decided text. PairGives decided name_a name_b old new text) (script_gives name_a name_b old new s same)

-- a file that was not read, or its text, is what comes of a dump
pub dump_gives : (decided : Status) (file : List ℕ) (old new : Outside) (text : List ℕ) → Unbegun old new → IsDumped decided old.held file text → DumpGives decided file old new text
dump_gives status.Done file old new text same h = (h, same)
dump_gives status.Peer file old new text same h = (h, same)
dump_gives status.Device file old new text same h = absurd h
dump_gives status.Script file old new text same h = absurd h
dump_gives status.File file old new text same h = absurd h
dump_gives status.Words file old new text same h = absurd h
dump_gives status.Output file old new text same h = absurd h
dump_gives status.Raised file old new text same h = absurd h
dump_gives status.OutOfFuel file old new text same h = absurd h
dump_gives status.Beyond file old new text same h = absurd h
dump_gives status.NoMemory file old new text same h = absurd h

pub dump_refused : (stopped : Stop) (file : List ℕ) (old new : Outside) → Unbegun old new
    → IfRefused (λ decided text. (decided ≡ status.File) × IsFileRefusal old.held file old.file_faults new.file_faults text) stopped → IfRefused (λ decided text. DumpGives decided file old new text) stopped
dump_refused stopped file old new same =
    if_refused stopped (λ decided text. (decided ≡ status.File) × IsFileRefusal old.held file old.file_faults new.file_faults text) (λ decided text. DumpGives decided file old new text)
    (λ decided text h. let F : Status → Type 0 = λ k. DumpGives k file old new text in subst F (sym h.0) (h.1, same))

-- no run of a script alone ends with a status of another cause
not_words : (e : AloneEnd) → status.Words ≡ status_of e → ⊥
not_words alone.Done h = cc
not_words (alone.Raised r) h = cc
not_words alone.OutOfFuel h = cc
not_words (alone.Beyond b) h = cc

not_script : (e : AloneEnd) → status.Script ≡ status_of e → ⊥
not_script alone.Done h = cc
not_script (alone.Raised r) h = cc
not_script alone.OutOfFuel h = cc
not_script (alone.Beyond b) h = cc

not_file : (e : AloneEnd) → status.File ≡ status_of e → ⊥
not_file alone.Done h = cc
not_file (alone.Raised r) h = cc
not_file alone.OutOfFuel h = cc
not_file (alone.Beyond b) h = cc

not_output : (e : AloneEnd) → status.Output ≡ status_of e → ⊥
not_output alone.Done h = cc
not_output (alone.Raised r) h = cc
not_output alone.OutOfFuel h = cc
not_output (alone.Beyond b) h = cc

not_no_memory : (e : AloneEnd) → status.NoMemory ≡ status_of e → ⊥
not_no_memory alone.Done h = cc
not_no_memory (alone.Raised r) h = cc
not_no_memory alone.OutOfFuel h = cc
not_no_memory (alone.Beyond b) h = cc

-- the end of a run gives its status
end_of : (decided : Status) (program : Program) (fuel : ℕ) (text : List ℕ) → IsReportedRun decided program fuel text → (e : AloneEnd) × (decided ≡ status_of e)
unfolding IsReportedRun
end_of decided program fuel text h = (h.0.end, h.2)

end_of_alone : (decided : Status) (file : List ℕ) (fuel : ℕ) (held : Held) (text : List ℕ) → RunsAlone file fuel held decided text → (e : AloneEnd) × (decided ≡ status_of e)
end_of_alone decided file fuel held text h = end_of decided h.1 fuel text h.4

-- a file that was read, and its script that was run alone
pub runs_alone : (file : List ℕ) (fuel : ℕ) (held : Held) (bytes read : List ℕ) (program : Program) (decided : Status) (text : List ℕ) → Holds held file bytes → read ≡ bytes
    → IsScriptOf read program → IsReportedRun decided program fuel text → RunsAlone file fuel held decided text
runs_alone file fuel held bytes read program decided text holds e script run = (read, program, subst (Holds held file) (sym e) holds, script, run)

-- a refusal of the file, or of the text that was read of it, is one of the run
pub alone_file_refused : (stopped : Stop) (file : List ℕ) (held : Held) (old_faults new_faults : ℕ)
    → IfRefused (λ decided text. (decided ≡ status.File) × IsFileRefusal held file old_faults new_faults text) stopped → IfRefused (IsAloneRefusal file held old_faults new_faults) stopped
alone_file_refused stopped file held old_faults new_faults =
    if_refused stopped (λ decided text. (decided ≡ status.File) × IsFileRefusal held file old_faults new_faults text) (IsAloneRefusal file held old_faults new_faults) (λ decided text h. inl h)

abbrev RefusesText : List ℕ → List ℕ → List ℕ → ℕ → Rule → Type 0
RefusesText file bytes = λ refused line rule. (refused ≡ file) × IsNoScript bytes line rule

refuses_alone : (file : List ℕ) (held : Held) (bytes : List ℕ) (old_faults new_faults : ℕ) → Holds held file bytes → (decided : Status) (text : List ℕ)
    → RefusesScript (RefusesText file bytes) decided text → IsAloneRefusal file held old_faults new_faults decided text
refuses_alone file held bytes old_faults new_faults holds decided text h =
    inr (h.0, (bytes, h.1.1, h.1.2, holds, h.1.3.1, subst (λ name. text ≡ script_line name h.1.1 h.1.2) h.1.3.0 h.1.4))

pub alone_text_refused : (stopped : Stop) (file : List ℕ) (held : Held) (bytes read : List ℕ) (old_faults new_faults : ℕ) → Holds held file bytes → read ≡ bytes
    → IfRefused (RefusesScript (RefusesText file read)) stopped → IfRefused (IsAloneRefusal file held old_faults new_faults) stopped
alone_text_refused stopped file held bytes read old_faults new_faults holds e =
    if_refused stopped (RefusesScript (RefusesText file read)) (IsAloneRefusal file held old_faults new_faults)
    (refuses_alone file held read old_faults new_faults (subst (Holds held file) (sym e) holds))

-- a run of a script alone, or its refusal, is what comes of it
pub alone_gives : (decided : Status) (file : List ℕ) (fuel : ℕ) (old new : Outside) (text : List ℕ) → Unbegun old new → RunsAlone file fuel old.held decided text → AloneGives decided file fuel old new text
alone_gives status.Done file fuel old new text same h = (h, same)
alone_gives status.Raised file fuel old new text same h = (h, same)
alone_gives status.OutOfFuel file fuel old new text same h = (h, same)
alone_gives status.Beyond file fuel old new text same h = (h, same)
alone_gives status.Peer file fuel old new text same h = (h, same)
alone_gives status.Device file fuel old new text same h = (h, same)
alone_gives status.Script file fuel old new text same h = let e = end_of_alone status.Script file fuel old.held text h in absurd (not_script e.0 e.1)
alone_gives status.File file fuel old new text same h = let e = end_of_alone status.File file fuel old.held text h in absurd (not_file e.0 e.1)
alone_gives status.Words file fuel old new text same h = (h, same)
alone_gives status.Output file fuel old new text same h = (h, same)
alone_gives status.NoMemory file fuel old new text same h = (h, same)

refusal_gives : (file : List ℕ) (fuel : ℕ) (old new : Outside) → Unbegun old new → (decided : Status) (text : List ℕ)
    → IsAloneRefusal file old.held old.file_faults new.file_faults decided text → AloneGives decided file fuel old new text
refusal_gives file fuel old new same decided text (inl h) = let F : Status → Type 0 = λ k. AloneGives k file fuel old new text in subst F (sym h.0) (h.1, same)
refusal_gives file fuel old new same decided text (inr h) = let F : Status → Type 0 = λ k. AloneGives k file fuel old new text in subst F (sym h.0) (h.1, same)

pub alone_refused : (stopped : Stop) (file : List ℕ) (fuel : ℕ) (old new : Outside) → Unbegun old new
    → IfRefused (IsAloneRefusal file old.held old.file_faults new.file_faults) stopped → IfRefused (λ decided text. AloneGives decided file fuel old new text) stopped
alone_refused stopped file fuel old new same =
    if_refused stopped (IsAloneRefusal file old.held old.file_faults new.file_faults) (λ decided text. AloneGives decided file fuel old new text) (refusal_gives file fuel old new same)

-- what comes of what the words ask for is what the program decides on
no_words : (asked : Asked) (old new : Outside) (text : List ℕ) → Gives status.Words asked old new text → ⊥
no_words (PairOf name_a name_b) old new text h = h
no_words (DumpOf file) old new text h = h.0
no_words (RunOf file fuel) old new text h = let e = end_of_alone status.Words file fuel old.held text h.0 in not_words e.0 e.1

pub asked_decides : (decided : Status) (words : List (List ℕ)) (asked : Asked) (old new : Outside) (text : List ℕ) → Spells words asked → Gives decided asked old new text → Decides decided words old new text
asked_decides status.Done words asked old new text p h = (asked, p, h)
asked_decides status.Peer words asked old new text p h = (asked, p, h)
asked_decides status.Device words asked old new text p h = (asked, p, h)
asked_decides status.Script words asked old new text p h = (asked, p, h)
asked_decides status.File words asked old new text p h = (asked, p, h)
asked_decides status.Words words asked old new text p h = absurd (no_words asked old new text h)
asked_decides status.Output words asked old new text p h = (asked, p, h)
asked_decides status.Raised words asked old new text p h = (asked, p, h)
asked_decides status.OutOfFuel words asked old new text p h = (asked, p, h)
asked_decides status.Beyond words asked old new text p h = (asked, p, h)
asked_decides status.NoMemory words asked old new text p h = (asked, p, h)

pub asked_refused : (stopped : Stop) (d : Decided) (words : List (List ℕ)) (asked : Asked) (old new : Outside) → Spells words asked → stopped ≡ stop.Refused d
    → IfRefused (λ decided text. Gives decided asked old new text) stopped → Decides d.status words old new d.text
asked_refused stopped d words asked old new p e h =
    let F : Stop → Type 0 = λ s. IfRefused (λ decided text. Gives decided asked old new text) s in
    asked_decides d.status words asked old new d.text p (subst F e h)

runs_out : (words : List (List ℕ)) (asked : Asked) (old new : Outside) → Spells words asked → AskedRunsOut asked old new → RunsOut words old new
runs_out words (PairOf name_a name_b) old new p (inl same) = inl same
runs_out words (PairOf name_a name_b) old new p (inr cut) = inr (name_a, name_b, p, cut)
runs_out words (DumpOf file) old new p same = inl same
runs_out words (RunOf file fuel) old new p same = inl same

pub asked_runs_out : (stopped : Stop) (words : List (List ℕ)) (asked : Asked) (old new : Outside) → Spells words asked → stopped ≡ stop.NoMemory
    → IfNoMemory (AskedRunsOut asked old new) stopped → RunsOut words old new
asked_runs_out stopped words asked old new p e h =
    let F : Stop → Type 0 = λ s. IfNoMemory (AskedRunsOut asked old new) s in
    runs_out words asked old new p (subst F e h)

-- no status of what the writing alone makes is decided on
no_output : (words : List (List ℕ)) (asked : Asked) (old new : Outside) (text : List ℕ) → Gives status.Output asked old new text → ⊥
no_output words (PairOf name_a name_b) old new text h = h
no_output words (DumpOf file) old new text h = h.0
no_output words (RunOf file fuel) old new text h = let e = end_of_alone status.Output file fuel old.held text h.0 in not_output e.0 e.1

no_no_memory : (words : List (List ℕ)) (asked : Asked) (old new : Outside) (text : List ℕ) → Gives status.NoMemory asked old new text → ⊥
no_no_memory words (PairOf name_a name_b) old new text h = h
no_no_memory words (DumpOf file) old new text h = h.0
no_no_memory words (RunOf file fuel) old new text h = let e = end_of_alone status.NoMemory file fuel old.held text h.0 in not_no_memory e.0 e.1

ends_whole : (decided : Status) (words : List (List ℕ)) (old new : Outside) (text : List ℕ) (told : Option (List ℕ)) (faults : ℕ) (told_new : Option (List ℕ)) (faults_new : ℕ)
    → Decides decided words old new text → Wrote told text told_new → Ends decided words old new told faults told_new faults_new
ends_whole status.Done words old new text told faults told_new faults_new d w = (text, d, w)
ends_whole status.Device words old new text told faults told_new faults_new d w = (text, d, inl w)
ends_whole status.Peer words old new text told faults told_new faults_new d w = (text, d, inl w)
ends_whole status.Words words old new text told faults told_new faults_new d w = (text, d, inl w)
ends_whole status.Script words old new text told faults told_new faults_new d w = (text, d, inl w)
ends_whole status.File words old new text told faults told_new faults_new d w = (text, d, inl w)
ends_whole status.Output words old new text told faults told_new faults_new d w = absurd (no_output words d.0 old new text d.2)
ends_whole status.Raised words old new text told faults told_new faults_new d w = (text, d, inl w)
ends_whole status.OutOfFuel words old new text told faults told_new faults_new d w = (text, d, inl w)
ends_whole status.Beyond words old new text told faults told_new faults_new d w = (text, d, inl w)
ends_whole status.NoMemory words old new text told faults told_new faults_new d w = absurd (no_no_memory words d.0 old new text d.2)

ends_cut : (decided : Status) (words : List (List ℕ)) (old new : Outside) (text : List ℕ) (told : Option (List ℕ)) (faults : ℕ) (told_new : Option (List ℕ)) (faults_new : ℕ)
    → Decides decided words old new text → Rose faults faults_new → IsPart told text told_new → Ends (after_fault decided) words old new told faults told_new faults_new
ends_cut status.Done words old new text told faults told_new faults_new d r p = (text, d, r, p)
ends_cut status.Device words old new text told faults told_new faults_new d r p = (text, d, inr (r, p))
ends_cut status.Peer words old new text told faults told_new faults_new d r p = (text, d, inr (r, p))
ends_cut status.Words words old new text told faults told_new faults_new d r p = (text, d, inr (r, p))
ends_cut status.Script words old new text told faults told_new faults_new d r p = (text, d, inr (r, p))
ends_cut status.File words old new text told faults told_new faults_new d r p = (text, d, inr (r, p))
ends_cut status.Output words old new text told faults told_new faults_new d r p = absurd (no_output words d.0 old new text d.2)
ends_cut status.Raised words old new text told faults told_new faults_new d r p = (text, d, inr (r, p))
ends_cut status.OutOfFuel words old new text told faults told_new faults_new d r p = (text, d, inr (r, p))
ends_cut status.Beyond words old new text told faults told_new faults_new d r p = (text, d, inr (r, p))
ends_cut status.NoMemory words old new text told faults told_new faults_new d r p = absurd (no_no_memory words d.0 old new text d.2)

-- a text that was decided on, and its writing, make a run
pub run_ends : (decided ended : Status) (words : List (List ℕ)) (old new : Outside) (text : List ℕ) (told : Option (List ℕ)) (faults : ℕ) (told_new : Option (List ℕ)) (faults_new : ℕ)
    → Decides decided words old new text → Finished decided ended text told faults told_new faults_new → Ends ended words old new told faults told_new faults_new
run_ends decided ended words old new text told faults told_new faults_new d (inl h) =
    let F : Status → Type 0 = λ s. Ends s words old new told faults told_new faults_new in
    subst F (sym h.0) (ends_whole decided words old new text told faults told_new faults_new d h.1)
run_ends decided ended words old new text told faults told_new faults_new d (inr (inl h)) =
    let F : Status → Type 0 = λ s. Ends s words old new told faults told_new faults_new in
    subst F (sym h.0) (ends_cut decided words old new text told faults told_new faults_new d h.1 h.2)
run_ends decided ended words old new text told faults told_new faults_new d (inr (inr h)) =
    let F : Status → Type 0 = λ s. Ends s words old new told faults told_new faults_new in
    subst F (sym h.0) (inr (decided, text, d, h.1))
