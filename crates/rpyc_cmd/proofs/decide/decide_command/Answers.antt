use Rattle.std.proofs.Common.{ℕ, List, Result, Ok, Err, IfErr, IfOk, subst, sym, refl}
use Rattle.rpyc_cmd.specs.Deciding.{IfNoMemory}
use Rattle.rpyc_cmd.specs.declared.decide.Decided.{Decided}
use Rattle.rpyc_cmd.specs.declared.decide.Stop.{Stop}
use Rattle.rpyc_cmd.specs.declared.words.Command.{Command}
use Rattle.rpyc_cmd.specs.Outcome.{Outside, Unbegun, RunsAlone, AloneGives, Gives, AskedRunsOut, outside}
use Rattle.rpyc_cmd.specs.Words.{asked_by}
use Rattle.rpyc_cmd.proofs.Outcomes.{alone_gives}
use Rattle.rpyc_cmd.proofs.decide.decide_command.Goals as goal

pub returns-in-Pair-clause-cut : goal.returns-in-Pair-clause-cut
returns-in-Pair-clause-cut g c =
    let old = outside g.F.Files.held g.F.Files.fault_count g.W.Wire.carried g.W.Wire.begun g.W.Wire.fault_count c.args.files.now c.args.ab.now c.args.ba.now in
    let new = outside g.F.Files.held g.F.Files.fault_count g.W.Wire.carried g.W.Wire.begun g.W.Wire.fault_count c.decide_pair.new.files c.decide_pair.new.ab c.decide_pair.new.ba in
    let P : Command → Type 0 = λ k. IfErr c.decide_pair.result (IfNoMemory (AskedRunsOut (asked_by k) old new)) in
    subst P (sym c.in-Pair.is) c.decide_pair.ensures.cut

each_gives : (r : Result Decided Stop) (file : List ℕ) (fuel : ℕ) (old new : Outside) → Unbegun old new
    → IfOk r (λ d. RunsAlone file fuel old.held d.status d.text) → IfOk r (λ d. AloneGives d.status file fuel old new d.text)
each_gives (Ok d) file fuel old new same h = alone_gives d.status file fuel old new d.text same h
each_gives (Err stopped) file fuel old new same h = h

pub returns-in-Run-clause-decided : goal.returns-in-Run-clause-decided
returns-in-Run-clause-decided g c =
    let old = outside g.F.Files.held g.F.Files.fault_count g.W.Wire.carried g.W.Wire.begun g.W.Wire.fault_count c.args.files.now c.args.ab.now c.args.ba.now in
    let new = outside g.F.Files.held g.F.Files.fault_count g.W.Wire.carried g.W.Wire.begun g.W.Wire.fault_count c.decide_alone.new.files c.args.ab.now c.args.ba.now in
    let P : Command → Type 0 = λ k. IfOk c.decide_alone.result (λ d. Gives d.status (asked_by k) old new d.text) in
    subst P (sym c.in-Run.is) (each_gives c.decide_alone.result c.in-Run.file.now c.in-Run.fuel old new refl c.decide_alone.ensures.decided)
