use Rattle.std.proofs.Common.{refl, inr}
use Rattle.rpyc_cmd.specs.Outcome.{Scripts, outside}
use Rattle.rpyc_cmd.proofs.Outcomes.{run_gives, scripts_refused, scripts_of}
use Rattle.rpyc_cmd.proofs.decide.decide_pair.Goals as goal

pub returns-in-Ok-decide_run-clause-decided : goal.returns-in-Ok-decide_run-clause-decided
returns-in-Ok-decide_run-clause-decided g c =
    let held = g.F.Files.held c.args.files.now in
    let old = outside g.F.Files.held g.F.Files.fault_count g.W.Wire.carried g.W.Wire.begun g.W.Wire.fault_count c.args.files.now c.args.ab.now c.args.ba.now in
    let new = outside g.F.Files.held g.F.Files.fault_count g.W.Wire.carried g.W.Wire.begun g.W.Wire.fault_count c.read_file-2.new.files c.decide_run.new.ab c.decide_run.new.ba in
    let s : Scripts c.args.name_a.now c.args.name_b.now held = scripts_of held (g.F.Files.held c.read_file.new.files) c.args.name_a.now c.args.name_b.now c.in_ok-text_a.text_a c.as_slice.result.now c.in_ok-text_b.text_b c.as_slice-2.result.now c.in_ok-text_a.ensures.read c.as_slice.ensures c.in_ok-text_a.ensures.kept c.in_ok-text_b.ensures.read c.as_slice-2.ensures in
    run_gives c.in-Ok-decide_run.decided.status c.args.name_a.now c.args.name_b.now old new s c.in-Ok.scripts.letters.items c.in-Ok.scripts.bindings.items c.in-Ok-decide_run.decided.text c.in-Ok.ensures.accepted c.in-Ok-decide_run.ensures.decided

pub returns-clause-refused : goal.returns-clause-refused
returns-clause-refused g c =
    let held = g.F.Files.held c.args.files.now in
    let old = outside g.F.Files.held g.F.Files.fault_count g.W.Wire.carried g.W.Wire.begun g.W.Wire.fault_count c.args.files.now c.args.ab.now c.args.ba.now in
    let new = outside g.F.Files.held g.F.Files.fault_count g.W.Wire.carried g.W.Wire.begun g.W.Wire.fault_count c.read_file-2.new.files c.args.ab.now c.args.ba.now in
    let s : Scripts c.args.name_a.now c.args.name_b.now held = scripts_of held (g.F.Files.held c.read_file.new.files) c.args.name_a.now c.args.name_b.now c.in_ok-text_a.text_a c.as_slice.result.now c.in_ok-text_b.text_b c.as_slice-2.result.now c.in_ok-text_a.ensures.read c.as_slice.ensures c.in_ok-text_a.ensures.kept c.in_ok-text_b.ensures.read c.as_slice-2.ensures in
    scripts_refused c.in-Err.stop c.args.name_a.now c.args.name_b.now old new s refl c.in-Err.ensures.refused

pub returns-in-Ok-clause-cut : goal.returns-in-Ok-clause-cut
returns-in-Ok-clause-cut g c =
    let held = g.F.Files.held c.args.files.now in
    let s : Scripts c.args.name_a.now c.args.name_b.now held = scripts_of held (g.F.Files.held c.read_file.new.files) c.args.name_a.now c.args.name_b.now c.in_ok-text_a.text_a c.as_slice.result.now c.in_ok-text_b.text_b c.as_slice-2.result.now c.in_ok-text_a.ensures.read c.as_slice.ensures c.in_ok-text_a.ensures.kept c.in_ok-text_b.ensures.read c.as_slice-2.ensures in
    inr (s, c.in-Ok.scripts.letters.items, c.in-Ok.scripts.bindings.items, c.in-Ok.ensures.accepted, c.in-Err-decide_run.ensures.part)
