use Rattle.std.proofs.Common.{map, string_bytes, Global}
use Rattle.rpyc_cmd.specs.Outcome.{outside}
use Rattle.rpyc_cmd.proofs.Outcomes.{run_ends}
use Rattle.rpyc_cmd.proofs.decide.run_cmd.Goals as goal

pub returns-in-Ok-clause-ends : goal.returns-in-Ok-clause-ends
returns-in-Ok-clause-ends g c =
    let words = map (string_bytes {Z = Global}) c.args.words.now in
    let old = outside g.F.Files.held g.F.Files.fault_count g.W.Wire.carried g.W.Wire.begun g.W.Wire.fault_count c.args.files.now c.args.ab.now c.args.ba.now in
    let new = outside g.F.Files.held g.F.Files.fault_count g.W.Wire.carried g.W.Wire.begun g.W.Wire.fault_count c.decide.new.files c.decide.new.ab c.decide.new.ba in
    run_ends c.in-Ok.decided.status c.finish.result words old new c.in-Ok.decided.text
    (g.K.Sink.told c.args.out.now) (g.K.Sink.fault_count c.args.out.now) (g.K.Sink.told c.finish.new.out) (g.K.Sink.fault_count c.finish.new.out) c.in-Ok.ensures.decided c.finish.ensures
