use Rattle.std.proofs.Common.{map, string_bytes, refl, Global}
use Rattle.rpyc_cmd.specs.Outcome.{outside}
use Rattle.rpyc_cmd.specs.Words.{asked_by}
use Rattle.rpyc_cmd.proofs.Outcomes.{asked_decides, asked_refused, asked_runs_out}
use Rattle.rpyc_cmd.proofs.WordsLaws.{command_gives, command_refuses}
use Rattle.rpyc_cmd.proofs.decide.decide.Goals as goal

pub returns-in-Ok-decide_command-clause-decided : goal.returns-in-Ok-decide_command-clause-decided
returns-in-Ok-decide_command-clause-decided g c =
    let words = map (string_bytes {Z = Global}) c.args.words.now in
    let asked = asked_by c.in-Ok.command in
    let old = outside g.F.Files.held g.F.Files.fault_count g.W.Wire.carried g.W.Wire.begun g.W.Wire.fault_count c.args.files.now c.args.ab.now c.args.ba.now in
    let new = outside g.F.Files.held g.F.Files.fault_count g.W.Wire.carried g.W.Wire.begun g.W.Wire.fault_count c.decide_command.new.files c.decide_command.new.ab c.decide_command.new.ba in
    asked_decides c.in-Ok-decide_command.decided.status words asked old new c.in-Ok-decide_command.decided.text (command_gives words asked c.in-Ok.ensures) c.in-Ok-decide_command.ensures.decided

pub returns-in-Err-Refused-clause-decided : goal.returns-in-Err-Refused-clause-decided
returns-in-Err-Refused-clause-decided g c =
    let words = map (string_bytes {Z = Global}) c.args.words.now in
    let asked = asked_by c.in-Ok.command in
    let old = outside g.F.Files.held g.F.Files.fault_count g.W.Wire.carried g.W.Wire.begun g.W.Wire.fault_count c.args.files.now c.args.ab.now c.args.ba.now in
    let new = outside g.F.Files.held g.F.Files.fault_count g.W.Wire.carried g.W.Wire.begun g.W.Wire.fault_count c.decide_command.new.files c.decide_command.new.ab c.decide_command.new.ba in
    asked_refused c.in-Err-Refused.field-0 c.in-Err-Refused.decided words asked old new (command_gives words asked c.in-Ok.ensures) c.in-Err-Refused.field-0-is c.in-Err-Refused.ensures.refused

pub returns-in-Err-NoMemory-clause-cut : goal.returns-in-Err-NoMemory-clause-cut
returns-in-Err-NoMemory-clause-cut g c =
    let words = map (string_bytes {Z = Global}) c.args.words.now in
    let asked = asked_by c.in-Ok.command in
    let old = outside g.F.Files.held g.F.Files.fault_count g.W.Wire.carried g.W.Wire.begun g.W.Wire.fault_count c.args.files.now c.args.ab.now c.args.ba.now in
    let new = outside g.F.Files.held g.F.Files.fault_count g.W.Wire.carried g.W.Wire.begun g.W.Wire.fault_count c.decide_command.new.files c.decide_command.new.ab c.decide_command.new.ba in
    asked_runs_out c.in-Err-NoMemory.field-0 words asked old new (command_gives words asked c.in-Ok.ensures) c.in-Err-NoMemory.field-0-is c.in-Err-NoMemory.ensures.cut

pub returns-in_ok-words_text-in-Err-clause-decided : goal.returns-in_ok-words_text-in-Err-clause-decided
returns-in_ok-words_text-in-Err-clause-decided g c =
    let words = map (string_bytes {Z = Global}) c.args.words.now in
    (c.in-Err.at, command_refuses words c.in-Err.at c.in-Err.ensures, c.in_ok-words_text-in-Err.ensures, refl, refl)
