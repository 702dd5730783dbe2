use Rattle.std.proofs.Common.{sym, ◌∙◌, string_bytes}
use Rattle.report_text.proofs.Steps.{prints_fault, whole_dump}
use Rattle.report_text.proofs.streams.dump.Goals.{in-Ok, in-Err-Fault}
use Rattle.report_text.proofs.streams.dump.Goals as goal

pub returns : goal.returns
returns c =
    let out = c.from_string.ensures ∙ c.in_ok-push_fault.ensures in
    elim c.match-push_lines.branch [
      | in-Ok w ↦ whole_dump c.args.bytes.now (string_bytes c.new-text.result) (string_bytes c.push_lines.new.text) c.from_string.result c.match-push_lines.fault c.new-text.ensures.bytes w.in-Ok.ensures.0 (w.in-Ok.ensures.1 ∙ sym w.fault-is) out
      | in-Err-Fault w ↦
          let told = prints_fault c.args.bytes.now (string_bytes c.new-text.result) (string_bytes c.push_lines.new.text) w.in-Err-Fault.field-0 w.in-Err-Fault.fault w.in-Err-Fault.field-0-is w.in-Err-Fault.ensures in
          whole_dump c.args.bytes.now (string_bytes c.new-text.result) (string_bytes c.push_lines.new.text) c.from_string.result c.match-push_lines.fault c.new-text.ensures.bytes told.0 (told.1 ∙ sym w.fault-is) out
    ]
