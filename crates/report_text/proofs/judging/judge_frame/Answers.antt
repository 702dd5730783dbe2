use Rattle.report_text.proofs.Steps.{judged_brine, judged_fault, judged_message}
use Rattle.report_text.proofs.judging.judge_frame.Goals as goal

pub returns-in-Err : goal.returns-in-Err
returns-in-Err c = rw c.brine_end.ensures (judged_brine c.args.start c.args.body.now c.in-Err.end c.in-Err.ensures.first)

pub returns-in-Ok-read : goal.returns-in-Ok-read
returns-in-Ok-read c = judged_message c.args.start c.args.body.now c.in-Ok.value c.in-Ok-read.message c.in-Ok.ensures.first c.in-Ok-read.ensures

pub returns : goal.returns
returns c = rw c.message_end.ensures (judged_fault c.args.start c.args.body.now c.in-Ok.value c.in-Err-read.fault c.in-Ok.ensures.first c.in-Err-read.ensures)
