use Rattle.message_core.specs.declared.reading.Form.TheVariants as form
use Rattle.message_core.proofs.ReadingLaws.{of_form, of_fault}
use Rattle.message_core.proofs.reading.read.Goals as goal

pub returns-in-Err : goal.returns-in-Err
returns-in-Err c = of_fault c.args.p.now c.in-Err.fault c.in-Err.ensures

pub returns-in-Request : goal.returns-in-Request
returns-in-Request c = of_form c.args.p.now c.in-Ok.seen.form (form.Request c.in-Request.handler) c.in-Ok.seen.seq c.in-Ok.seen.content.now c.in_ok-content.content c.in-Request.is c.in_ok-content.ensures c.in-Ok.ensures

pub returns-in-Reply : goal.returns-in-Reply
returns-in-Reply c = of_form c.args.p.now c.in-Ok.seen.form form.Reply c.in-Ok.seen.seq c.in-Ok.seen.content.now c.in_ok-content.content c.in-Reply.is c.in_ok-content.ensures c.in-Ok.ensures

pub returns-in-Exception : goal.returns-in-Exception
returns-in-Exception c = of_form c.args.p.now c.in-Ok.seen.form form.Exception c.in-Ok.seen.seq c.in-Ok.seen.content.now c.in_ok-content.content c.in-Exception.is c.in_ok-content.ensures c.in-Ok.ensures
