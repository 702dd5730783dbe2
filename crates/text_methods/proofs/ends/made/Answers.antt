use Rattle.text_methods.proofs.Making.{fits, not_made}
use Rattle.text_methods.proofs.ends.made.Goals as goal

pub returns-in-Ok : goal.returns-in-Ok
returns-in-Ok c = λ cs h. fits cs c.args.answer c.in-Ok.text c.from_string.result c.in-Ok.is c.from_string.ensures h

pub returns-in-Err : goal.returns-in-Err
returns-in-Err c = λ cs h. c.ended.ensures cs (not_made cs c.args.answer c.in-Err.why c.in-Err.is h)
