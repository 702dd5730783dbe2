use Rattle.eval_handlers.proofs.ExceptionTexts.{text_left, text_told}
use Rattle.eval_handlers.proofs.telling.tell_text.Goals as goal

pub returns-in-Ok-clause-means : goal.returns-in-Ok-clause-means
returns-in-Ok-clause-means c = λ t stack h. text_told t c.in-Ok.text stack (rw c.in-Ok.is at h)

pub returns-in-Err-Beyond-clause-means : goal.returns-in-Err-Beyond-clause-means
returns-in-Err-Beyond-clause-means c = λ t stack h. text_left t c.in-Err-Beyond.beyond stack (rw c.in-Err-Beyond.field-0-is at (rw c.in-Err-Beyond.is at h))
