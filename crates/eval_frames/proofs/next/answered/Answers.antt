use Rattle.language_rules.specs.Codes.{Gives, Raises}
use Rattle.eval_frames.proofs.Answering.{comes_given, comes_left}
use Rattle.eval_frames.proofs.next.answered.Goals as goal

pub returns-in-Ok-clause-means : goal.returns-in-Ok-clause-means
returns-in-Ok-clause-means c = λ s t stack h. comes_given (Gives c.in-Ok.value) s t stack (rw c.in-Ok.is at h)

pub returns-in-Err-Raise-clause-means : goal.returns-in-Err-Raise-clause-means
returns-in-Err-Raise-clause-means c = λ s t stack h. comes_given (Raises c.in-Err-Raise.raised) s t stack (rw c.in-Err-Raise.field-0-is at (rw c.in-Err-Raise.is at h))

pub returns-in-Err-Beyond-clause-means : goal.returns-in-Err-Beyond-clause-means
returns-in-Err-Beyond-clause-means c = λ s t stack h. comes_left c.in-Err-Beyond.beyond s t stack (rw c.in-Err-Beyond.field-0-is at (rw c.in-Err-Beyond.is at h))
