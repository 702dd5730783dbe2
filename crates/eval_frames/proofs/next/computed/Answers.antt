use Rattle.language_rules.specs.Codes.{Gives}
use Rattle.eval_frames.proofs.Answering.{computes_given}
use Rattle.eval_frames.proofs.next.computed.Goals as goal

pub returns-in-Ok-Some-clause-means : goal.returns-in-Ok-Some-clause-means
returns-in-Ok-Some-clause-means c = λ t stack h. computes_given (Gives c.in-Ok-Some.value) t stack (rw c.in-Ok-Some.field-0-is at (rw c.in-Ok-Some.is at h))
