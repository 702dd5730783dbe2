use Rattle.std.proofs.Common.{arith}
use Rattle.std.proofs.lemmas.Grind.{common_steps}
use Rattle.py_ints.specs.IntLaws.{natural_push}
use Rattle.py_ints.proofs.reading.saturated.Goals as goal

pub loop-digit-preserved : goal.loop-digit-preserved
loop-digit-preserved c = (grind (arith, common_steps), grind (arith, common_steps, natural_push))
