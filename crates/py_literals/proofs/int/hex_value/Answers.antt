use Rattle.std.proofs.Common.{arith}
use Rattle.std.proofs.lemmas.Grind.{common_steps}
use Rattle.py_lexer.proofs.SizeLaws.{hex_push}
use Rattle.py_literals.proofs.int.hex_value.Goals as goal

pub loop-digit-preserved : goal.loop-digit-preserved
loop-digit-preserved c = (grind (arith, common_steps), grind (arith, common_steps, hex_push))
