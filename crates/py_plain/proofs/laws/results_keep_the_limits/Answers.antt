use Rattle.py_plain.proofs.Limits.{light, no_deeper}
use Rattle.py_plain.proofs.laws.results_keep_the_limits.Goals as goal

pub returns : goal.returns
returns c = record { weight = light; depth = no_deeper }
