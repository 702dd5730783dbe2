use Rattle.language_rules.proofs.AloneLaw.{script_alone}
use Rattle.language_rules.proofs.alone_laws.a_script_alone_is_one_side.Goals as goal

pub returns : goal.returns
returns c = script_alone
