use Rattle.std.proofs.Common.{◌∙◌}
use Rattle.rpyc_cmd.proofs.RunWords.{same_fuel, no_fuel}
use Rattle.rpyc_cmd.proofs.words.fuel_of.Goals as goal

pub returns-in-Ok : goal.returns-in-Ok
returns-in-Ok c = c.fuel_within.ensures ∙ same_fuel c.args.word.now c.in-Ok.fuel c.from_str_radix.result c.in-Ok.is c.from_str_radix.ensures.value

pub returns-in-Err : goal.returns-in-Err
returns-in-Err c = no_fuel c.args.word.now c.in-Err.field-0 c.from_str_radix.result c.in-Err.is c.from_str_radix.ensures.value
