use Rattle.eval_handlers.proofs.FirstNames.{first_reserved}
use Rattle.eval_handlers.proofs.reserving.a_first_text_reserves_its_names.Goals as goal

pub returns : goal.returns
returns c = first_reserved
