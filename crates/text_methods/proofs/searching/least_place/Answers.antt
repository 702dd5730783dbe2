use Rattle.std.proofs.Common.{chars}
use Rattle.text_methods.proofs.Cutting.{one_place}
use Rattle.text_methods.proofs.searching.least_place.Goals as goal

pub returns : goal.returns
returns c = one_place (chars c.args.text.now) (chars c.args.part.now) c.find_text.result c.find_text.ensures
