use Rattle.std.proofs.Common.{chars}
use Rattle.text_methods.proofs.Cutting.{one_end}
use Rattle.text_methods.proofs.searching.ends_in.Goals as goal

pub returns : goal.returns
returns c = one_end (chars c.args.text.now) (chars c.args.part.now) c.ends_with.result c.ends_with.ensures
