use Rattle.std.proofs.Common.{chars}
use Rattle.text_methods.proofs.Cutting.{one_beginning}
use Rattle.text_methods.proofs.searching.begins.Goals as goal

pub returns : goal.returns
returns c = one_beginning (chars c.args.text.now) (chars c.args.part.now) c.starts_with.result c.starts_with.ensures
