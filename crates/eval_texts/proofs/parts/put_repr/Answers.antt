use Rattle.std.proofs.Common.{string_bytes}
use Rattle.eval_texts.proofs.PartLaws.{item_comes}
use Rattle.eval_texts.proofs.parts.put_repr.Goals as goal

pub returns-clause-item : goal.returns-clause-item
returns-clause-item c = λ f. item_comes f (string_bytes c.args.made.now) c.args.plain.now (string_bytes c.append_repr.new.made) c.append_repr.result c.append_repr.ensures.comes
