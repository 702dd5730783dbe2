use Rattle.text_methods.proofs.Making.{passes}
use Rattle.text_methods.proofs.ends.ended.Goals as goal

pub returns-in-Size : goal.returns-in-Size
returns-in-Size c = λ cs h. passes cs c.args.why c.in-Size.is h
