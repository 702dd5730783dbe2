use Rattle.py_strs.proofs.Places.{begins}
use Rattle.py_strs.proofs.searching.starts_with.Goals as goal

pub returns : goal.returns
returns c = begins c.starts_with.result c.args.s.now c.args.part.now c.utf8.s c.utf8.part c.starts_with.ensures.cases
