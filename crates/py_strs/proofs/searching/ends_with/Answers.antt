use Rattle.py_strs.proofs.Places.{ends}
use Rattle.py_strs.proofs.searching.ends_with.Goals as goal

pub returns : goal.returns
returns c = ends c.ends_with.result c.args.s.now c.args.part.now c.utf8.s c.utf8.part c.ends_with.ensures.cases
