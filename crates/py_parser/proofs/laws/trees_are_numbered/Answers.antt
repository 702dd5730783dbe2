use Rattle.py_parser.proofs.DerivedLaws.{derived_is_numbered}
use Rattle.py_parser.proofs.laws.trees_are_numbered.Goals as goal

pub returns : goal.returns
returns c = derived_is_numbered
