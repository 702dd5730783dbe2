use Rattle.rp_base.specs.EqualLaws.{equal_equivalence}
use Rattle.rp_base.proofs.laws.equality_is_an_equivalence.Goals as goal

pub returns : goal.returns
returns c = equal_equivalence
