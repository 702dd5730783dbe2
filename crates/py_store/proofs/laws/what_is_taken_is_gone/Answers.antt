use Rattle.rp_base.specs.EqualLaws.{equal_equivalence}
use Rattle.py_store.proofs.EntryLemmas.{taken_is_gone}
use Rattle.py_store.proofs.laws.what_is_taken_is_gone.Goals as goal

pub returns : goal.returns
returns c = λ key other entries. taken_is_gone equal_equivalence other key entries
