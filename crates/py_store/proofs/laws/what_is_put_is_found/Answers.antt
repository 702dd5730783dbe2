use Rattle.rp_base.specs.EqualLaws.{equal_equivalence}
use Rattle.py_store.proofs.EntryLemmas.{found_again}
use Rattle.py_store.proofs.laws.what_is_put_is_found.Goals as goal

pub returns : goal.returns
returns c = λ key other value entries. found_again equal_equivalence other key value entries
