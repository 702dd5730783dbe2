use Rattle.rp_base.specs.PlainValues.{equal_to}
use Rattle.rp_base.specs.EqualLaws.{equal_equivalence}
use Rattle.py_store.proofs.EntryLemmas.{more_stay_unequal, fewer_stay_unequal}
use Rattle.py_store.proofs.laws.keys_stay_unequal.Goals as goal

pub returns-clause-put : goal.returns-clause-put
returns-clause-put c = more_stay_unequal equal_equivalence

pub returns-clause-taken : goal.returns-clause-taken
returns-clause-taken c = λ key. fewer_stay_unequal equal_to (equal_to key)
