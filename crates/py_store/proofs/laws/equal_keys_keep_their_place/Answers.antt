use Rattle.rp_base.specs.PlainValues.{equal_to}
use Rattle.py_store.proofs.EntryLemmas.{equal_key_stays}
use Rattle.py_store.proofs.laws.equal_keys_keep_their_place.Goals as goal

pub returns : goal.returns
returns c = λ key value entries. equal_key_stays equal_to key value entries
