use Rattle.rp_base.specs.PlainValues.{equal_to}
use Rattle.py_store.proofs.EntryLemmas.{new_key_goes_last}
use Rattle.py_store.proofs.laws.new_keys_go_last.Goals as goal

pub returns : goal.returns
returns c = λ key value entries. new_key_goes_last equal_to key value entries
