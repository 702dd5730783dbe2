use Rattle.rp_base.specs.PlainValues.{equal_to}
use Rattle.py_store.proofs.EntryLemmas.{entry_is_taken, nothing_is_taken}
use Rattle.py_store.proofs.laws.one_entry_is_taken.Goals as goal

pub returns-clause-found : goal.returns-clause-found
returns-clause-found c = λ key. entry_is_taken (equal_to key)

pub returns-clause-missing : goal.returns-clause-missing
returns-clause-missing c = λ key. nothing_is_taken (equal_to key)
