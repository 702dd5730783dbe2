use Rattle.py_store.proofs.IdentityLemmas.{kind_is_told}
use Rattle.py_store.proofs.laws.identities_tell_kinds.Goals as goal

pub returns : goal.returns
returns c = kind_is_told
