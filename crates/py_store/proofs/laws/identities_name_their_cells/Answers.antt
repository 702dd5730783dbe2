use Rattle.py_store.proofs.IdentityLemmas.{number_is_named}
use Rattle.py_store.proofs.laws.identities_name_their_cells.Goals as goal

pub returns : goal.returns
returns c = number_is_named
