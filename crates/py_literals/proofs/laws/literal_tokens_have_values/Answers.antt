use Rattle.py_literals.proofs.TokenLaw.{all_have_values}
use Rattle.py_literals.proofs.laws.literal_tokens_have_values.Goals as goal

pub returns : goal.returns
returns c = all_have_values
