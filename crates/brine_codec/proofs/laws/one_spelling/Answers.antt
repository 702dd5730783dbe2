use Rattle.brine_codec.proofs.Meets.{spelled_once}
use Rattle.brine_codec.proofs.laws.one_spelling.Goals as goal

pub returns : goal.returns
returns c = spelled_once
