use Rattle.language_rules.specs.Searching.{values_of}
use Rattle.eval_searching.proofs.ValueLaws.{value_stepped_ok, value_there}
use Rattle.eval_searching.proofs.values.search_value_at.Goals as goal

pub returns : goal.returns
returns c = value_stepped_ok c.args.at c.args.wanted.now c.value_at.result.now (values_of c.args.entries.now) c.found_at_once.result c.found_at_once.ensures (value_there c.args.entries.now c.args.at c.value_at.result.now c.value_at.ensures)
