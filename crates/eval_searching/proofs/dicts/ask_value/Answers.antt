use Rattle.std.proofs.Common.{drop, suc}
use Rattle.language_rules.specs.Searching.{values_of}
use Rattle.eval_searching.proofs.ValueLaws.{asked_there, value_there}
use Rattle.eval_searching.proofs.dicts.ask_value.Goals as goal

pub returns-then-at-len-clause-means : goal.returns-then-at-len-clause-means
returns-then-at-len-clause-means c =
    asked_there c.args.dict c.args.shape c.args.at c.args.wanted c.value_at.result.now (values_of c.args.entries.now) (drop (suc c.args.at) (values_of c.args.entries.now)) c.ask_there.result c.ask_there.new.stack.items c.args.stack.now.items
    (value_there c.args.entries.now c.args.at c.value_at.result.now c.value_at.ensures) c.ask_there.ensures.means
