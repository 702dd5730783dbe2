use Rattle.std.proofs.Common.{Ok, true, false}
use Rattle.eval_instances.proofs.CallLemmas.{told}
use Rattle.language_rules.specs.Calls.{initialised}
use Rattle.eval_instances.specs.Methods.{initialised_if}
use Rattle.eval_instances.proofs.answers.give_instance.Goals as goal

pub returns-then-is_none-clause-means : goal.returns-then-is_none-clause-means
returns-then-is_none-clause-means c =
    told (initialised_if c.args.instance) (initialised c.args.instance c.args.value.now) c.is_none.result true (Ok c.give.result) (c.is_none.ensures c.args.instance) c.if-is_none.true c.give.ensures.means

pub returns-else-is_none-clause-means : goal.returns-else-is_none-clause-means
returns-else-is_none-clause-means c =
    told (initialised_if c.args.instance) (initialised c.args.instance c.args.value.now) c.is_none.result false c.refuse.result (c.is_none.ensures c.args.instance) c.if-is_none.false c.refuse.ensures.means
