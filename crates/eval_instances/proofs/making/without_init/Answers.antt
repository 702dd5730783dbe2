use Rattle.std.proofs.Common.{Ok, None, true, false}
use Rattle.eval_instances.proofs.CallLemmas.{told}
use Rattle.language_rules.specs.Calls.{initialises}
use Rattle.eval_instances.specs.Methods.{made_if}
use Rattle.eval_instances.proofs.making.without_init.Goals as goal

pub returns-then-is_empty-clause-means : goal.returns-then-is_empty-clause-means
returns-then-is_empty-clause-means c =
    told (made_if c.args.instance) (initialises c.args.instance c.args.arguments.now None) c.is_empty.result true (Ok c.give.result) (c.is_empty.ensures c.args.instance) c.if-is_empty.true c.give.ensures.means

pub returns-else-is_empty-clause-means : goal.returns-else-is_empty-clause-means
returns-else-is_empty-clause-means c =
    told (made_if c.args.instance) (initialises c.args.instance c.args.arguments.now None) c.is_empty.result false c.refuse.result (c.is_empty.ensures c.args.instance) c.if-is_empty.false c.refuse.ensures.means
