use Rattle.std.proofs.Common.{Ok, true, false}
use Rattle.eval_instances.proofs.CallLemmas.{told}
use Rattle.language_rules.specs.Iterating.{gives_iterator}
use Rattle.eval_instances.specs.Methods.{iterator_if}
use Rattle.eval_instances.proofs.answers.iterator_of_kind.Goals as goal

pub returns-then-may_iterate-clause-means : goal.returns-then-may_iterate-clause-means
returns-then-may_iterate-clause-means c =
    told (iterator_if c.args.value) (gives_iterator c.args.value c.args.kind) c.may_iterate.result true (Ok c.give.result) (c.may_iterate.ensures c.args.value) c.if-may_iterate.true c.give.ensures.means

pub returns-else-may_iterate-clause-means : goal.returns-else-may_iterate-clause-means
returns-else-may_iterate-clause-means c =
    told (iterator_if c.args.value) (gives_iterator c.args.value c.args.kind) c.may_iterate.result false c.refuse.result (c.may_iterate.ensures c.args.value) c.if-may_iterate.false c.refuse.ensures.means
