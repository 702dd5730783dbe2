use Rattle.language_rules.specs.Arithmetic.{less_instance}
use Rattle.eval_instances.proofs.CallLemmas.{kinded}
use Rattle.eval_instances.proofs.operations.less.Goals as goal

pub returns-clause-means : goal.returns-clause-means
returns-clause-means c =
    kinded c.args.store.now.cells c.args.x.now (less_instance c.args.number) c.kind_of_value.result c.less_kind.result (λ fixed texts. c.kind_of_value.ensures fixed texts) c.less_kind.ensures.means
