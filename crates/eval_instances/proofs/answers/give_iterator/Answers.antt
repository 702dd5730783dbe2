use Rattle.language_rules.specs.Iterating.{gives_iterator}
use Rattle.eval_ranges.proofs.SpecialLemmas.{by_kind}
use Rattle.eval_instances.proofs.answers.give_iterator.Goals as goal

pub returns-clause-means : goal.returns-clause-means
returns-clause-means c =
    by_kind c.args.store.now.cells c.args.value (gives_iterator c.args.value) c.kind_of_value-kind.result c.iterator_of_kind.result (λ fixed texts. c.kind_of_value-kind.ensures fixed texts) c.iterator_of_kind.ensures.means
