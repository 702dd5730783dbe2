use Rattle.language_rules.specs.Arithmetic.{less_view}
use Rattle.eval_ranges.proofs.SpecialLemmas.{by_kind}
use Rattle.eval_ranges.proofs.answers.less_view.Goals as goal

pub returns-clause-means : goal.returns-clause-means
returns-clause-means c = by_kind c.args.store.now.cells c.args.other.now less_view c.kind_of_value.result c.less_kind.result (λ fixed texts. c.kind_of_value.ensures fixed texts) c.less_kind.ensures.means
