use Rattle.std.proofs.Common.{ap, None}
use Rattle.language_rules.specs.Lengths.{wrong_result, on_counted, on_length}
use Rattle.eval_ranges.proofs.SpecialLemmas.{same_tree}
use Rattle.eval_instances.specs.Methods.{counting}
use Rattle.eval_instances.proofs.lengths.give_length.Goals as goal

pub returns-in-None-clause-means : goal.returns-in-None-clause-means
returns-in-None-clause-means c =
    same_tree wrong_result (on_length (counting c.args.is_truth) c.args.value.now) c.refuse.result (ap (on_counted (counting c.args.is_truth)) c.in-None.ensures) c.refuse.ensures.means
