use Rattle.std.proofs.Common.{Ok, None, Some}
use Rattle.eval_ranges.proofs.SpecialLemmas.{same_tree}
use Rattle.std.proofs.Common.{sym}
use Rattle.language_rules.specs.Lengths.{gives_truth, wrong_result}
use Rattle.eval_instances.proofs.answers.give_bool.Goals as goal

pub returns-in-None-clause-means : goal.returns-in-None-clause-means
returns-in-None-clause-means c =
    same_tree wrong_result (gives_truth c.args.value.now) c.refuse.result (sym c.in-None.ensures) c.refuse.ensures.means
