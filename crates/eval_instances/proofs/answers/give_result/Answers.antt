use Rattle.std.proofs.Common.{true}
use Rattle.language_rules.specs.Arithmetic.{gives_result}
use Rattle.eval_instances.specs.Methods.{result_if}
use Rattle.eval_instances.proofs.CallLemmas.{told}
use Rattle.eval_instances.proofs.answers.give_result.Goals as goal

pub returns-then-is_unknown-clause-means : goal.returns-then-is_unknown-clause-means
returns-then-is_unknown-clause-means c =
    told (result_if c.args.value) (gives_result c.args.value) c.is_unknown.result true c.refuse.result c.is_unknown.ensures.gives c.if-is_unknown.true c.refuse.ensures.means
