use Rattle.std.proofs.Common.{Ok, true, false}
use Rattle.eval_instances.proofs.CallLemmas.{told}
use Rattle.language_rules.specs.Printing.{text_result}
use Rattle.eval_instances.specs.Methods.{text_if}
use Rattle.eval_instances.proofs.answers.give_text.Goals as goal

pub returns-then-is_text-clause-means : goal.returns-then-is_text-clause-means
returns-then-is_text-clause-means c =
    told (text_if c.args.value) (text_result c.args.value) c.is_text.result true (Ok c.give.result) c.is_text.ensures c.if-is_text.true c.give.ensures.means

pub returns-else-is_text-clause-means : goal.returns-else-is_text-clause-means
returns-else-is_text-clause-means c =
    told (text_if c.args.value) (text_result c.args.value) c.is_text.result false c.refuse.result c.is_text.ensures c.if-is_text.false c.refuse.ensures.means
