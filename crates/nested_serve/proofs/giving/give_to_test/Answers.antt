use Rattle.language_rules.specs.AtOnce.{stated}
use Rattle.language_rules.specs.Going.{on_value}
use Rattle.language_rules.specs.Truth.{on_truth}
use Rattle.eval_frames.specs.Meaning.{decides}
use Rattle.nested_serve.proofs.Steps.{given_in, passes_over}
use Rattle.nested_serve.proofs.giving.give_to_test.Goals as goal

pub returns-in-Ok-clause-means : goal.returns-in-Ok-clause-means
returns-in-Ok-clause-means c = given_in c.test.result c.test.new.stack.items c.args.stack.now.items c.args.texts.now (λ v. on_truth v (decides c.args.decision v)) c.args.completion c.in-Ok.value c.in-Ok.ensures c.test.ensures.means

pub returns-in-Err-clause-means : goal.returns-in-Err-clause-means
returns-in-Err-clause-means c = λ fixed cells. passes_over (stated fixed cells c.args.texts.now) c.args.stack.now.items (on_value (λ v. on_truth v (decides c.args.decision v)) c.args.completion) c.in-Err.end (c.in-Err.ensures (λ v. on_truth v (decides c.args.decision v)))
