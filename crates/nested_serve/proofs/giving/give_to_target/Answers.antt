use Rattle.language_rules.specs.AtOnce.{stated}
use Rattle.language_rules.specs.Going.{on_value}
use Rattle.eval_frames.specs.TargetFrames.{through_target}
use Rattle.nested_serve.proofs.Steps.{given_over, passes_over}
use Rattle.nested_serve.proofs.giving.give_to_target.Goals as goal

pub returns-in-Ok-clause-means : goal.returns-in-Ok-clause-means
returns-in-Ok-clause-means c = given_over c.give_target.result c.give_target.new.stack.items c.args.stack.now.items c.args.texts.now c.args.store.now.cells c.give_target.new.store.cells (through_target c.args.frame) c.args.completion c.in-Ok.value c.in-Ok.ensures c.give_target.ensures.means

pub returns-in-Err-clause-means : goal.returns-in-Err-clause-means
returns-in-Err-clause-means c = λ fixed. passes_over (stated fixed c.args.store.now.cells c.args.texts.now) c.args.stack.now.items (on_value (through_target c.args.frame) c.args.completion) c.in-Err.end (c.in-Err.ensures (through_target c.args.frame))
