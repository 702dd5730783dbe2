use Rattle.language_rules.specs.AtOnce.{stated}
use Rattle.language_rules.specs.Going.{on_value}
use Rattle.eval_frames.specs.MethodFrames.{through_method}
use Rattle.nested_serve.proofs.Steps.{given_cells, passes_over}
use Rattle.nested_serve.proofs.giving.give_to_method.Goals as goal

pub returns-in-Ok-clause-means : goal.returns-in-Ok-clause-means
returns-in-Ok-clause-means c = given_cells c.give_method.result c.give_method.new.stack.items c.args.stack.now.items c.args.store.now.cells (through_method c.args.frame) c.args.completion c.in-Ok.value c.in-Ok.ensures c.give_method.ensures.means

pub returns-in-Err-clause-means : goal.returns-in-Err-clause-means
returns-in-Err-clause-means c = λ fixed texts. passes_over (stated fixed c.args.store.now.cells texts) c.args.stack.now.items (on_value (through_method c.args.frame) c.args.completion) c.in-Err.end (c.in-Err.ensures (through_method c.args.frame))
