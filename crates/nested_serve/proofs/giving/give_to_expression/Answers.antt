use Rattle.language_rules.specs.AtOnce.{stated}
use Rattle.language_rules.specs.Going.{on_value}
use Rattle.eval_frames.specs.Meaning.{through_expression}
use Rattle.nested_serve.proofs.Steps.{given_cells, passes_over}
use Rattle.nested_serve.proofs.giving.give_to_expression.Goals as goal

pub returns-in-Ok-clause-means : goal.returns-in-Ok-clause-means
returns-in-Ok-clause-means c = given_cells c.give_expression.result c.give_expression.new.stack.items c.args.stack.now.items c.args.store.now.cells (through_expression c.args.frame) c.args.completion c.in-Ok.value c.in-Ok.ensures c.give_expression.ensures.means

pub returns-in-Err-clause-means : goal.returns-in-Err-clause-means
returns-in-Err-clause-means c = λ fixed texts. passes_over (stated fixed c.args.store.now.cells texts) c.args.stack.now.items (on_value (through_expression c.args.frame) c.args.completion) c.in-Err.end (c.in-Err.ensures (through_expression c.args.frame))
