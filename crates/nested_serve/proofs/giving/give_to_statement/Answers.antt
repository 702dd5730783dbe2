use Rattle.language_rules.specs.AtOnce.{stated}
use Rattle.language_rules.specs.Going.{on_value}
use Rattle.eval_frames.specs.Meaning.{through_statement}
use Rattle.nested_serve.proofs.Steps.{given_over, passes_over}
use Rattle.nested_serve.proofs.giving.give_to_statement.Goals as goal

pub returns-in-Ok-clause-means : goal.returns-in-Ok-clause-means
returns-in-Ok-clause-means c = given_over c.give_statement.result c.give_statement.new.stack.items c.args.stack.now.items c.args.texts.now c.args.store.now.cells c.give_statement.new.store.cells (through_statement c.args.frame) c.args.completion c.in-Ok.value c.in-Ok.ensures c.give_statement.ensures.means

pub returns-in-Err-clause-means : goal.returns-in-Err-clause-means
returns-in-Err-clause-means c = λ fixed. passes_over (stated fixed c.args.store.now.cells c.args.texts.now) c.args.stack.now.items (on_value (through_statement c.args.frame) c.args.completion) c.in-Err.end (c.in-Err.ensures (through_statement c.args.frame))
