use Rattle.eval_frames.specs.declared.frame.Frame.TheVariants as frame
use Rattle.nested_serve.proofs.Steps.{at_frame_anywhere, at_frame_cells, at_frame_over}
use Rattle.nested_serve.proofs.ClassSteps.{at_frame_over_cells}
use Rattle.nested_serve.proofs.giving.give.Goals as goal

pub returns-in-While-clause-means : goal.returns-in-While-clause-means
returns-in-While-clause-means c = at_frame_anywhere c.end_turn.result c.end_turn.new.stack.items c.args.stack.now.items c.args.store.now.cells c.args.texts.now c.args.frame _ c.args.completion c.in-While.is c.end_turn.ensures.means

pub returns-in-Expression-clause-means : goal.returns-in-Expression-clause-means
returns-in-Expression-clause-means c = at_frame_cells c.give_to_expression.result c.give_to_expression.new.stack.items c.args.stack.now.items c.args.store.now.cells c.args.texts.now c.args.frame (frame.Expression c.in-Expression.frame) c.args.completion c.in-Expression.is c.give_to_expression.ensures.means

pub returns-in-Statement-clause-means : goal.returns-in-Statement-clause-means
returns-in-Statement-clause-means c = at_frame_over c.give_to_statement.result c.give_to_statement.new.stack.items c.args.stack.now.items c.args.store.now.cells c.give_to_statement.new.store.cells c.args.texts.now c.args.frame (frame.Statement c.in-Statement.frame) c.args.completion c.in-Statement.is c.give_to_statement.ensures.means

pub returns-in-Target-clause-means : goal.returns-in-Target-clause-means
returns-in-Target-clause-means c = at_frame_over c.give_to_target.result c.give_to_target.new.stack.items c.args.stack.now.items c.args.store.now.cells c.give_to_target.new.store.cells c.args.texts.now c.args.frame (frame.Target c.in-Target.frame) c.args.completion c.in-Target.is c.give_to_target.ensures.means

pub returns-in-For-clause-means : goal.returns-in-For-clause-means
returns-in-For-clause-means c = at_frame_over c.give_for.result c.give_for.new.stack.items c.args.stack.now.items c.args.store.now.cells c.give_for.new.store.cells c.args.texts.now c.args.frame (frame.For c.in-For.frame) c.args.completion c.in-For.is c.give_for.ensures.means

pub returns-in-Drain-clause-means : goal.returns-in-Drain-clause-means
returns-in-Drain-clause-means c = at_frame_over c.give_drain.result c.give_drain.new.stack.items c.args.stack.now.items c.args.store.now.cells c.give_drain.new.store.cells c.args.texts.now c.args.frame (frame.Drain c.in-Drain.frame) c.args.completion c.in-Drain.is c.give_drain.ensures.means

pub returns-in-Search-clause-means : goal.returns-in-Search-clause-means
returns-in-Search-clause-means c = at_frame_over_cells c.give_search.result c.give_search.new.stack.items c.args.stack.now.items c.args.store.now.cells c.give_search.new.store.cells c.args.texts.now c.args.frame (frame.Search c.in-Search.frame) c.args.completion c.in-Search.is c.give_search.ensures.means

pub returns-in-Equality-clause-means : goal.returns-in-Equality-clause-means
returns-in-Equality-clause-means c = at_frame_cells c.give_equality.result c.give_equality.new.stack.items c.args.stack.now.items c.args.store.now.cells c.args.texts.now c.args.frame (frame.Equality c.in-Equality.frame) c.args.completion c.in-Equality.is c.give_equality.ensures.means

pub returns-in-Addition-clause-means : goal.returns-in-Addition-clause-means
returns-in-Addition-clause-means c = at_frame_cells c.give_addition.result c.give_addition.new.stack.items c.args.stack.now.items c.args.store.now.cells c.args.texts.now c.args.frame (frame.Addition c.in-Addition.frame) c.args.completion c.in-Addition.is c.give_addition.ensures.means

pub returns-in-Method-clause-means : goal.returns-in-Method-clause-means
returns-in-Method-clause-means c = at_frame_cells c.give_to_method.result c.give_to_method.new.stack.items c.args.stack.now.items c.args.store.now.cells c.args.texts.now c.args.frame (frame.Method c.in-Method.frame) c.args.completion c.in-Method.is c.give_to_method.ensures.means
