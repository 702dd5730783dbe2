use Rattle.eval_exprs.proofs.Cases.{at_expression}
use Rattle.eval_exprs.proofs.begin.begin_expression.Goals as goal

pub returns-in-Conditional-clause-means : goal.returns-in-Conditional-clause-means
returns-in-Conditional-clause-means c = at_expression c.begin_conditional.result c.begin_conditional.new.stack.items c.args.stack.now.items c.args.env c.args.store.now.cells c.args.texts.now c.args.expression.now _ c.in-Conditional.is c.begin_conditional.ensures.means

pub returns-in-Compare-clause-means : goal.returns-in-Compare-clause-means
returns-in-Compare-clause-means c = at_expression c.begin_chain.result c.begin_chain.new.stack.items c.args.stack.now.items c.args.env c.args.store.now.cells c.args.texts.now c.args.expression.now _ c.in-Compare.is c.begin_chain.ensures.means

pub returns-in-Unary-clause-means : goal.returns-in-Unary-clause-means
returns-in-Unary-clause-means c = at_expression c.begin_unary.result c.begin_unary.new.stack.items c.args.stack.now.items c.args.env c.args.store.now.cells c.args.texts.now c.args.expression.now _ c.in-Unary.is c.begin_unary.ensures.means

pub returns-in-Binary-clause-means : goal.returns-in-Binary-clause-means
returns-in-Binary-clause-means c = at_expression c.begin_binary.result c.begin_binary.new.stack.items c.args.stack.now.items c.args.env c.args.store.now.cells c.args.texts.now c.args.expression.now _ c.in-Binary.is c.begin_binary.ensures.means

pub returns-in-Item-clause-means : goal.returns-in-Item-clause-means
returns-in-Item-clause-means c = at_expression c.begin_item.result c.begin_item.new.stack.items c.args.stack.now.items c.args.env c.args.store.now.cells c.args.texts.now c.args.expression.now _ c.in-Item.is c.begin_item.ensures.means
