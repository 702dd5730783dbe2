use Rattle.eval_frames.specs.declared.frame.ExpressionFrame.TheVariants as expression_frame
use Rattle.eval_frames.specs.Meaning.{through_expression}
use Rattle.eval_exprs.proofs.Cases.{at_frame}
use Rattle.eval_exprs.proofs.Moving.{anywhere_at, at_cells, over_one, over_one_at}
use Rattle.eval_exprs.proofs.give.give_expression.Goals as goal

pub returns-in-Operands-clause-means : goal.returns-in-Operands-clause-means
returns-in-Operands-clause-means c = at_frame c.give_operand.result c.give_operand.new.stack.items c.args.stack.now.items c.args.store.now.cells c.args.value c.args.frame _ c.in-Operands.is c.give_operand.ensures.means

pub returns-in-Unary-clause-means : goal.returns-in-Unary-clause-means
returns-in-Unary-clause-means c = at_frame c.give_unary.result c.args.stack.now.items c.args.stack.now.items c.args.store.now.cells c.args.value c.args.frame (expression_frame.Unary c.in-Unary.op) c.in-Unary.is (at_cells c.give_unary.result c.args.stack.now.items c.args.stack.now.items c.args.store.now.cells (through_expression (expression_frame.Unary c.in-Unary.op) c.args.value) (over_one c.give_unary.result c.args.stack.now.items (through_expression (expression_frame.Unary c.in-Unary.op) c.args.value) c.give_unary.ensures.means))

pub returns-in-BinaryLeft-clause-means : goal.returns-in-BinaryLeft-clause-means
returns-in-BinaryLeft-clause-means c = at_frame c.give_left.result c.give_left.new.stack.items c.args.stack.now.items c.args.store.now.cells c.args.value c.args.frame (expression_frame.BinaryLeft c.in-BinaryLeft.env c.in-BinaryLeft.op c.in-BinaryLeft.right) c.in-BinaryLeft.is (at_cells c.give_left.result c.give_left.new.stack.items c.args.stack.now.items c.args.store.now.cells (through_expression (expression_frame.BinaryLeft c.in-BinaryLeft.env c.in-BinaryLeft.op c.in-BinaryLeft.right) c.args.value) c.give_left.ensures.means)

pub returns-in-BinaryRight-clause-means : goal.returns-in-BinaryRight-clause-means
returns-in-BinaryRight-clause-means c = at_frame c.give_binary.result c.args.stack.now.items c.args.stack.now.items c.args.store.now.cells c.args.value c.args.frame (expression_frame.BinaryRight c.in-BinaryRight.op c.in-BinaryRight.left) c.in-BinaryRight.is (over_one_at c.give_binary.result c.args.stack.now.items c.args.store.now.cells (through_expression (expression_frame.BinaryRight c.in-BinaryRight.op c.in-BinaryRight.left) c.args.value) c.give_binary.ensures.means)

pub returns-in-ItemReceiver-clause-means : goal.returns-in-ItemReceiver-clause-means
returns-in-ItemReceiver-clause-means c = at_frame c.give_receiver.result c.give_receiver.new.stack.items c.args.stack.now.items c.args.store.now.cells c.args.value c.args.frame (expression_frame.ItemReceiver c.in-ItemReceiver.env c.in-ItemReceiver.key) c.in-ItemReceiver.is (at_cells c.give_receiver.result c.give_receiver.new.stack.items c.args.stack.now.items c.args.store.now.cells (through_expression (expression_frame.ItemReceiver c.in-ItemReceiver.env c.in-ItemReceiver.key) c.args.value) c.give_receiver.ensures.means)

pub returns-in-ItemKey-clause-means : goal.returns-in-ItemKey-clause-means
returns-in-ItemKey-clause-means c = at_frame c.give_key.result c.args.stack.now.items c.args.stack.now.items c.args.store.now.cells c.args.value c.args.frame (expression_frame.ItemKey c.in-ItemKey.receiver) c.in-ItemKey.is (at_cells c.give_key.result c.args.stack.now.items c.args.stack.now.items c.args.store.now.cells (through_expression (expression_frame.ItemKey c.in-ItemKey.receiver) c.args.value) (over_one c.give_key.result c.args.stack.now.items (through_expression (expression_frame.ItemKey c.in-ItemKey.receiver) c.args.value) c.give_key.ensures.means))

pub returns-in-ChainFirst-clause-means : goal.returns-in-ChainFirst-clause-means
returns-in-ChainFirst-clause-means c = at_frame c.give_first.result c.give_first.new.stack.items c.args.stack.now.items c.args.store.now.cells c.args.value c.args.frame (expression_frame.ChainFirst c.in-ChainFirst.env c.in-ChainFirst.waiting) c.in-ChainFirst.is (at_cells c.give_first.result c.give_first.new.stack.items c.args.stack.now.items c.args.store.now.cells (through_expression (expression_frame.ChainFirst c.in-ChainFirst.env c.in-ChainFirst.waiting) c.args.value) c.give_first.ensures.means)

pub returns-in-ChainRight-clause-means : goal.returns-in-ChainRight-clause-means
returns-in-ChainRight-clause-means c = at_frame c.give_right.result c.give_right.new.stack.items c.args.stack.now.items c.args.store.now.cells c.args.value c.args.frame (expression_frame.ChainRight c.in-ChainRight.env c.in-ChainRight.left c.in-ChainRight.comparison c.in-ChainRight.waiting) c.in-ChainRight.is (anywhere_at c.give_right.result c.give_right.new.stack.items c.args.stack.now.items c.args.store.now.cells (through_expression (expression_frame.ChainRight c.in-ChainRight.env c.in-ChainRight.left c.in-ChainRight.comparison c.in-ChainRight.waiting) c.args.value) c.give_right.ensures.means)

pub returns-in-Callee-clause-means : goal.returns-in-Callee-clause-means
returns-in-Callee-clause-means c = at_frame c.give_callee.result c.give_callee.new.stack.items c.args.stack.now.items c.args.store.now.cells c.args.value c.args.frame (expression_frame.Callee c.in-Callee.env c.in-Callee.waiting) c.in-Callee.is (at_cells c.give_callee.result c.give_callee.new.stack.items c.args.stack.now.items c.args.store.now.cells (through_expression (expression_frame.Callee c.in-Callee.env c.in-Callee.waiting) c.args.value) c.give_callee.ensures.means)

pub returns-in-Arguments-clause-means : goal.returns-in-Arguments-clause-means
returns-in-Arguments-clause-means c = at_frame c.give_argument.result c.give_argument.new.stack.items c.args.stack.now.items c.args.store.now.cells c.args.value c.args.frame (expression_frame.Arguments c.in-Arguments.env c.in-Arguments.callee c.in-Arguments.values c.in-Arguments.waiting) c.in-Arguments.is (at_cells c.give_argument.result c.give_argument.new.stack.items c.args.stack.now.items c.args.store.now.cells (through_expression (expression_frame.Arguments c.in-Arguments.env c.in-Arguments.callee c.in-Arguments.values c.in-Arguments.waiting) c.args.value) c.give_argument.ensures.means)
