use Rattle.std.proofs.Common.{Some, None}
use Rattle.eval_exprs.proofs.Cases.{attribute_begun}
use Rattle.eval_exprs.proofs.begin.begin_attribute.Goals as goal

pub returns-in-Some-clause-means : goal.returns-in-Some-clause-means
returns-in-Some-clause-means c = attribute_begun c.begin_handler_name.result c.begin_handler_name.new.stack.items c.args.stack.now.items c.args.texts.now c.args.env c.args.receiver c.args.name.now c.in_ok-handler.field-0 (Some c.in-Some.handler) c.in_ok-handler.ensures c.in-Some.is c.begin_handler_name.ensures.means

pub returns-in-None-clause-means : goal.returns-in-None-clause-means
returns-in-None-clause-means c = attribute_begun c.enter_receiver.result c.enter_receiver.new.stack.items c.args.stack.now.items c.args.texts.now c.args.env c.args.receiver c.args.name.now c.in_ok-handler.field-0 None c.in_ok-handler.ensures c.in-None.is c.enter_receiver.ensures.means
