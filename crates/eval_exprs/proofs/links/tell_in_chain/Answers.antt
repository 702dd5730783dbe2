use Rattle.std.proofs.Common.{◌&&◌, Ok, Err, Some, None, reverse, ap, ◌∙◌}
use Rattle.language_rules.specs.Chains.{link_rule}
use Rattle.value_operators.specs.Answering.{is_plain}
use Rattle.eval_exprs.proofs.Operands.{computed_end, computed_value, not_both, ok_none, ok_some, told_link}
use Rattle.eval_exprs.proofs.links.tell_in_chain.Goals as goal

pub returns-in-Ok-Some-clause-means : goal.returns-in-Ok-Some-clause-means
returns-in-Ok-Some-clause-means c = told_link c.tell.result c.tell.new.stack.items c.args.stack.now.items c.args.env (reverse c.args.waiting) c.args.right (Ok c.in-Ok-Some.value) c.args.comparison c.args.left (computed_value (link_rule c.args.comparison c.args.left c.args.right) c.link.result c.in-Ok-Some.value (ok_some c.link.result c.in-Ok-Some.field-0 c.in-Ok-Some.value c.in-Ok-Some.is c.in-Ok-Some.field-0-is) c.link.ensures.computes) c.tell.ensures.means

pub tell_of_tuples-requires-clause-other : goal.tell_of_tuples-requires-clause-other
tell_of_tuples-requires-clause-other c = not_both (is_plain c.args.left && is_plain c.args.right) c.link.result (ok_none c.link.result c.in-Ok-None.field-0 c.in-Ok-None.is c.in-Ok-None.field-0-is) c.link.ensures.asked

pub returns-in-Err-clause-means : goal.returns-in-Err-clause-means
returns-in-Err-clause-means c = told_link c.tell-in-Err.result c.tell-in-Err.new.stack.items c.args.stack.now.items c.args.env (reverse c.args.waiting) c.args.right (Err c.in-Err.end) c.args.comparison c.args.left (computed_end (link_rule c.args.comparison c.args.left c.args.right) c.link.result c.in-Err.end c.in-Err.is c.link.ensures.computes) c.tell-in-Err.ensures.means
