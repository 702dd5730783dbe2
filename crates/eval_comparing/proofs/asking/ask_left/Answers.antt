use Rattle.eval_comparing.proofs.Operands.{left_asked}
use Rattle.eval_comparing.proofs.asking.ask_left.Goals as goal

pub returns-clause-means : goal.returns-clause-means
returns-clause-means c = left_asked c.ask_over.result c.ask_over.new.stack.items c.args.stack.now.items c.args.op c.args.left c.args.right c.in_ok-copy.field-0 c.in_ok-copy-2.field-0 c.requires c.in_ok-copy.ensures c.in_ok-copy-2.ensures c.ask_over.ensures.means
