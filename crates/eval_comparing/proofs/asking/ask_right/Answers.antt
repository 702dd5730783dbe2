use Rattle.eval_comparing.proofs.Operands.{right_asked}
use Rattle.eval_comparing.proofs.asking.ask_right.Goals as goal

pub returns-clause-means : goal.returns-clause-means
returns-clause-means c = right_asked c.ask_over.result c.ask_over.new.stack.items c.args.stack.now.items c.args.op c.swapped.result c.args.left c.args.right c.in_ok-copy-2.field-0 c.in_ok-copy.field-0 c.requires c.swapped.ensures c.in_ok-copy-2.ensures c.in_ok-copy.ensures c.ask_over.ensures.means
