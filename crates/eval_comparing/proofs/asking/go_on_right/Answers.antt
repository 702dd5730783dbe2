use Rattle.language_rules.specs.Comparing.{asks_operand, last_step, swapped}
use Rattle.language_rules.specs.Going.{carry}
use Rattle.std.proofs.Common.{sym, ap}
use Rattle.eval_comparing.proofs.Moving.{anywhere, anywhere_as, over_one}
use Rattle.eval_comparing.proofs.Operands.{passed}
use Rattle.eval_comparing.proofs.asking.go_on_right.Goals as goal

pub returns-else-is_reference-clause-means : goal.returns-else-is_reference-clause-means
returns-else-is_reference-clause-means c = anywhere_as c.compare_last.result c.args.stack.now.items c.args.stack.now.items (carry (last_step c.args.op c.args.left c.args.right)) (carry (asks_operand c.args.right (swapped c.args.op) c.args.left (last_step c.args.op c.args.left c.args.right))) (ap carry (sym (passed c.args.right c.args.left (swapped c.args.op) (last_step c.args.op c.args.left c.args.right) (sym c.if-is_reference.ensures)))) (anywhere c.compare_last.result c.args.stack.now.items c.args.stack.now.items (carry (last_step c.args.op c.args.left c.args.right)) (over_one c.compare_last.result c.args.stack.now.items (carry (last_step c.args.op c.args.left c.args.right)) c.compare_last.ensures.means))
