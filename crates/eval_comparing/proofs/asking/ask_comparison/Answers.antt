use Rattle.language_rules.specs.Comparing.{asks_operand, compare_step, last_step, operands_step, swapped}
use Rattle.language_rules.specs.Going.{carry}
use Rattle.std.proofs.Common.{sym}
use Rattle.eval_comparing.proofs.Moving.{anywhere_as}
use Rattle.eval_comparing.proofs.Operands.{left_compared, other_side, right_compared}
use Rattle.language_rules.specs.Kinds.{is_reference}
use Rattle.eval_comparing.proofs.asking.ask_comparison.Goals as goal

pub returns-then-is_reference-clause-means : goal.returns-then-is_reference-clause-means
returns-then-is_reference-clause-means c = anywhere_as c.ask_left.result c.ask_left.new.stack.items c.args.stack.now.items (carry (operands_step c.args.op c.args.left c.args.right)) (carry (compare_step c.args.op c.args.left c.args.right)) (left_compared c.args.op c.args.left c.args.right (sym c.if-is_reference.ensures)) c.ask_left.ensures.means

pub returns-else-is_reference-clause-means : goal.returns-else-is_reference-clause-means
returns-else-is_reference-clause-means c = anywhere_as c.ask_right.result c.ask_right.new.stack.items c.args.stack.now.items (carry (asks_operand c.args.right (swapped c.args.op) c.args.left (last_step c.args.op c.args.left c.args.right))) (carry (compare_step c.args.op c.args.left c.args.right)) (right_compared c.args.op c.args.left c.args.right (sym c.if-is_reference.ensures) (other_side (is_reference c.args.left) (is_reference c.args.right) (sym c.if-is_reference.ensures) c.requires)) c.ask_right.ensures.means
