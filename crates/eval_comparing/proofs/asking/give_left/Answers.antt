use Rattle.language_rules.specs.Comparing.{asks_operand, implemented, last_step, swapped}
use Rattle.language_rules.specs.Going.{carry, value_step}
use Rattle.language_rules.specs.Codes.{Ends}
use Rattle.std.proofs.Common.{sym, Ok, refl}
use Rattle.eval_frames.specs.declared.next.Next.TheVariants as next
use Rattle.eval_comparing.proofs.Moving.{anywhere, anywhere_as}
use Rattle.eval_comparing.proofs.Operands.{handed_on, not_implemented}
use Rattle.eval_comparing.proofs.asking.give_left.Goals as goal

pub returns-then-is_not_implemented-clause-means : goal.returns-then-is_not_implemented-clause-means
returns-then-is_not_implemented-clause-means c = anywhere_as c.go_on_right.result c.go_on_right.new.stack.items c.args.stack.now.items (carry (asks_operand c.args.right (swapped c.args.op) c.args.left (last_step c.args.op c.args.left c.args.right))) (carry (value_step (implemented (asks_operand c.args.right (swapped c.args.op) c.args.left (last_step c.args.op c.args.left c.args.right))) c.args.completion)) (not_implemented c.args.completion (asks_operand c.args.right (swapped c.args.op) c.args.left (last_step c.args.op c.args.left c.args.right)) (sym c.if-is_not_implemented.ensures)) c.go_on_right.ensures.means

pub returns-else-is_not_implemented-clause-means : goal.returns-else-is_not_implemented-clause-means
returns-else-is_not_implemented-clause-means c = anywhere_as (Ok (next.Give c.args.completion)) c.args.stack.now.items c.args.stack.now.items (carry (Ends c.args.completion)) (carry (value_step (implemented (asks_operand c.args.right (swapped c.args.op) c.args.left (last_step c.args.op c.args.left c.args.right))) c.args.completion)) (handed_on c.args.completion (asks_operand c.args.right (swapped c.args.op) c.args.left (last_step c.args.op c.args.left c.args.right)) (sym c.if-is_not_implemented.ensures)) (anywhere (Ok (next.Give c.args.completion)) c.args.stack.now.items c.args.stack.now.items (carry (Ends c.args.completion)) refl)
