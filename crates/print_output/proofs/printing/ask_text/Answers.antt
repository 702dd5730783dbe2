use Rattle.std.proofs.Common.{reverse}
use Rattle.print_output.proofs.PieceLaws.{value_as}
use Rattle.print_output.proofs.printing.ask_text.Goals as goal

pub returns-in-Some-clause-means : goal.returns-in-Some-clause-means
returns-in-Some-clause-means c = value_as c.args.value c.in-Some.items (reverse c.args.waiting) c.ask_tuple.new.stack.items c.args.stack.now.items c.ask_tuple.result c.in-Some.ensures c.ask_tuple.ensures.means
