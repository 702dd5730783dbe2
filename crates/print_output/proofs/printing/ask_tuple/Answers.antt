use Rattle.std.proofs.Common.{reverse}
use Rattle.print_output.proofs.PieceLaws.{tuple_asked, tuple_long}
use Rattle.print_output.proofs.printing.ask_tuple.Goals as goal

pub returns-in-TooLong-clause-means : goal.returns-in-TooLong-clause-means
returns-in-TooLong-clause-means c = tuple_long c.args.items (reverse c.args.waiting) c.in_ok-tuple_text.field-0 c.args.stack.now.items c.in-TooLong.is c.in_ok-tuple_text.ensures

pub returns-in_ok-push-in-Asked-clause-means : goal.returns-in_ok-push-in-Asked-clause-means
returns-in_ok-push-in-Asked-clause-means c = tuple_asked c.args.items c.args.waiting c.in-Asked.levels c.in-Asked.object c.in_ok-tuple_text.field-0 c.ask_text.new.stack.items c.push.new.self.items c.args.stack.now.items c.ask_text.result c.in-Asked.is c.in_ok-tuple_text.ensures c.in_ok-push-in-Asked.ensures.items c.ask_text.ensures.means
