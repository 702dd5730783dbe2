use Rattle.eval_texts.proofs.TupleItems.{tuple_asked, tuple_long}
use Rattle.eval_texts.proofs.waiting.ask_tuple.Goals as goal

pub returns-in-TooLong-clause-means : goal.returns-in-TooLong-clause-means
returns-in-TooLong-clause-means c = λ f made go s same.
    tuple_long c.args.item.now c.in_ok-whole.whole c.in_ok-shown.shown f made go s c.args.stack.now.items c.in_ok-whole.ensures c.in-TooLong.is c.in_ok-shown.ensures

pub returns-in_ok-push-in-Asked-clause-means : goal.returns-in_ok-push-in-Asked-clause-means
returns-in_ok-push-in-Asked-clause-means c =
    tuple_asked c.args.item.now c.in_ok-whole.whole c.in-Asked.object c.in-Asked.levels c.in_ok-shown.shown c.args.frame c.ask_text.result c.ask_text.new.stack.items c.push.new.self.items c.args.stack.now.items
    c.in_ok-whole.ensures c.in-Asked.is c.in_ok-shown.ensures c.requires c.in_ok-push-in-Asked.ensures.items c.ask_text.ensures.means
