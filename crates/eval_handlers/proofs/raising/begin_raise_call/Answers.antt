use Rattle.eval_handlers.proofs.RaisedClass.{class_raised}
use Rattle.eval_handlers.proofs.raising.begin_raise_call.Goals as goal

pub returns-in-Some-clause-means : goal.returns-in-Some-clause-means
returns-in-Some-clause-means c =
    class_raised c.args.env c.args.name.now c.args.arguments.now c.class_named.result c.in-Some.kind c.raise_class.new.stack.items c.args.stack.now.items c.raise_class.result
    c.class_named.ensures c.in-Some.is c.raise_class.ensures.means
