use Rattle.eval_classes.proofs.ClassSteps.{based_on}
use Rattle.eval_classes.proofs.statements.begin_class.Goals as goal

pub returns-in-Some-clause-means : goal.returns-in-Some-clause-means
returns-in-Some-clause-means c =
    based_on c.args.env c.args.name.now c.args.base.now c.args.body c.args.texts.now c.args.store.now.cells c.begin_body.new.store.cells c.args.classes.now c.as_slice.result.now c.begin_body.new.classes c.begin_body.new.stack.items c.args.stack.now.items c.base_class.result c.in-Some.base c.begin_body.result
    c.in-Some.is c.as_slice.ensures c.base_class.ensures c.begin_body.ensures.means
