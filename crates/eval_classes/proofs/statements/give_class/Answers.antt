use Rattle.eval_classes.proofs.ClassSteps.{given_off, given_on}
use Rattle.eval_classes.proofs.statements.give_class.Goals as goal

pub returns-in-Some-clause-means : goal.returns-in-Some-clause-means
returns-in-Some-clause-means c =
    given_on c.args.frame c.args.value c.args.texts.now c.args.store.now.cells c.go_on.new.store.cells c.args.classes.now c.go_on.new.classes c.go_on.new.stack.items c.args.stack.now.items c.in_ok-attributes.field-0 c.in-Some.attributes c.go_on.result
    c.in-Some.is c.in_ok-attributes.ensures c.go_on.ensures.means

pub returns-in-None-clause-means : goal.returns-in-None-clause-means
returns-in-None-clause-means c =
    given_off c.args.frame c.args.value c.args.texts.now c.args.store.now.cells c.args.classes.now c.args.stack.now.items c.in_ok-attributes.field-0
    c.in-None.is c.in_ok-attributes.ensures
