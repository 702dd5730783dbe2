use Rattle.nested_serve.proofs.Steps.{decided}
use Rattle.nested_serve.proofs.giving.decide.Goals as goal

pub returns-in-If-clause-means : goal.returns-in-If-clause-means
returns-in-If-clause-means c = decided c.decide_if.result c.decide_if.new.stack.items c.args.stack.now.items c.args.texts.now c.args.decision _ c.args.value c.args.holds c.in-If.is c.decide_if.ensures.means

pub returns-in-While-clause-means : goal.returns-in-While-clause-means
returns-in-While-clause-means c = decided c.decide_while.result c.decide_while.new.stack.items c.args.stack.now.items c.args.texts.now c.args.decision _ c.args.value c.args.holds c.in-While.is c.decide_while.ensures.means
