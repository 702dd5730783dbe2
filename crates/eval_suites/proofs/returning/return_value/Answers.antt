use Rattle.eval_suites.proofs.Moves.{returned}
use Rattle.eval_suites.proofs.returning.return_value.Goals as goal

pub returns-in-Some-clause-means : goal.returns-in-Some-clause-means
returns-in-Some-clause-means c = returned c.args.texts.now c.args.store.now c.args.env c.args.value c.args.stack.now.items c.args.fuel.now c.in-Some.evaluated.left c.in-Some.evaluated.value c.in-Some.ensures.0
