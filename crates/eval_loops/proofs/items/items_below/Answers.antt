use Rattle.eval_targets.specs.declared.settled.Waiting.TheVariants as waiting
use Rattle.eval_targets.specs.Settled.{awaited}
use Rattle.eval_loops.proofs.ForTurns.{waits_below}
use Rattle.eval_loops.proofs.items.items_below.Goals as goal

pub returns-clause-means : goal.returns-clause-means
returns-clause-means c =
    waits_below (awaited (waiting.Items c.args.env c.args.list c.args.targets)) c.args.waits c.ask_items.new.stack.items c.args.stack.now.items c.push.new.self.items c.ask_items.result c.in_ok-push.ensures.items c.ask_items.ensures.means
