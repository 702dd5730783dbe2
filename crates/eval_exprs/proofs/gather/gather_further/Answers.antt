use Rattle.std.proofs.Common.{◌∷◌, reverse}
use Rattle.language_rules.specs.Going.{evaluates_behind}
use Rattle.eval_frames.specs.Meaning.{gathers}
use Rattle.eval_exprs.proofs.Cases.{next_gathered}
use Rattle.eval_exprs.proofs.Moving.{at_as, at_cells}
use Rattle.eval_exprs.proofs.gather.gather_further.Goals as goal

pub returns-in-Some-clause-means : goal.returns-in-Some-clause-means
returns-in-Some-clause-means c = at_as c.enter_over.result c.enter_over.new.stack.items c.args.stack.now.items c.args.store.now.cells (evaluates_behind c.args.env c.args.values (c.in-Some.expression ∷ reverse c.pop.new.self) (gathers c.args.gathering)) (evaluates_behind c.args.env c.args.values (reverse c.args.waiting) (gathers c.args.gathering))
    (next_gathered c.args.env c.args.values (gathers c.args.gathering) c.args.waiting c.pop.new.self c.in-Some.expression (rw c.in-Some.is at c.pop.ensures)) (at_cells c.enter_over.result c.enter_over.new.stack.items c.args.stack.now.items c.args.store.now.cells (evaluates_behind c.args.env c.args.values (c.in-Some.expression ∷ reverse c.pop.new.self) (gathers c.args.gathering)) c.enter_over.ensures.means)
