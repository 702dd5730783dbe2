use Rattle.language_rules.specs.Targets.{assigns_place}
use Rattle.eval_targets.proofs.Settling.{placed_settled}
use Rattle.eval_targets.proofs.assigning.settle_place.Goals as goal

pub returns : goal.returns
returns c = record {
  settles = placed_settled c.args.env (assigns_place c.args.env c.args.value c.args.target.now) c.args.store.now.cells c.place_at-placed.new.store.cells c.args.texts.now c.place_at-placed.result c.placed_at.result c.place_at-placed.ensures.placed c.placed_at.ensures.settles;
}
