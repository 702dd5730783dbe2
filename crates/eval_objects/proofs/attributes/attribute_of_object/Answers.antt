use Rattle.std.proofs.Common.{sym}
use Rattle.eval_objects.proofs.AttributeLemmas.{attribute_there}
use Rattle.eval_objects.proofs.attributes.attribute_of_object.Goals as goal

pub returns-in-Some-clause-means : goal.returns-in-Some-clause-means
returns-in-Some-clause-means c =
    attribute_there c.args.store.now.cells c.args.number c.args.name.now c.in-Some.cell.now c.attribute_of_cell.result (sym c.in-Some.ensures) c.attribute_of_cell.ensures.means
