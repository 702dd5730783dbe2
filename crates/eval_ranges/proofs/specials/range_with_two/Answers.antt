use Rattle.std.proofs.Common.{[], ◌∷◌}
use Rattle.object_operations.specs.declared.special.Special.TheVariants as special
use Rattle.py_store.specs.declared.cell.Cell.TheVariants as cell
use Rattle.language_rules.specs.Perform.{special_of_cell}
use Rattle.eval_ranges.proofs.SpecialLemmas.{told}
use Rattle.eval_ranges.proofs.specials.range_with_two.Goals as goal

pub returns-in-SetItem-clause-means : goal.returns-in-SetItem-clause-means
returns-in-SetItem-clause-means c = told (λ s. special_of_cell s c.args.number (c.args.key.now ∷ c.args.item.now ∷ []) (cell.Range c.args.start c.args.stop c.args.step)) c.args.special special.SetItem c.refuse.result c.in-SetItem.is c.refuse.ensures.means
