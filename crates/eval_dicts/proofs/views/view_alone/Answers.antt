use Rattle.std.proofs.Common.{[]}
use Rattle.object_operations.specs.declared.special.Special.TheVariants as special
use Rattle.py_store.specs.declared.cell.Cell.TheVariants as cell
use Rattle.language_rules.specs.Perform.{special_of_cell}
use Rattle.eval_ranges.proofs.SpecialLemmas.{told_plainly}
use Rattle.eval_dicts.proofs.views.view_alone.Goals as goal

pub returns-in-Neg-clause-means : goal.returns-in-Neg-clause-means
returns-in-Neg-clause-means c = told_plainly c.args.store.now.cells (λ s. special_of_cell s c.args.number [] (cell.View c.args.dict c.args.which)) c.args.special special.Neg c.refuse-in-Neg.result c.in-Neg.is c.refuse-in-Neg.ensures.means
