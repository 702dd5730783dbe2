use Rattle.std.proofs.Common.{[], Ok}
use Rattle.object_operations.specs.declared.special.Special.TheVariants as special
use Rattle.py_store.specs.declared.cell.Cell.TheVariants as cell
use Rattle.language_rules.specs.Perform.{special_of_cell}
use Rattle.language_rules.specs.Lengths.{gives_filled, gives_length}
use Rattle.language_rules.specs.Ranges.{range_length}
use Rattle.eval_ranges.proofs.RangeLemmas.{same_range}
use Rattle.eval_ranges.proofs.SpecialLemmas.{Plainly, told}
use Rattle.eval_ranges.proofs.specials.range_alone.Goals as goal

pub returns-in-Len-clause-means : goal.returns-in-Len-clause-means
returns-in-Len-clause-means c = told (λ s. special_of_cell s c.args.number [] (cell.Range c.args.start c.args.stop c.args.step)) c.args.special special.Len (Ok c.length.result) c.in-Len.is (same_range (λ a b e. Plainly (gives_length (range_length a b e)) c.length.result) c.args.start c.args.stop c.args.step c.ranges.start c.ranges.stop c.ranges.step c.length.ensures.means)

pub returns-in-Bool-clause-means : goal.returns-in-Bool-clause-means
returns-in-Bool-clause-means c = told (λ s. special_of_cell s c.args.number [] (cell.Range c.args.start c.args.stop c.args.step)) c.args.special special.Bool (Ok c.truth.result) c.in-Bool.is (same_range (λ a b e. Plainly (gives_filled (range_length a b e)) c.truth.result) c.args.start c.args.stop c.args.step c.ranges.start c.ranges.stop c.ranges.step c.truth.ensures.means)

pub returns-in-Neg-clause-means : goal.returns-in-Neg-clause-means
returns-in-Neg-clause-means c = told (λ s. special_of_cell s c.args.number [] (cell.Range c.args.start c.args.stop c.args.step)) c.args.special special.Neg c.refuse-in-Neg.result c.in-Neg.is c.refuse-in-Neg.ensures.means
