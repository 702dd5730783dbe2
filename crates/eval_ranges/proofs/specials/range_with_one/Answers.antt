use Rattle.std.proofs.Common.{IfOk, codes, [], ◌∷◌, Ok}
use Rattle.object_operations.specs.declared.special.Special.TheVariants as special
use Rattle.py_store.specs.declared.cell.Cell.TheVariants as cell
use Rattle.language_rules.specs.Perform.{special_of_cell}
use Rattle.language_rules.specs.Containing.{gives_in_range}
use Rattle.language_rules.specs.Items.{item_of_range}
use Rattle.language_rules.specs.PlainItems.{gives_item, on_index}
use Rattle.language_rules.specs.TextFunctions.{as_int}
use Rattle.eval_ranges.proofs.RangeLemmas.{same_range}
use Rattle.eval_ranges.proofs.SpecialLemmas.{Plainly, told_plainly, told_within}
use Rattle.eval_ranges.proofs.specials.range_with_one.Goals as goal

pub returns-in-GetItem-clause-means : goal.returns-in-GetItem-clause-means
returns-in-GetItem-clause-means c = told_plainly c.args.store.now.cells (λ s. special_of_cell s c.args.number (c.args.x.now ∷ []) (cell.Range c.args.start c.args.stop c.args.step)) c.args.special special.GetItem c.get_item.result c.in-GetItem.is (same_range (λ a b e. IfOk c.get_item.result (Plainly (on_index (λ k. gives_item (codes "range") (item_of_range a b e k)) (as_int c.args.x.now)))) c.args.start c.args.stop c.args.step c.ranges.start c.ranges.stop c.ranges.step c.get_item.ensures.means)

pub returns-in-DelItem-clause-means : goal.returns-in-DelItem-clause-means
returns-in-DelItem-clause-means c = told_plainly c.args.store.now.cells (λ s. special_of_cell s c.args.number (c.args.x.now ∷ []) (cell.Range c.args.start c.args.stop c.args.step)) c.args.special special.DelItem c.refuse.result c.in-DelItem.is c.refuse.ensures.means

pub returns-in-Contains-clause-means : goal.returns-in-Contains-clause-means
returns-in-Contains-clause-means c = told_plainly c.args.store.now.cells (λ s. special_of_cell s c.args.number (c.args.x.now ∷ []) (cell.Range c.args.start c.args.stop c.args.step)) c.args.special special.Contains (Ok c.contains.result) c.in-Contains.is (same_range (λ a b e. Plainly (gives_in_range a b e (as_int c.args.x.now)) c.contains.result) c.args.start c.args.stop c.args.step c.ranges.start c.ranges.stop c.ranges.step c.contains.ensures.means)

pub returns-in-Add-clause-means : goal.returns-in-Add-clause-means
returns-in-Add-clause-means c = told_plainly c.args.store.now.cells (λ s. special_of_cell s c.args.number (c.args.x.now ∷ []) (cell.Range c.args.start c.args.stop c.args.step)) c.args.special special.Add c.refuse-in-Add.result c.in-Add.is c.refuse-in-Add.ensures.means

pub returns-in-Mul-clause-means : goal.returns-in-Mul-clause-means
returns-in-Mul-clause-means c = told_plainly c.args.store.now.cells (λ s. special_of_cell s c.args.number (c.args.x.now ∷ []) (cell.Range c.args.start c.args.stop c.args.step)) c.args.special special.Mul c.refuse-in-Mul.result c.in-Mul.is c.refuse-in-Mul.ensures.means

pub returns-in-FloorDiv-clause-means : goal.returns-in-FloorDiv-clause-means
returns-in-FloorDiv-clause-means c = told_plainly c.args.store.now.cells (λ s. special_of_cell s c.args.number (c.args.x.now ∷ []) (cell.Range c.args.start c.args.stop c.args.step)) c.args.special special.FloorDiv c.refuse-in-FloorDiv.result c.in-FloorDiv.is c.refuse-in-FloorDiv.ensures.means

pub returns-in-Mod-clause-means : goal.returns-in-Mod-clause-means
returns-in-Mod-clause-means c = told_plainly c.args.store.now.cells (λ s. special_of_cell s c.args.number (c.args.x.now ∷ []) (cell.Range c.args.start c.args.stop c.args.step)) c.args.special special.Mod c.refuse-in-Mod.result c.in-Mod.is c.refuse-in-Mod.ensures.means

pub returns-in-IAdd-clause-means : goal.returns-in-IAdd-clause-means
returns-in-IAdd-clause-means c = told_plainly c.args.store.now.cells (λ s. special_of_cell s c.args.number (c.args.x.now ∷ []) (cell.Range c.args.start c.args.stop c.args.step)) c.args.special special.IAdd c.refuse-in-IAdd.result c.in-IAdd.is c.refuse-in-IAdd.ensures.means

pub returns-in-Sub-clause-means : goal.returns-in-Sub-clause-means
returns-in-Sub-clause-means c = told_within c.args.store.now.cells (λ s. special_of_cell s c.args.number (c.args.x.now ∷ []) (cell.Range c.args.start c.args.stop c.args.step)) c.args.special special.Sub c.less_view.result c.in-Sub.is c.less_view.ensures.means
