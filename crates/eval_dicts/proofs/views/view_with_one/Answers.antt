use Rattle.std.proofs.Common.{[], ◌∷◌}
use Rattle.object_operations.specs.declared.special.Special.TheVariants as special
use Rattle.py_store.specs.declared.cell.Cell.TheVariants as cell
use Rattle.language_rules.specs.Perform.{special_of_cell}
use Rattle.eval_ranges.proofs.SpecialLemmas.{told_plainly}
use Rattle.eval_dicts.proofs.DictLemmas.{at_stack}
use Rattle.eval_dicts.proofs.views.view_with_one.Goals as goal

pub returns-in-GetItem-clause-means : goal.returns-in-GetItem-clause-means
returns-in-GetItem-clause-means c =
    at_stack c.args.store.now.cells (special_of_cell c.args.special c.args.number (c.args.x.now ∷ []) (cell.View c.args.dict c.args.which)) c.args.stack.now.items c.refuse.result
    (told_plainly c.args.store.now.cells (λ s. special_of_cell s c.args.number (c.args.x.now ∷ []) (cell.View c.args.dict c.args.which)) c.args.special special.GetItem c.refuse.result c.in-GetItem.is c.refuse.ensures.means)

pub returns-in-DelItem-clause-means : goal.returns-in-DelItem-clause-means
returns-in-DelItem-clause-means c =
    at_stack c.args.store.now.cells (special_of_cell c.args.special c.args.number (c.args.x.now ∷ []) (cell.View c.args.dict c.args.which)) c.args.stack.now.items c.refuse-in-DelItem.result
    (told_plainly c.args.store.now.cells (λ s. special_of_cell s c.args.number (c.args.x.now ∷ []) (cell.View c.args.dict c.args.which)) c.args.special special.DelItem c.refuse-in-DelItem.result c.in-DelItem.is c.refuse-in-DelItem.ensures.means)

pub returns-in-Add-clause-means : goal.returns-in-Add-clause-means
returns-in-Add-clause-means c =
    at_stack c.args.store.now.cells (special_of_cell c.args.special c.args.number (c.args.x.now ∷ []) (cell.View c.args.dict c.args.which)) c.args.stack.now.items c.refuse-in-Add.result
    (told_plainly c.args.store.now.cells (λ s. special_of_cell s c.args.number (c.args.x.now ∷ []) (cell.View c.args.dict c.args.which)) c.args.special special.Add c.refuse-in-Add.result c.in-Add.is c.refuse-in-Add.ensures.means)

pub returns-in-Mul-clause-means : goal.returns-in-Mul-clause-means
returns-in-Mul-clause-means c =
    at_stack c.args.store.now.cells (special_of_cell c.args.special c.args.number (c.args.x.now ∷ []) (cell.View c.args.dict c.args.which)) c.args.stack.now.items c.refuse-in-Mul.result
    (told_plainly c.args.store.now.cells (λ s. special_of_cell s c.args.number (c.args.x.now ∷ []) (cell.View c.args.dict c.args.which)) c.args.special special.Mul c.refuse-in-Mul.result c.in-Mul.is c.refuse-in-Mul.ensures.means)

pub returns-in-FloorDiv-clause-means : goal.returns-in-FloorDiv-clause-means
returns-in-FloorDiv-clause-means c =
    at_stack c.args.store.now.cells (special_of_cell c.args.special c.args.number (c.args.x.now ∷ []) (cell.View c.args.dict c.args.which)) c.args.stack.now.items c.refuse-in-FloorDiv.result
    (told_plainly c.args.store.now.cells (λ s. special_of_cell s c.args.number (c.args.x.now ∷ []) (cell.View c.args.dict c.args.which)) c.args.special special.FloorDiv c.refuse-in-FloorDiv.result c.in-FloorDiv.is c.refuse-in-FloorDiv.ensures.means)

pub returns-in-Mod-clause-means : goal.returns-in-Mod-clause-means
returns-in-Mod-clause-means c =
    at_stack c.args.store.now.cells (special_of_cell c.args.special c.args.number (c.args.x.now ∷ []) (cell.View c.args.dict c.args.which)) c.args.stack.now.items c.refuse-in-Mod.result
    (told_plainly c.args.store.now.cells (λ s. special_of_cell s c.args.number (c.args.x.now ∷ []) (cell.View c.args.dict c.args.which)) c.args.special special.Mod c.refuse-in-Mod.result c.in-Mod.is c.refuse-in-Mod.ensures.means)

pub returns-in-IAdd-clause-means : goal.returns-in-IAdd-clause-means
returns-in-IAdd-clause-means c =
    at_stack c.args.store.now.cells (special_of_cell c.args.special c.args.number (c.args.x.now ∷ []) (cell.View c.args.dict c.args.which)) c.args.stack.now.items c.refuse-in-IAdd.result
    (told_plainly c.args.store.now.cells (λ s. special_of_cell s c.args.number (c.args.x.now ∷ []) (cell.View c.args.dict c.args.which)) c.args.special special.IAdd c.refuse-in-IAdd.result c.in-IAdd.is c.refuse-in-IAdd.ensures.means)
