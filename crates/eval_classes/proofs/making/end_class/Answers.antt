use Rattle.std.proofs.Common.{List, ℕ, [], ◌∷◌, ◌++◌, ◌∙◌, ap}
use Rattle.py_store.specs.Cells.{Cells}
use Rattle.py_store.specs.declared.cell.Cell.TheVariants as cell
use Rattle.eval_classes.proofs.ClassSteps.{class_ended}
use Rattle.eval_classes.proofs.making.end_class.Goals as goal

pub returns-clause-means : goal.returns-clause-means
returns-clause-means c =
    class_ended c.args.env c.args.name c.args.base c.args.attributes c.args.texts.now c.args.store.now.cells c.make_cell.new.store.cells c.bind_value.new.store.cells c.args.classes.now c.remember.new.classes c.in_ok-number.number c.bind_value.result
    c.in_ok-number.ensures.number
    (ap (λ (store : Cells). store.cells) c.in_ok-number.ensures.made ∙ ap (λ (name : List ℕ). c.args.store.now.cells ++ cell.Class name c.args.base c.args.attributes ∷ []) c.in_ok-copy.ensures)
    c.in_ok-remember.ensures c.bind_value.ensures.means
