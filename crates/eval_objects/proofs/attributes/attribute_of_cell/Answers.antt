use Rattle.std.proofs.Common.{ap, refl, Ok}
use Rattle.rp_base.specs.declared.value.Value.TheVariants as value
use Rattle.py_store.specs.Attributes.{attribute_value}
use Rattle.py_store.specs.declared.cell.Cell.TheVariants as cell
use Rattle.language_rules.specs.Attributes.{bound_method, class_attribute}
use Rattle.eval_objects.proofs.AttributeLemmas.{as_cell, as_cell_plainly}
use Rattle.eval_objects.proofs.attributes.attribute_of_cell.Goals as goal

pub returns-in-Instance-clause-means : goal.returns-in-Instance-clause-means
returns-in-Instance-clause-means c =
    as_cell c.args.store.now.cells c.args.number c.args.name.now c.args.cell.now (cell.Instance c.in-Instance.class c.in-Instance.attributes) c.attribute_of_instance.result c.in-Instance.is c.attribute_of_instance.ensures.means

pub returns-in-Class-clause-means : goal.returns-in-Class-clause-means
returns-in-Class-clause-means c =
    as_cell_plainly c.args.store.now.cells c.args.number c.args.name.now c.args.cell.now (cell.Class c.in-Class.name c.in-Class.base c.in-Class.attributes) (class_attribute c.args.name.now (attribute_value c.args.store.now.cells c.args.number c.args.name.now)) c.attribute_of_class.result c.in-Class.is (λ fixed texts. refl) c.attribute_of_class.ensures.means

pub returns-in-List-clause-means : goal.returns-in-List-clause-means
returns-in-List-clause-means c =
    as_cell_plainly c.args.store.now.cells c.args.number c.args.name.now c.args.cell.now (cell.List c.in-List.field-0) (bound_method (value.Own c.args.number) c.list_method.result) (Ok c.bind_method.result) c.in-List.is (λ fixed texts. ap (bound_method (value.Own c.args.number)) c.list_method.ensures) c.bind_method.ensures.means

pub returns-in-Dict-clause-means : goal.returns-in-Dict-clause-means
returns-in-Dict-clause-means c =
    as_cell_plainly c.args.store.now.cells c.args.number c.args.name.now c.args.cell.now (cell.Dict c.in-Dict.entries c.in-Dict.shape) (bound_method (value.Own c.args.number) c.dict_method.result) (Ok c.bind_method-in-Dict.result) c.in-Dict.is (λ fixed texts. ap (bound_method (value.Own c.args.number)) c.dict_method.ensures) c.bind_method-in-Dict.ensures.means
