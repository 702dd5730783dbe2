use Rattle.std.proofs.Common.{◌≡◌, Some}
use Rattle.rp_base.specs.declared.value.Value.TheVariants as value
use Rattle.py_store.specs.Cells.{cell_of}
use Rattle.py_store.specs.declared.cell.Cell.TheVariants as cell
use Rattle.language_rules.specs.Perform.{special_rule}
use Rattle.eval_objects.proofs.ClassLemmas.{bound_there, class_there, instance_there, over_stack}
use Rattle.eval_objects.proofs.specials.special_of_object.Goals as goal

pub returns-in-Some-Class-clause-means : goal.returns-in-Some-Class-clause-means
returns-in-Some-Class-clause-means c =
    let seen = c.in-Some-Class.ensures in
    let is = c.in-Some-Class.field-0-is in
    let there : cell_of c.args.store.now.cells c.args.number ≡ Some (cell.Class c.in-Some-Class.field-0-0 c.in-Some-Class.field-0-1 c.in-Some-Class.field-0-2) = cc in
    over_stack c.args.store.now.cells (special_rule c.args.special (value.Own c.args.number) c.args.arguments.now) c.args.stack.now.items c.special_of_function-in-Some-Class.result (class_there c.args.store.now.cells c.args.number c.in-Some-Class.field-0-0 c.in-Some-Class.field-0-1 c.in-Some-Class.field-0-2 c.args.special c.args.arguments.now c.special_of_function-in-Some-Class.result there c.special_of_function-in-Some-Class.ensures.means)

pub returns-in-Some-Bound-clause-means : goal.returns-in-Some-Bound-clause-means
returns-in-Some-Bound-clause-means c =
    let seen = c.in-Some-Bound.ensures in
    let is = c.in-Some-Bound.field-0-is in
    let there : cell_of c.args.store.now.cells c.args.number ≡ Some (cell.Bound c.in-Some-Bound.field-0-0 c.in-Some-Bound.field-0-1) = cc in
    over_stack c.args.store.now.cells (special_rule c.args.special (value.Own c.args.number) c.args.arguments.now) c.args.stack.now.items c.special_of_function-in-Some-Bound.result (bound_there c.args.store.now.cells c.args.number c.in-Some-Bound.field-0-0 c.in-Some-Bound.field-0-1 c.args.special c.args.arguments.now c.special_of_function-in-Some-Bound.result there c.special_of_function-in-Some-Bound.ensures.means)

pub returns-in-Some-Instance-clause-means : goal.returns-in-Some-Instance-clause-means
returns-in-Some-Instance-clause-means c =
    let seen = c.in-Some-Instance.ensures in
    let is = c.in-Some-Instance.field-0-is in
    let there : cell_of c.args.store.now.cells c.args.number ≡ Some (cell.Instance c.in-Some-Instance.field-0-0 c.in-Some-Instance.field-0-1) = cc in
    instance_there c.args.store.now.cells c.special_of_instance.new.stack.items c.args.stack.now.items c.args.number c.in-Some-Instance.field-0-0 c.in-Some-Instance.field-0-1 c.args.special c.args.arguments.now c.special_of_instance.result there c.special_of_instance.ensures.means
