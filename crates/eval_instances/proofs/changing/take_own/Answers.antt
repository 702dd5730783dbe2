use Rattle.std.proofs.Common.{◌∙◌, ap, sym, Some, List}
use Rattle.py_store.specs.declared.cell.Binding.{Binding}
use Rattle.py_store.specs.declared.cell.Cell.{Cell}
use Rattle.py_store.specs.declared.cell.Cell.TheVariants as cell
use Rattle.eval_instances.specs.Owners.{without_own}
use Rattle.eval_instances.proofs.OwnerLemmas.{replaced}
use Rattle.eval_instances.proofs.changing.take_own.Goals as goal

pub returns-in-Instance : goal.returns-in-Instance
returns-in-Instance c =
    replaced (without_own c.args.name.now) c.args.number c.args.store.now c.replace.new.self c.replace-in-Instance.new.self (cell.Instance c.in-Instance.class c.in-Instance.attributes) cell.Root (cell.Instance c.in-Instance.class c.unbind.new.bindings)
    (c.replace.ensures.old ∙ ap (λ (x : Cell). Some x) c.in-Instance.is) c.replace.ensures.new c.replace-in-Instance.ensures.new
    (ap (λ (bs : List Binding). cell.Instance c.in-Instance.class bs) (sym c.unbind.ensures.left))

pub returns-in-Class : goal.returns-in-Class
returns-in-Class c =
    replaced (without_own c.args.name.now) c.args.number c.args.store.now c.replace.new.self c.replace-in-Class.new.self (cell.Class c.in-Class.class c.in-Class.base c.in-Class.attributes) cell.Root (cell.Class c.in-Class.class c.in-Class.base c.unbind-in-Class.new.bindings)
    (c.replace.ensures.old ∙ ap (λ (x : Cell). Some x) c.in-Class.is) c.replace.ensures.new c.replace-in-Class.ensures.new
    (ap (λ (bs : List Binding). cell.Class c.in-Class.class c.in-Class.base bs) (sym c.unbind-in-Class.ensures.left))
