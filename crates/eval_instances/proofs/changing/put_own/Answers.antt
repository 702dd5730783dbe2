use Rattle.std.proofs.Common.{◌∙◌, ap, sym, Some, List}
use Rattle.py_store.specs.declared.cell.Binding.{Binding}
use Rattle.py_store.specs.declared.cell.Cell.{Cell}
use Rattle.py_store.specs.declared.cell.Cell.TheVariants as cell
use Rattle.eval_instances.specs.Owners.{with_own}
use Rattle.eval_instances.proofs.OwnerLemmas.{replaced, where_put}
use Rattle.eval_instances.proofs.changing.put_own.Goals as goal

pub returns-in-Instance : goal.returns-in-Instance
returns-in-Instance c =
    where_put c.bind-put.result (with_own c.args.name c.args.value) c.args.store.now c.replace-in-Instance.new.self c.args.number c.bind-put.ensures.ok (λ put.
    replaced (with_own c.args.name c.args.value) c.args.number c.args.store.now c.replace.new.self c.replace-in-Instance.new.self (cell.Instance c.in-Instance.class c.in-Instance.attributes) cell.Root (cell.Instance c.in-Instance.class c.bind-put.new.bindings)
    (c.replace.ensures.old ∙ ap (λ (x : Cell). Some x) c.in-Instance.is) c.replace.ensures.new c.replace-in-Instance.ensures.new
    (ap (λ (bs : List Binding). cell.Instance c.in-Instance.class bs) (sym put)))

pub returns-in-Class : goal.returns-in-Class
returns-in-Class c =
    where_put c.bind-put-in-Class.result (with_own c.args.name c.args.value) c.args.store.now c.replace-in-Class.new.self c.args.number c.bind-put-in-Class.ensures.ok (λ put.
    replaced (with_own c.args.name c.args.value) c.args.number c.args.store.now c.replace.new.self c.replace-in-Class.new.self (cell.Class c.in-Class.class c.in-Class.base c.in-Class.attributes) cell.Root (cell.Class c.in-Class.class c.in-Class.base c.bind-put-in-Class.new.bindings)
    (c.replace.ensures.old ∙ ap (λ (x : Cell). Some x) c.in-Class.is) c.replace.ensures.new c.replace-in-Class.ensures.new
    (ap (λ (bs : List Binding). cell.Class c.in-Class.class c.in-Class.base bs) (sym put)))
