use Rattle.std.proofs.Common.{◌≡◌, ℕ, List, Some, IfOk, slice_get, string_bytes, subst}
use Rattle.py_ast.specs.declared.node.Node.TheVariants as node
use Rattle.py_ast.specs.declared.statement.Statement.TheVariants as statement
use Rattle.language_rules.specs.Classes.{class_rule}
use Rattle.language_rules.specs.States.{State}
use Rattle.language_rules.specs.Texts.{node_of}
use Rattle.eval_frames.specs.Meaning.{MeansOver, classed}
use Rattle.nested_serve.proofs.Steps.{class_node}
use Rattle.nested_serve.proofs.running.begin_node.Goals as goal

pub returns-in-Some-Statement-Class-clause-means : goal.returns-in-Some-Statement-Class-clause-means
returns-in-Some-Statement-Class-clause-means c =
    let seen = c.in-Some-Statement-Class.ensures in
    let outer = c.in-Some-Statement-Class.field-0-is in
    let inner = c.in-Some-Statement-Class.field-0-0-is in
    let name = c.in-Some-Statement-Class.name-is in
    let base = c.in-Some-Statement-Class.base-is in
    let body = c.in-Some-Statement-Class.body-is in
    let first = c.deref.ensures.value in
    let second = c.deref-in-Some-Statement-Class.ensures.value in
    let there : node_of (slice_get c.deref-in-Some-Statement-Class.result.now c.args.env.text) c.args.number ≡ Some (node.Statement (statement.Class c.in-Some-Statement-Class.name c.in-Some-Statement-Class.base c.in-Some-Statement-Class.body)) = cc in
    class_node c.begin_class.result c.args.machine.now.stack.items c.begin_class.new.stack.items c.args.machine.now.store.cells c.begin_class.new.store.cells c.args.machine.now.texts.items c.deref-in-Some-Statement-Class.result.now c.args.machine.now.handled c.args.machine.now.classes c.begin_class.new.classes c.args.machine.now.printing (string_bytes c.args.machine.now.printed) c.args.env c.args.number c.in-Some-Statement-Class.name c.in-Some-Statement-Class.base c.in-Some-Statement-Class.body
    c.deref-in-Some-Statement-Class.ensures.value there
    (subst (λ (t : List ℕ). IfOk c.begin_class.result (λ n. (fixed : State) → MeansOver (classed fixed c.args.machine.now.store.cells c.deref-in-Some-Statement-Class.result.now c.args.machine.now.classes) (classed fixed c.begin_class.new.store.cells c.deref-in-Some-Statement-Class.result.now c.begin_class.new.classes) c.begin_class.new.stack.items n (class_rule c.args.env t c.in-Some-Statement-Class.base c.in-Some-Statement-Class.body) c.args.machine.now.stack.items)) c.as_str.ensures c.begin_class.ensures.means)
