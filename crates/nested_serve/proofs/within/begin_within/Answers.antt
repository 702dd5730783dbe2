use Rattle.std.proofs.Common.{◌≡◌, ◌-◌, Some, slice_get, string_bytes}
use Rattle.py_ast.specs.declared.node.Node.TheVariants as node
use Rattle.py_ast.specs.declared.statement.Statement.TheVariants as statement
use Rattle.language_rules.specs.Texts.{node_of}
use Rattle.nested_serve.proofs.WithinLaws.{node_lent}
use Rattle.nested_serve.proofs.within.begin_within.Goals as goal

pub returns-in-Some-Statement-If-clause-means : goal.returns-in-Some-Statement-If-clause-means
returns-in-Some-Statement-If-clause-means c =
    let seen = c.in-Some-Statement-If.ensures in
    let outer = c.in-Some-Statement-If.field-0-is in
    let inner = c.in-Some-Statement-If.field-0-0-is in
    let there : node_of (slice_get c.deref.result.now c.args.env.text) c.args.number ≡ Some (node.Statement (statement.If c.in-Some-Statement-If.test c.in-Some-Statement-If.then c.in-Some-Statement-If.otherwise)) = cc in
    node_lent c.branch-alloc.result c.args.machine.now.stack.items c.branch-alloc.new.stack.items c.args.machine.now.store c.branch-alloc.new.store c.args.machine.now.texts.items c.deref.result.now c.deref-in-Some-Statement-If.result.now c.args.machine.now.handled c.args.machine.now.classes c.args.machine.now.printing (string_bytes c.args.machine.now.printed) c.args.env c.args.number (statement.If c.in-Some-Statement-If.test c.in-Some-Statement-If.then c.in-Some-Statement-If.otherwise) (c.args.fuel.now - c.branch-alloc.new.fuel)
    c.deref.ensures.value c.deref-in-Some-Statement-If.ensures.value there c.branch-alloc.ensures.means

pub returns-in-Some-Statement-Return-Some-clause-means : goal.returns-in-Some-Statement-Return-Some-clause-means
returns-in-Some-Statement-Return-Some-clause-means c =
    let seen = c.in-Some-Statement-Return-Some.ensures in
    let outer = c.in-Some-Statement-Return-Some.field-0-is in
    let inner = c.in-Some-Statement-Return-Some.field-0-0-is in
    let there : node_of (slice_get c.deref.result.now c.args.env.text) c.args.number ≡ Some (node.Statement (statement.Return (Some c.in-Some-Statement-Return-Some.value))) = cc in
    node_lent c.return_value.result c.args.machine.now.stack.items c.return_value.new.stack.items c.args.machine.now.store c.args.machine.now.store c.args.machine.now.texts.items c.deref.result.now c.deref-in-Some-Statement-Return-Some.result.now c.args.machine.now.handled c.args.machine.now.classes c.args.machine.now.printing (string_bytes c.args.machine.now.printed) c.args.env c.args.number (statement.Return (Some c.in-Some-Statement-Return-Some.value)) (c.args.fuel.now - c.return_value.new.fuel)
    c.deref.ensures.value c.deref-in-Some-Statement-Return-Some.ensures.value there c.return_value.ensures.means
