use Rattle.std.proofs.Common.{◌≡◌, Some, slice_get}
use Rattle.py_ast.specs.declared.node.Node.TheVariants as node
use Rattle.language_rules.specs.Texts.{node_of}
use Rattle.nested_serve.proofs.Steps.{as_situated, at_node}
use Rattle.language_rules.specs.Expressions.{expression_rule}
use Rattle.nested_serve.proofs.entering.enter.Goals as goal

pub returns-in-Some-Expression-clause-means : goal.returns-in-Some-Expression-clause-means
returns-in-Some-Expression-clause-means c =
    let seen = c.in-Some-Expression.ensures in
    let outer = c.in-Some-Expression.field-0-is in
    let same = c.in-Some-Expression.expression-is in
    let there : node_of (slice_get c.args.texts.now c.args.env.text) c.args.number ≡ Some (node.Expression c.in-Some-Expression.expression) = cc in
    at_node c.begin_expression.result c.begin_expression.new.stack.items c.args.stack.now.items c.args.store.now.cells c.args.store.now.cells c.args.texts.now c.args.handled.now c.args.env c.args.number (Some (node.Expression c.in-Some-Expression.expression)) there
    (as_situated c.begin_expression.result c.args.stack.now.items c.begin_expression.new.stack.items c.args.store.now.cells c.args.store.now.cells c.args.texts.now c.args.handled.now (expression_rule c.args.env c.in-Some-Expression.expression) c.begin_expression.ensures.means)

pub returns-in-Some-Statement-clause-means : goal.returns-in-Some-Statement-clause-means
returns-in-Some-Statement-clause-means c =
    let seen = c.in-Some-Statement.ensures in
    let outer = c.in-Some-Statement.field-0-is in
    let same = c.in-Some-Statement.statement-is in
    let there : node_of (slice_get c.args.texts.now c.args.env.text) c.args.number ≡ Some (node.Statement c.in-Some-Statement.statement) = cc in
    at_node c.enter_statement.result c.enter_statement.new.stack.items c.args.stack.now.items c.args.store.now.cells c.enter_statement.new.store.cells c.args.texts.now c.args.handled.now c.args.env c.args.number (Some (node.Statement c.in-Some-Statement.statement)) there c.enter_statement.ensures.means
