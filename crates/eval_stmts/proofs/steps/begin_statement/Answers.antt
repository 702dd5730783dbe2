use Rattle.py_ast.specs.declared.statement.Statement.TheVariants as statement
use Rattle.eval_stmts.proofs.Beginning.{begun, begun_in}
use Rattle.eval_stmts.proofs.steps.begin_statement.Goals as goal

pub returns-in-Assign-clause-means : goal.returns-in-Assign-clause-means
returns-in-Assign-clause-means c =
    begun c.args.env c.args.statement.now (statement.Assign c.in-Assign.target c.in-Assign.value) c.args.store.now.cells c.args.texts.now c.enter_over-in-Assign.new.stack.items c.args.stack.now.items c.enter_over-in-Assign.result
    c.in-Assign.is c.enter_over-in-Assign.ensures.means

pub returns-in-If-clause-means : goal.returns-in-If-clause-means
returns-in-If-clause-means c =
    begun c.args.env c.args.statement.now (statement.If c.in-If.test c.in-If.then c.in-If.otherwise) c.args.store.now.cells c.args.texts.now c.begin_if.new.stack.items c.args.stack.now.items c.begin_if.result
    c.in-If.is c.begin_if.ensures.means

pub returns-in-While-clause-means : goal.returns-in-While-clause-means
returns-in-While-clause-means c =
    begun_in c.args.env c.args.statement.now (statement.While c.in-While.test c.in-While.body) c.args.store.now.cells c.args.texts.now c.begin_while.new.stack.items c.args.stack.now.items c.begin_while.result
    c.in-While.is c.begin_while.ensures.means
