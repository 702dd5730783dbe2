use Rattle.std.proofs.Common.{◌≡◌, Some, slice_get}
use Rattle.py_ast.specs.declared.node.Node.TheVariants as node
use Rattle.py_ast.specs.declared.statement.Statement.TheVariants as statement
use Rattle.language_rules.specs.Beginnings.{asks_next}
use Rattle.language_rules.specs.Loops.{next_turn}
use Rattle.language_rules.specs.Texts.{node_of}
use Rattle.eval_loops.proofs.ForTurns.{suite_begun}
use Rattle.eval_loops.proofs.turns.begin_suite.Goals as goal

pub returns-clause-means : goal.returns-clause-means
returns-clause-means c =
    let seen = c.in-Some-Statement-Suite.ensures in
    let outer = c.in-Some-Statement-Suite.field-0-is in
    let inner = c.in-Some-Statement-Suite.field-0-0-is in
    let same = c.in-Some-Statement-Suite.statements-is in
    let slice = c.as_slice.ensures in
    let there : node_of (slice_get c.args.texts.now c.args.env.text) c.args.body ≡ Some (node.Statement (statement.Suite c.as_slice.result.now)) = cc in
    suite_begun c.args.env c.args.body c.as_slice.result.now c.in_ok-waiting.waiting (next_turn (asks_next c.args.env c.args.target c.args.body c.args.iterator)) c.args.texts.now c.execute_turn.new.stack.items c.args.stack.now.items c.execute_turn.result
    there c.in_ok-waiting.ensures c.execute_turn.ensures.means
