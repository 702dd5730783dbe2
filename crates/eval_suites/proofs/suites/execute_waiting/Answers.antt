use Rattle.std.proofs.Common.{◌-◌, arith, reverse}
use Rattle.language_rules.specs.Going.{executes_all}
use Rattle.eval_suites.proofs.Moves.{by_frames, one_more}
use Rattle.eval_suites.proofs.suites.execute_waiting.Goals as goal

pub statements-preserved : goal.statements-preserved
statements-preserved c = (
  one_more c.args.texts.now c.args.store.now c.statements.store c.execute.new.store (executes_all c.args.env (reverse c.args.waiting)) c.args.env c.in-Some.number c.statements.waiting c.pop.new.self c.args.fuel.now c.statements.fuel c.in-Some-execute.left
      c.in-Some.ensures c.statements.invariant.1 c.statements.invariant.0 c.in-Some-execute.ensures,
  omega (arith, c.in-Some-execute.ensures.1, c.statements.invariant.1),
  c.statements.invariant.2,
)

pub returns-in-None-execute-clause-means : goal.returns-in-None-execute-clause-means
returns-in-None-execute-clause-means c =
    by_frames c.args.texts.now c.args.store.now c.statements.store c.execute.new.store (executes_all c.args.env (reverse c.args.waiting)) c.args.env c.in-Some.number c.statements.waiting c.pop.new.self c.args.stack.now.items c.statements.stack.items c.enter_suite.new.stack.items (c.args.fuel.now - c.statements.fuel) c.enter_suite.result
    c.in-Some.ensures c.in-None-execute.ensures c.statements.invariant.2 c.statements.invariant.0 c.enter_suite.ensures.means
