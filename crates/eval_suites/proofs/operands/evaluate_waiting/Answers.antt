use Rattle.std.proofs.Common.{arith, List, reverse}
use Rattle.rp_base.specs.declared.value.Value.{Value}
use Rattle.language_rules.specs.Going.{RuleTree, evaluates_behind}
use Rattle.eval_suites.proofs.Evaluating.{operand_more}
use Rattle.eval_suites.proofs.operands.evaluate_waiting.Goals as goal

pub operands-preserved : goal.operands-preserved
operands-preserved c = (
  operand_more c.args.texts.now c.args.store.now (λ (f : List Value → RuleTree). evaluates_behind c.args.env c.args.values.now (reverse c.args.waiting.now) f) c.args.env c.in-Some.number c.operands.waiting c.pop.new.self c.operands.values c.push.new.self c.args.units c.operands.left c.in-Some-evaluate.evaluated
      c.in-Some.ensures c.in_ok-push-in-Some-evaluate.ensures.ok c.operands.invariant.1 c.operands.invariant.0 c.in-Some-evaluate.ensures,
  omega (arith, c.in-Some-evaluate.ensures.1, c.operands.invariant.1),
)
