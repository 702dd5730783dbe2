use Rattle.std.proofs.Common.{◌-◌, ◌∙◌, ap, arith, sym, List, reverse, string_bytes}
use Rattle.rp_base.specs.declared.value.Value.{Value}
use Rattle.language_rules.specs.Going.{evaluates_behind}
use Rattle.eval_frames.specs.declared.frame.ExpressionFrame.{ExpressionFrame}
use Rattle.eval_frames.specs.Meaning.{calls, gathers, through_expression}
use Rattle.nested_serve.proofs.WithinLaws.{expression_within, lent_as, light_within}
use Rattle.nested_serve.proofs.within.give_value.Goals as goal

pub returns-in_ok-push-in-Operands-clause-means : goal.returns-in_ok-push-in-Operands-clause-means
returns-in_ok-push-in-Operands-clause-means c =
    lent_as c.gather_within.result c.args.machine.now.stack.items c.gather_within.new.stack.items c.args.machine.now.store c.args.machine.now.store c.args.machine.now.texts.items c.deref.result.now c.args.machine.now.handled c.args.machine.now.classes c.args.machine.now.printing (string_bytes c.args.machine.now.printed) _ _ (c.args.fuel.now - c.gather_within.new.fuel)
    c.deref.ensures.value
    (ap (λ (f : ExpressionFrame). through_expression f c.args.value) c.in-Operands.is ∙ ap (λ (vs : List Value). evaluates_behind c.in-Operands.env vs (reverse c.in-Operands.waiting) (gathers c.in-Operands.gathering)) (sym c.in_ok-push-in-Operands.ensures.ok))
    c.gather_within.ensures.means

pub returns-in-Callee-clause-means : goal.returns-in-Callee-clause-means
returns-in-Callee-clause-means c =
    lent_as c.call_within.result c.args.machine.now.stack.items c.call_within.new.stack.items c.args.machine.now.store c.args.machine.now.store c.args.machine.now.texts.items c.deref-in-Callee.result.now c.args.machine.now.handled c.args.machine.now.classes c.args.machine.now.printing (string_bytes c.args.machine.now.printed) _ _ (c.args.fuel.now - c.call_within.new.fuel)
    c.deref-in-Callee.ensures.value
    (ap (λ (f : ExpressionFrame). through_expression f c.args.value) c.in-Callee.is ∙ ap (λ (vs : List Value). evaluates_behind c.in-Callee.env vs (reverse c.in-Callee.waiting) (calls c.args.value)) (sym c.new.ensures))
    c.call_within.ensures.means

pub returns-in_ok-push-in-Arguments-clause-means : goal.returns-in_ok-push-in-Arguments-clause-means
returns-in_ok-push-in-Arguments-clause-means c =
    lent_as c.call_within-in-Arguments.result c.args.machine.now.stack.items c.call_within-in-Arguments.new.stack.items c.args.machine.now.store c.args.machine.now.store c.args.machine.now.texts.items c.deref-in-Arguments.result.now c.args.machine.now.handled c.args.machine.now.classes c.args.machine.now.printing (string_bytes c.args.machine.now.printed) _ _ (c.args.fuel.now - c.call_within-in-Arguments.new.fuel)
    c.deref-in-Arguments.ensures.value
    (ap (λ (f : ExpressionFrame). through_expression f c.args.value) c.in-Arguments.is ∙ ap (λ (vs : List Value). evaluates_behind c.in-Arguments.env vs (reverse c.in-Arguments.waiting) (calls c.in-Arguments.callee)) (sym c.in_ok-push-in-Arguments.ensures.ok))
    c.call_within-in-Arguments.ensures.means

pub returns-in_default : goal.returns-in_default
returns-in_default c = record {
  means = expression_within c.give_expression.result c.args.machine.now.stack.items c.give_expression.new.stack.items c.args.machine.now.store.cells c.args.machine.now.texts.items c.args.machine.now.handled c.args.machine.now.classes c.args.machine.now.printing (string_bytes c.args.machine.now.printed) (through_expression c.args.frame c.args.value) c.args.fuel.now c.give_expression.ensures.means;
  light = light_within c.give_expression.result c.args.machine.now.stack.items c.give_expression.new.stack.items c.args.fuel.now c.give_expression.ensures.light;
  spent = omega arith;
}
