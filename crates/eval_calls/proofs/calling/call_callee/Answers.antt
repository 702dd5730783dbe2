use Rattle.std.proofs.Common.{◌∷◌, List, ap, refl, sym}
use Rattle.rp_base.specs.declared.value.Value.{Value}
use Rattle.object_operations.specs.declared.operation.Operation.TheVariants as operation
use Rattle.language_rules.specs.Answers.{asked}
use Rattle.language_rules.specs.Calls.{makes_instance, method_rule, not_callable}
use Rattle.language_rules.specs.Functions.{calls_function}
use Rattle.eval_calls.specs.declared.calling.Callee.TheVariants as callee
use Rattle.eval_calls.proofs.CallLemmas.{callee_told, these_texts, this_stack}
use Rattle.eval_calls.proofs.calling.call_callee.Goals as goal

pub returns-in-Function-clause-means : goal.returns-in-Function-clause-means
returns-in-Function-clause-means c =
    callee_told c.args.number c.args.callee (callee.Function c.in-Function.closure) c.args.arguments (calls_function c.in-Function.closure.text c.in-Function.closure.function c.in-Function.closure.scope c.as_slice.result.now)
    c.args.texts.now c.args.store.now.cells c.call_function.new.store.cells c.call_function.new.stack.items c.args.stack.now.items c.call_function.result c.in-Function.is
    (ap (λ (vs : List Value). calls_function c.in-Function.closure.text c.in-Function.closure.function c.in-Function.closure.scope vs) (sym c.as_slice.ensures)) c.call_function.ensures.means

pub returns-in-Method-clause-means : goal.returns-in-Method-clause-means
returns-in-Method-clause-means c =
    let t = asked (operation.Call c.in-Method.function (c.in-Method.receiver ∷ c.args.arguments)) in
    callee_told c.args.number c.args.callee (callee.Method c.in-Method.receiver c.in-Method.function) c.args.arguments t
    c.args.texts.now c.args.store.now.cells c.args.store.now.cells c.args.stack.now.items c.args.stack.now.items c.call_bound.result c.in-Method.is refl
    (this_stack t c.args.texts.now c.args.store.now.cells c.args.stack.now.items c.call_bound.result c.call_bound.ensures.means)

pub returns-in-Builtin-clause-means : goal.returns-in-Builtin-clause-means
returns-in-Builtin-clause-means c =
    let t = method_rule c.in-Builtin.receiver c.in-Builtin.method c.as_slice-in-Builtin.result.now in
    callee_told c.args.number c.args.callee (callee.Builtin c.in-Builtin.receiver c.in-Builtin.method) c.args.arguments t
    c.args.texts.now c.args.store.now.cells c.call_method.new.store.cells c.call_method.new.stack.items c.args.stack.now.items c.call_method.result c.in-Builtin.is
    (ap (λ (vs : List Value). method_rule c.in-Builtin.receiver c.in-Builtin.method vs) (sym c.as_slice-in-Builtin.ensures))
    (these_texts t c.args.texts.now c.args.store.now.cells c.call_method.new.store.cells c.call_method.new.stack.items c.args.stack.now.items c.call_method.result c.call_method.ensures.means)

pub returns-in-Class-clause-means : goal.returns-in-Class-clause-means
returns-in-Class-clause-means c =
    let t = makes_instance c.args.number c.args.arguments in
    callee_told c.args.number c.args.callee callee.Class c.args.arguments t
    c.args.texts.now c.args.store.now.cells c.make_instance.new.store.cells c.make_instance.new.stack.items c.args.stack.now.items c.make_instance.result c.in-Class.is refl
    (these_texts t c.args.texts.now c.args.store.now.cells c.make_instance.new.store.cells c.make_instance.new.stack.items c.args.stack.now.items c.make_instance.result c.make_instance.ensures.means)

pub returns-in-Other-clause-means : goal.returns-in-Other-clause-means
returns-in-Other-clause-means c =
    callee_told c.args.number c.args.callee callee.Other c.args.arguments not_callable
    c.args.texts.now c.args.store.now.cells c.args.store.now.cells c.args.stack.now.items c.args.stack.now.items c.refuse.result c.in-Other.is refl
    (this_stack not_callable c.args.texts.now c.args.store.now.cells c.args.stack.now.items c.refuse.result c.refuse.ensures.means)
