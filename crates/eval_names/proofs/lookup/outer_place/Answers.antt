use Rattle.std.proofs.Common.{◌∙◌}
use Rattle.language_rules.specs.AtOnce.{stated}
use Rattle.eval_names.proofs.PlaceLemmas.{ended, found, lost, over_all, passed}
use Rattle.eval_names.proofs.lookup.outer_place.Goals as goal

pub returns-in_default : goal.returns-in_default
returns-in_default c = λ fixed. c.steps.invariant fixed ∙ ended (stated fixed c.args.store.now.cells c.args.texts.now) c.args.text c.args.name.now c.args.most c.steps.done c.steps.function c.steps.scope c.steps-test.true c.in_default.is

pub returns-in_default-function_at : goal.returns-in_default-function_at
returns-in_default-function_at c =
    λ fixed. c.steps.invariant fixed ∙ lost (stated fixed c.args.store.now.cells c.args.texts.now) c.args.text c.args.name.now c.args.most c.steps.done c.steps.function c.steps.scope c.in-Some.number c.steps-test.true c.in-Some.is c.in_default-function_at.ensures

pub returns-then-has_name : goal.returns-then-has_name
returns-then-has_name c =
    λ fixed. c.steps.invariant fixed ∙ found (stated fixed c.args.store.now.cells c.args.texts.now) c.args.text c.args.name.now c.args.most c.steps.done c.steps.function c.steps.scope c.in-Some.number c.in-Some-function_at.info.now c.steps-test.true c.in-Some.is c.in-Some-function_at.ensures cc

pub steps-preserved : goal.steps-preserved
steps-preserved c =
    λ fixed. c.steps.invariant fixed ∙ passed (stated fixed c.args.store.now.cells c.args.texts.now) c.args.text c.args.name.now c.args.most c.steps.done c.steps.function c.steps.scope c.in-Some.number c.in-Some-function_at.info.now c.around-scope.result c.steps-test.true c.in-Some.is c.in-Some-function_at.ensures c.around-scope.ensures cc

pub returns : goal.returns
returns c =
    λ fixed. c.steps.invariant fixed ∙ over_all (stated fixed c.args.store.now.cells c.args.texts.now) c.args.text c.args.name.now c.args.most c.steps.done c.steps.function c.steps.scope c.steps-test.false
