use Rattle.std.proofs.Common.{◌≡◌, Ok, Err}
use Rattle.side_trees.specs.Trees.{Return}
use Rattle.language_rules.specs.Going.{done}
use Rattle.language_rules.specs.Names.{binds_name}
use Rattle.eval_targets.specs.declared.operands.Outcome.TheVariants as outcome
use Rattle.eval_targets.proofs.KindedOperands.{asked_over, at_stack, ended_over, made_over}
use Rattle.eval_targets.proofs.augmenting.bind_augmented.Goals as goal

pub returns-in-Ok-Made-clause-means : goal.returns-in-Ok-Made-clause-means
returns-in-Ok-Made-clause-means c =
    let outer = c.in-Ok-Made.is in
    let inner = c.in-Ok-Made.field-0-is in
    let same = c.in-Ok-Made.value-is in
    let is : c.augmented.result ≡ Ok (outcome.Made c.in-Ok-Made.value) = cc in
    made_over c.args.op c.args.old c.args.right c.kind_of_value-old_kind.result c.kind_of_value-right_kind.result c.in-Ok-Made.value c.augmented.result (λ w. binds_name c.args.env c.args.name w (Return done)) c.args.store.now.cells c.bind_value.new.store.cells c.args.texts.now c.args.stack.now.items c.args.stack.now.items c.bind_value.result
    c.kind_of_value-old_kind.ensures c.kind_of_value-right_kind.ensures c.augmented.ensures is
    (at_stack (binds_name c.args.env c.args.name c.in-Ok-Made.value (Return done)) c.args.store.now.cells c.bind_value.new.store.cells c.args.texts.now c.args.stack.now.items c.bind_value.result c.bind_value.ensures.means)

pub returns-in-Ok-Asked-clause-means : goal.returns-in-Ok-Asked-clause-means
returns-in-Ok-Asked-clause-means c =
    let outer = c.in-Ok-Asked.is in
    let inner = c.in-Ok-Asked.field-0-is in
    let same = c.in-Ok-Asked.special-is in
    let is : c.augmented.result ≡ Ok (outcome.Asked c.in-Ok-Asked.special) = cc in
    asked_over c.args.op c.args.old c.args.right c.kind_of_value-old_kind.result c.kind_of_value-right_kind.result c.in-Ok-Asked.special c.augmented.result (λ w. binds_name c.args.env c.args.name w (Return done)) c.args.store.now.cells c.args.texts.now c.ask_for_name.new.stack.items c.args.stack.now.items c.ask_for_name.result
    c.kind_of_value-old_kind.ensures c.kind_of_value-right_kind.ensures c.augmented.ensures is c.ask_for_name.ensures.means

pub returns-in-Err-clause-means : goal.returns-in-Err-clause-means
returns-in-Err-clause-means c =
    let outer = c.in-Err.is in
    let same = c.in-Err.end-is in
    let is : c.augmented.result ≡ Err c.in-Err.end = cc in
    ended_over c.args.op c.args.old c.args.right c.kind_of_value-old_kind.result c.kind_of_value-right_kind.result c.in-Err.end c.augmented.result (λ w. binds_name c.args.env c.args.name w (Return done)) c.args.store.now.cells c.args.texts.now c.args.stack.now.items c.answered.result
    c.kind_of_value-old_kind.ensures c.kind_of_value-right_kind.ensures c.augmented.ensures is c.answered.ensures.means
