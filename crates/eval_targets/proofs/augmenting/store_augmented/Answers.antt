use Rattle.std.proofs.Common.{◌≡◌, Ok, Err}
use Rattle.eval_frames.specs.TargetFrames.{stores}
use Rattle.eval_targets.specs.declared.operands.Outcome.TheVariants as outcome
use Rattle.eval_targets.proofs.KindedOperands.{asked_at, ended_at, made_at}
use Rattle.eval_targets.proofs.augmenting.store_augmented.Goals as goal

pub returns-in-Ok-Made-clause-means : goal.returns-in-Ok-Made-clause-means
returns-in-Ok-Made-clause-means c =
    let outer = c.in-Ok-Made.is in
    let inner = c.in-Ok-Made.field-0-is in
    let same = c.in-Ok-Made.value-is in
    let is : c.augmented.result ≡ Ok (outcome.Made c.in-Ok-Made.value) = cc in
    made_at c.args.op c.args.old c.args.right c.kind_of_value-old_kind.result c.kind_of_value-right_kind.result c.in-Ok-Made.value c.augmented.result (stores c.args.destination) c.args.store.now.cells c.store_value.new.stack.items c.args.stack.now.items c.store_value.result
    c.kind_of_value-old_kind.ensures c.kind_of_value-right_kind.ensures c.augmented.ensures is c.store_value.ensures.means

pub returns-in-Ok-Asked-clause-means : goal.returns-in-Ok-Asked-clause-means
returns-in-Ok-Asked-clause-means c =
    let outer = c.in-Ok-Asked.is in
    let inner = c.in-Ok-Asked.field-0-is in
    let same = c.in-Ok-Asked.special-is in
    let is : c.augmented.result ≡ Ok (outcome.Asked c.in-Ok-Asked.special) = cc in
    asked_at c.args.op c.args.old c.args.right c.kind_of_value-old_kind.result c.kind_of_value-right_kind.result c.in-Ok-Asked.special c.augmented.result (stores c.args.destination) c.args.store.now.cells c.ask_for_place.new.stack.items c.args.stack.now.items c.ask_for_place.result
    c.kind_of_value-old_kind.ensures c.kind_of_value-right_kind.ensures c.augmented.ensures is c.ask_for_place.ensures.means

pub returns-in-Err-clause-means : goal.returns-in-Err-clause-means
returns-in-Err-clause-means c =
    let outer = c.in-Err.is in
    let same = c.in-Err.end-is in
    let is : c.augmented.result ≡ Err c.in-Err.end = cc in
    ended_at c.args.op c.args.old c.args.right c.kind_of_value-old_kind.result c.kind_of_value-right_kind.result c.in-Err.end c.augmented.result (stores c.args.destination) c.args.store.now.cells c.args.stack.now.items c.answered.result
    c.kind_of_value-old_kind.ensures c.kind_of_value-right_kind.ensures c.augmented.ensures is c.answered.ensures.means
