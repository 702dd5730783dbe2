use Rattle.std.proofs.Common.{length, set, ◌<◌, arith, refl}
use Rattle.std.proofs.lemmas.Option.{slice_get_read}
use Rattle.py_scope.proofs.SetLaws.{added_at}
use Rattle.py_scope.proofs.scopes.add_at.Goals as goal

pub returns : goal.returns
returns c =
    let within : c.args.function < length c.args.sets.now.items = omega arith in
    added_at c.args.sets.now.items (set c.args.sets.now.items c.args.function c.add.new.self) c.args.function c.args.name.now c.index_mut.result.now c.add.new.self within
    (slice_get_read c.args.sets.now.items (length c.args.sets.now.items) c.args.function c.index_mut.result.now refl within c.index_mut.ensures.value) c.in_ok-add.ensures.ok refl
