use Rattle.std.proofs.Common.{◌-◌, List, drop, length, subst}
use Rattle.pair_run.specs.declared.scripts.Binding.{Binding}
use Rattle.pair_run.specs.Scripts.{Agrees}
use Rattle.pair_run.proofs.LastBindings.{one_more}
use Rattle.pair_run.proofs.scripts.latest.Goals as goal

pub loop-i-preserved : goal.loop-i-preserved
loop-i-preserved c =
    let F : List Binding → Type 0 = λ bs. Agrees c.keep.new.namespace.items bs in
    subst F (one_more c.args.bindings.now c.loop-i.i _ c.loop-i-test.true) (c.in_ok-keep.ensures (drop (length c.args.bindings.now - c.loop-i.i) c.args.bindings.now) c.loop-i.invariant)
