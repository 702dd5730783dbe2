use Rattle.std.proofs.Common.{◌≡◌, ◌∷◌, take}
use Rattle.rp_base.specs.declared.value.Value.TheVariants as value
use Rattle.eval_instances.proofs.calling.call_of.Given as goal

abbrev pub invariant-loop-argument : goal.invariant-loop-argument
invariant-loop-argument l = l.all ≡ value.Own l.number ∷ take l.argument-index l.arguments
