use Rattle.std.proofs.Common.{◌≡◌, map, take}
use Rattle.rp_base.specs.declared.value.Value.TheVariants as value
use Rattle.eval_handlers.proofs.telling.values_of.Given as goal

abbrev pub invariant-loop-argument : goal.invariant-loop-argument
invariant-loop-argument l = l.values ≡ map value.Plain (take l.argument-index l.args)
