use Rattle.std.proofs.Common.{◌≡◌, map}
use Rattle.rp_base.specs.declared.value.Value.TheVariants as value
use Rattle.item_sorting.proofs.items.values_of.Given as goal

-- those that came
abbrev pub invariant-loop-plain : goal.invariant-loop-plain
invariant-loop-plain l = l.items ≡ map (λ p. value.Plain p) l.yielded
