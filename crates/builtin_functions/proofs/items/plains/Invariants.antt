use Rattle.std.proofs.Common.{◌≡◌, map, take}
use Rattle.rp_base.specs.declared.value.Value.TheVariants as value
use Rattle.builtin_functions.proofs.items.plains.Given as goal

abbrev pub invariant-loop-plain : goal.invariant-loop-plain
invariant-loop-plain l = l.items ≡ map (λ p. value.Plain p) (take l.plain-index l.plains)
