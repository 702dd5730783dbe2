use Rattle.std.proofs.Common.{◌≡◌, ◌++◌, drop, option_map}
use Rattle.rp_base.specs.Values.{plains_of}
use Rattle.eval_exprs.proofs.raising.plains_of.Given as goal

-- what was made, and then what is left
abbrev pub invariant-loop-value : goal.invariant-loop-value
invariant-loop-value l = plains_of l.values ≡ option_map (λ ps. l.all ++ ps) (plains_of (drop l.value-index l.values))
