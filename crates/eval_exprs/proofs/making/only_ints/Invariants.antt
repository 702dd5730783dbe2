use Rattle.std.proofs.Common.{◌≡◌, ◌++◌, drop, option_map}
use Rattle.language_rules.specs.Conversions.{only_ints}
use Rattle.eval_exprs.proofs.making.only_ints.Given as goal

-- what was made, and then what is left
abbrev pub invariant-loop-argument : goal.invariant-loop-argument
invariant-loop-argument l = only_ints l.arguments ≡ option_map (λ zs. l.ints.items ++ zs) (only_ints (drop l.argument-index l.arguments))
