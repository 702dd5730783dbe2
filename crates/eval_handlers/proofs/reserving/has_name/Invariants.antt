use Rattle.std.proofs.Common.{◌≡◌, drop}
use Rattle.language_rules.specs.Texts.{has_name}
use Rattle.eval_handlers.proofs.reserving.has_name.Given as goal

abbrev pub invariant-loop-other : goal.invariant-loop-other
invariant-loop-other l = has_name l.name l.others ≡ has_name l.name (drop l.other-index l.others)
