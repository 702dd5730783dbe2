use Rattle.std.proofs.Common.{◌≡◌, drop, map}
use Rattle.rp_base.specs.Names.{exception_name}
use Rattle.language_rules.specs.Exceptions.{names_of}
use Rattle.language_rules.specs.Texts.{has_name}
use Rattle.eval_handlers.proofs.classes.is_within.Given as goal

abbrev pub invariant-loop-base : goal.invariant-loop-base
invariant-loop-base l = has_name l.name (names_of l.fn.kind) ≡ has_name l.name (map exception_name (drop l.base-index l.bases))
