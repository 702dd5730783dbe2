use Rattle.std.proofs.Common.{◌≡◌, drop}
use Rattle.language_rules.specs.Exceptions.{names_one}
use Rattle.eval_handlers.proofs.classes.names_one.Given as goal

abbrev pub invariant-loop-name : goal.invariant-loop-name
invariant-loop-name l = names_one l.kinds l.kind ≡ names_one (drop l.name-index l.kinds) l.kind
