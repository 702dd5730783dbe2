use Rattle.std.proofs.Common.{◌≡◌, [], drop}
use Rattle.language_rules.specs.Programs.{with_names}
use Rattle.eval_handlers.proofs.reserving.reserved_names.Given as goal

abbrev pub invariant-loop-name : goal.invariant-loop-name
invariant-loop-name l = with_names (drop l.name-index l.names) l.reserved ≡ with_names l.names []
