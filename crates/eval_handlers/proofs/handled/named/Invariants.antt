use Rattle.std.proofs.Common.{◌≡◌, reverse}
use Rattle.language_rules.specs.Handlers.{first_handling, is_named}
use Rattle.eval_handlers.proofs.handled.named.Given as goal

abbrev pub invariant-loop-handling : goal.invariant-loop-handling
invariant-loop-handling l = first_handling (is_named l.env l.name) (reverse l.handled) ≡ first_handling (is_named l.env l.name) (reverse l.handling-iterator.iter.rest.now)
