use Rattle.std.proofs.Common.{◌≡◌, reverse}
use Rattle.language_rules.specs.Handlers.{first_handling, is_of}
use Rattle.eval_handlers.proofs.handled.current.Given as goal

abbrev pub invariant-loop-handling : goal.invariant-loop-handling
invariant-loop-handling l = first_handling (is_of l.env) (reverse l.handled) ≡ first_handling (is_of l.env) (reverse l.handling-iterator.iter.rest.now)
