use Rattle.std.proofs.Common.{drop}
use Rattle.language_rules.specs.Raising.{handles}
use Rattle.eval_handlers.specs.Choosing.{IsChosen}
use Rattle.eval_handlers.proofs.handlers.choose.Given as goal

-- the handlers that are left do what all do
abbrev pub invariant-loop-number : goal.invariant-loop-number
invariant-loop-number l = IsChosen l.env l.texts l.raised l.handlers (handles l.env l.raised (drop l.number-index l.handlers))
