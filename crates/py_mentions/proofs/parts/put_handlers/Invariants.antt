use Rattle.std.proofs.Common.{◌≡◌, drop, ◌++◌}
use Rattle.py_mentions.specs.Parts.{handler_parts}
use Rattle.py_mentions.proofs.parts.put_handlers.Given as goal

abbrev pub invariant-loop-i : goal.invariant-loop-i
invariant-loop-i l = l.found.items ++ handler_parts (drop l.i l.handlers) ≡ l.initial.found.items ++ handler_parts l.handlers
