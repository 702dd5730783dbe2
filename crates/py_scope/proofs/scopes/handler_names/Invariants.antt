use Rattle.std.proofs.Common.{◌≡◌, take}
use Rattle.py_scope.specs.Finished.{handler_names}
use Rattle.py_scope.proofs.scopes.handler_names.Given as goal

abbrev pub invariant-loop-mention : goal.invariant-loop-mention
invariant-loop-mention l = l.names ≡ handler_names (take l.mention-index l.mentions)
