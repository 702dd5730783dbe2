use Rattle.std.proofs.Common.{◌≡◌, drop}
use Rattle.py_mentions.specs.Rules.{first_exception}
use Rattle.py_mentions.proofs.names.first_exception.Given as goal

abbrev pub invariant-loop-kind : goal.invariant-loop-kind
invariant-loop-kind l = first_exception l.kinds l.name ≡ first_exception (drop l.kind-index l.kinds) l.name
