use Rattle.std.proofs.Common.{◌≡◌, take, ◌++◌, map}
use Rattle.py_mentions.specs.Parts.{part}
use Rattle.py_mentions.proofs.parts.put_all.Given as goal

abbrev pub invariant-loop-number : goal.invariant-loop-number
invariant-loop-number l = l.found.items ≡ l.initial.found.items ++ map (part l.role) (take l.number-index l.numbers)
