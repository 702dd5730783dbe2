use Rattle.std.proofs.Common.{◌≡◌, take, ◌++◌, map}
use Rattle.py_mentions.specs.Parts.{plain_parts, right_of}
use Rattle.py_mentions.proofs.parts.put_rights.Given as goal

abbrev pub invariant-loop-link : goal.invariant-loop-link
invariant-loop-link l = l.found.items ≡ l.initial.found.items ++ plain_parts (map right_of (take l.link-index l.links))
