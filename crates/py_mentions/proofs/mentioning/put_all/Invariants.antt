use Rattle.std.proofs.Common.{◌≡◌, take, ◌++◌, map}
use Rattle.py_mentions.specs.Mentions.{mention_of}
use Rattle.py_mentions.proofs.mentioning.put_all.Given as goal

abbrev pub invariant-loop-name : goal.invariant-loop-name
invariant-loop-name l = l.mentions ≡ l.initial.mentions ++ map (mention_of l.function l.form) (take l.name-index l.names)
