use Rattle.std.proofs.Common.{◌≡◌, drop}
use Rattle.std.specs.Prelude.{flat_map}
use Rattle.py_mentions.specs.Worst.{worst_with}
use Rattle.py_mentions.specs.Rules.{kind_breaks}
use Rattle.py_mentions.proofs.breaking.kinds_break.Given as goal

abbrev pub invariant-loop-name : goal.invariant-loop-name
invariant-loop-name l = worst_with l.worst (flat_map kind_breaks (drop l.name-index l.names)) ≡ worst_with l.initial.worst (flat_map kind_breaks l.names)
