use Rattle.std.proofs.Common.{◌≡◌, [], drop, take}
use Rattle.py_mentions.specs.Worst.{worst_with}
use Rattle.py_mentions.specs.Rules.{repeat_breaks}
use Rattle.py_mentions.proofs.breaking.repeats_break.Given as goal

abbrev pub invariant-loop-i : goal.invariant-loop-i
invariant-loop-i l = worst_with l.worst (repeat_breaks (take l.i l.names) (drop l.i l.names)) ≡ worst_with l.initial.worst (repeat_breaks [] l.names)
