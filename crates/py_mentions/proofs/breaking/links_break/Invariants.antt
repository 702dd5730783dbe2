use Rattle.std.proofs.Common.{◌≡◌, drop}
use Rattle.std.specs.Prelude.{flat_map}
use Rattle.py_mentions.specs.Worst.{worst_with}
use Rattle.py_mentions.specs.Rules.{link_breaks}
use Rattle.py_mentions.proofs.breaking.links_break.Given as goal

abbrev pub invariant-loop-link : goal.invariant-loop-link
invariant-loop-link l = worst_with l.worst (flat_map (link_breaks l.program) (drop l.link-index l.links)) ≡ worst_with l.initial.worst (flat_map (link_breaks l.program) l.links)
