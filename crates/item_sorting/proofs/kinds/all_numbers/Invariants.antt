use Rattle.std.proofs.Common.{◌≡◌, drop}
use Rattle.std.specs.List.{list_all}
use Rattle.language_rules.specs.Ordering.{is_number}
use Rattle.item_sorting.proofs.kinds.all_numbers.Given as goal

-- all are where all that are left are
abbrev pub invariant-loop-plain : goal.invariant-loop-plain
invariant-loop-plain l = list_all is_number l.plains ≡ list_all is_number (drop l.plain-index l.plains)
