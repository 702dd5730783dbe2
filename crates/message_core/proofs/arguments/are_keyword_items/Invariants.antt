use Rattle.std.proofs.Common.{◌≡◌, drop}
use Rattle.std.specs.List.{list_all}
use Rattle.message_core.specs.Arguments.{is_keyword}
use Rattle.message_core.proofs.arguments.are_keyword_items.Given as goal

abbrev pub invariant-loop-item : goal.invariant-loop-item
invariant-loop-item l = list_all is_keyword l.items ≡ list_all is_keyword (drop l.item-index l.items)
