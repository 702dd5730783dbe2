use Rattle.std.proofs.Common.{◌≡◌, drop, map}
use Rattle.std.specs.List.{list_all}
use Rattle.rp_base.specs.declared.value.Value.TheVariants as value
use Rattle.message_core.specs.Arguments.{is_keyword}
use Rattle.message_core.proofs.arguments.are_plain_keywords.Given as goal

abbrev pub invariant-loop-item : goal.invariant-loop-item
invariant-loop-item l = list_all is_keyword (map value.Plain l.items) ≡ list_all is_keyword (map value.Plain (drop l.item-index l.items))
