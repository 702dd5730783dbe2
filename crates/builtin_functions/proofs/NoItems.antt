-- What has no items at hand is gone over by its kind.
use Rattle.std.proofs.Common.{◌≡◌, List, Option, Some, None, Result, sym, ap, subst}
use Rattle.rp_base.specs.declared.ends.OpEnd.{OpEnd}
use Rattle.rp_base.specs.declared.value.Value.{Value}
use Rattle.language_rules.specs.AtOnce.{ComputesUnlessAsked}
use Rattle.language_rules.specs.Codes.{Container}
use Rattle.language_rules.specs.Draining.{drains_into, drains_kind, goes_over, items_at_hand}
use Rattle.language_rules.specs.Going.{RuleTree}
use Rattle.language_rules.specs.Kinds.{on_kind}

by_kind : (c : Container) (v : Value) (f : List Value → RuleTree) → items_at_hand v ≡ None → drains_into c v f ≡ on_kind v (drains_kind (goes_over c v f))
by_kind c v f h = ap (λ (o : Option (List Value)). elim o [ Some items ↦ f items | None ↦ on_kind v (drains_kind (goes_over c v f)) ]) h

pub no_items : (c : Container) (v : Value) (f : List Value → RuleTree) (r : Result (Option Value) OpEnd) → items_at_hand v ≡ None
    → ((over : RuleTree) → ComputesUnlessAsked (on_kind v (drains_kind over)) r) → ComputesUnlessAsked (drains_into c v f) r
no_items c v f r h g = subst (λ (t : RuleTree). ComputesUnlessAsked t r) (sym (by_kind c v f h)) (g (goes_over c v f))
