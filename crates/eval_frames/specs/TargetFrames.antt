-- What waits within an assignment, an augmented assignment or a `del`, and what it makes of an end.
use Rattle.std.specs.Prelude.{[], ◌∷◌, reverse}
use Rattle.rp_base.specs.declared.value.Value.{Value}
use Rattle.object_operations.specs.declared.operation.Operation.TheVariants as operation
use Rattle.object_operations.specs.declared.special.Special.TheVariants as special
use Rattle.side_trees.specs.Trees.{Return, bind}
use Rattle.language_rules.specs.Going.{RuleTree, asks, done, evaluates, on_value}
use Rattle.language_rules.specs.Operators.{augmented_rule}
use Rattle.language_rules.specs.PlainItems.{item_of}
use Rattle.language_rules.specs.Targets.{assigns_each, augments, stores_attribute, stores_item}
use Rattle.eval_frames.specs.declared.target_frame.Destination.{Destination}
use Rattle.eval_frames.specs.declared.target_frame.Destination.TheVariants as destination
use Rattle.eval_frames.specs.declared.target_frame.TargetFrame.{TargetFrame}
use Rattle.eval_frames.specs.declared.target_frame.TargetFrame.TheVariants as target_frame

-- a value goes to an attribute or an item
abbrev pub stores : Destination → Value → RuleTree
stores (destination.Attribute receiver name) v = stores_attribute receiver name v
stores (destination.Item receiver key) v = stores_item receiver key v

-- what waits for a value, with that value
abbrev pub through_target : TargetFrame → Value → RuleTree
through_target (target_frame.AttributeReceiver name v) r = stores_attribute r name v
through_target (target_frame.ItemReceiver env key v) r = evaluates env key (λ k. stores_item r k v)
through_target (target_frame.ItemKey r v) k = stores_item r k v
through_target target_frame.Done a = Return done
through_target (target_frame.Each env targets values) a = assigns_each env (reverse targets) (reverse values)
through_target (target_frame.AugmentedReceiver env op right name) r = asks (operation.GetAttr r name) (λ old. augments env op right old (stores_attribute r name))
through_target (target_frame.AugmentedItemReceiver env op right key) r = evaluates env key (λ k. bind (item_of r k) (on_value (λ old. augments env op right old (stores_item r k))))
through_target (target_frame.AugmentedKey env op right r) k = bind (item_of r k) (on_value (λ old. augments env op right old (stores_item r k)))
through_target (target_frame.AugmentedOld env op right d) old = augments env op right old (stores d)
through_target (target_frame.AugmentedRight op old d) v = bind (augmented_rule op old v) (on_value (stores d))
through_target (target_frame.Store d) w = stores d w
through_target (target_frame.DeletedReceiver name) r = asks (operation.DelAttr r name) (λ a. Return done)
through_target (target_frame.DeletedItemReceiver env key) r = evaluates env key (λ k. asks (operation.Special r special.DelItem (k ∷ [])) (λ a. Return done))
through_target (target_frame.DeletedKey r) k = asks (operation.Special r special.DelItem (k ∷ [])) (λ a. Return done)
