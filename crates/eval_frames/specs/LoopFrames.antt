-- What waits within a `for`, or while a collection is gone over, and what it makes of an end.
use Rattle.std.specs.Prelude.{◌+◌, ◌++◌, [], List, chars, length, if◌then◌else◌}
use Rattle.rp_base.specs.Values.{tuple_of}
use Rattle.rp_base.specs.declared.operators.CmpOp.TheVariants as cmp
use Rattle.rp_base.specs.declared.value.Value.{Value}
use Rattle.rp_base.specs.declared.value.Value.TheVariants as value
use Rattle.object_operations.specs.declared.operation.Operation.TheVariants as operation
use Rattle.object_operations.specs.declared.special.Special.TheVariants as special
use Rattle.py_ast.specs.declared.builtin.Builtin.TheVariants as builtin
use Rattle.py_store.specs.declared.cell.Cell.TheVariants as cell
use Rattle.side_trees.specs.Trees.{Return, bind}
use Rattle.language_rules.specs.Answers.{gives, tuple_answers}
use Rattle.language_rules.specs.Beginnings as beginning
use Rattle.language_rules.specs.Codes.{Completion, Container, AList, ATuple}
use Rattle.language_rules.specs.Draining as drain
use Rattle.language_rules.specs.Entries.{within_items}
use Rattle.language_rules.specs.Going.{RuleTree, asks, done, gives_new, nowhere, on_items, on_value, sets_cell}
use Rattle.language_rules.specs.Loops.{for_rule, next_turn}
use Rattle.language_rules.specs.Ordering.{gives_best, gives_sorted, gives_sum}
use Rattle.language_rules.specs.Searching.{reads_list}
use Rattle.language_rules.specs.Targets.{assigns_each}
use Rattle.language_rules.specs.TextMethods.{all_characters, join_rule}
use Rattle.language_rules.specs.Texts.{executes_suite}
use Rattle.eval_frames.specs.declared.loop_frames.Collection.{Collection}
use Rattle.eval_frames.specs.declared.loop_frames.Collection.TheVariants as collection
use Rattle.eval_frames.specs.declared.loop_frames.DrainFrame.{DrainFrame}
use Rattle.eval_frames.specs.declared.loop_frames.DrainFrame.TheVariants as drain_frame
use Rattle.eval_frames.specs.declared.loop_frames.Draining.{Draining}
use Rattle.eval_frames.specs.declared.loop_frames.Draining.TheVariants as draining
use Rattle.eval_frames.specs.declared.loop_frames.ForFrame.{ForFrame}
use Rattle.eval_frames.specs.declared.loop_frames.ForFrame.TheVariants as for_frame

-- ---- `for`

abbrev pub through_for : ForFrame → Completion → RuleTree
through_for (for_frame.Source env target body) a = on_value (λ v. asks (operation.Special v special.Iter []) (beginning.asks_next env target body)) a
through_for (for_frame.Iterator env target body) a = on_value (beginning.asks_next env target body) a
through_for (for_frame.Item env target body iterator) a = for_rule env target body iterator a
through_for (for_frame.Target env target body iterator) a = on_value (λ v. bind (executes_suite env body) (next_turn (beginning.asks_next env target body iterator))) a
through_for (for_frame.Body env target body iterator) a = next_turn (beginning.asks_next env target body iterator) a

-- ---- going over a whole collection

abbrev pub container : Collection → Container
container collection.List = AList
container collection.Tuple = ATuple

-- what is made of all items
abbrev pub drained : Draining → List Value → RuleTree
drained (draining.Builtin builtin.List) vs = gives_new (cell.List vs)
drained (draining.Builtin builtin.Tuple) vs = tuple_answers (tuple_of vs)
drained (draining.Builtin builtin.Min) vs = gives_best cmp.Lt vs
drained (draining.Builtin builtin.Max) vs = gives_best cmp.Gt vs
drained (draining.Builtin builtin.Sum) vs = gives_sum vs
drained (draining.Builtin builtin.Sorted) vs = gives_sorted vs
drained (draining.Builtin _) vs = nowhere
drained (draining.Unpack env targets) vs = drain.counted (length targets) (assigns_each env targets) vs
drained (draining.Extend list is_answer) vs = reads_list list (λ items. within_items (length items + length vs) (sets_cell list (cell.List (items ++ vs)) (if is_answer then gives (value.Own list) else Return done)))
drained (draining.Join text) vs = join_rule (chars text) (all_characters vs)

abbrev pub through_drain : DrainFrame → Completion → RuleTree
through_drain (drain_frame.Iterator c d) a = on_value (λ iterator. bind (drain.asks_next (container c) iterator []) (on_items (drained d))) a
through_drain (drain_frame.Item c iterator items) a = drain.drain_rule (container c) iterator items a
through_drain (drain_frame.Drained d) a = on_items (drained d) a
