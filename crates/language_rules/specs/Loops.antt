-- The turns of loops (Python Language Reference, "The while statement", "The for statement", "The break statement", "The continue statement").
use Rattle.std.specs.Prelude.{ℕ, if◌then◌else◌}
use Rattle.rp_base.specs.declared.value.Value.{Value}
use Rattle.side_trees.specs.Trees.{Return, bind}
use Rattle.language_rules.specs.Codes.{Env, Completion, Gives, Raises, Breaks, Continues}
use Rattle.language_rules.specs.Going.{RuleTree, done, on_value}
use Rattle.language_rules.specs.Texts.{executes_suite}
use Rattle.language_rules.specs.Truth.{on_truth}
use Rattle.language_rules.specs.Targets.{assigns}
use Rattle.language_rules.specs.Exceptions.{is_stop}
use Rattle.language_rules.specs.Nodes.{node_rule}
use Rattle.language_rules.specs.Beginnings.{while_begins, asks_next}

-- After the suite of a loop the next turn begins, also after `continue`. A `break` ends the loop, and all else leaves it.
abbrev pub next_turn : RuleTree → Completion → RuleTree
next_turn next (Gives v) = next
next_turn next Continues = next
next_turn next Breaks = Return done
next_turn next a = Return a

-- a turn of a `while`, behind the unit of the test's node
abbrev pub while_rule : Env → ℕ → ℕ → RuleTree
while_rule env test body = bind (node_rule env test) (on_value (λ v. on_truth v (λ b.
    if b then bind (executes_suite env body) (next_turn (while_begins env test body)) else Return done)))

-- A turn of a `for` with the answer to the question for the next item: StopIteration is the end. What the target raises leaves the loop.
abbrev pub for_rule : Env → ℕ → ℕ → Value → Completion → RuleTree
for_rule env place body iterator (Gives v) =
    bind (assigns env place v) (on_value (λ a. bind (executes_suite env body) (next_turn (asks_next env place body iterator))))
for_rule env place body iterator (Raises r) = if is_stop r.kind then Return done else Return (Raises r)
for_rule env place body iterator a = Return a
