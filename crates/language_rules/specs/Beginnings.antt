-- How loops begin (Python Language Reference, "The while statement", "The for statement"). Each goes on turn by turn as code of its own.
use Rattle.std.specs.Prelude.{ℕ, []}
use Rattle.rp_base.specs.declared.value.Value.{Value}
use Rattle.object_operations.specs.declared.operation.Operation.TheVariants as operation
use Rattle.object_operations.specs.declared.special.Special.TheVariants as special
use Rattle.side_trees.specs.Trees.{Return, Spend}
use Rattle.language_rules.specs.Codes.{Env, WhileTest, ForNext}
use Rattle.language_rules.specs.Going.{RuleTree, evaluates, asks, operates}

-- a turn begins with the test, whose unit is spent here
abbrev pub while_begins : Env → ℕ → ℕ → RuleTree
while_begins env test body = Spend (WhileTest env test body) Return

-- a turn begins with a question for the next item
abbrev pub asks_next : Env → ℕ → ℕ → Value → RuleTree
asks_next env place body iterator = operates (operation.Special iterator special.Next []) (ForNext env place body iterator) Return

-- the iterator is asked for once, of a value that is no reference too
abbrev pub for_begins : Env → ℕ → ℕ → ℕ → RuleTree
for_begins env place source body = evaluates env source (λ v. asks (operation.Special v special.Iter []) (asks_next env place body))
