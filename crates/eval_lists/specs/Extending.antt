-- A list that grows by the items of another value.
use Rattle.std.specs.Prelude.{ℕ, ◌+◌, ◌++◌, List, length}
use Rattle.rp_base.specs.declared.value.Value.{Value}
use Rattle.rp_base.specs.declared.value.Value.TheVariants as value
use Rattle.py_store.specs.declared.cell.Cell.TheVariants as cell
use Rattle.side_trees.specs.Trees.{Stop}
use Rattle.language_rules.specs.Answers.{gives}
use Rattle.language_rules.specs.Draining.{not_iterable}
use Rattle.language_rules.specs.Entries.{within_items}
use Rattle.language_rules.specs.Going.{RuleTree, sets_cell}
use Rattle.language_rules.specs.Searching.{reads_list}
use Rattle.eval_lists.specs.declared.draining.Way.{Way}
use Rattle.eval_lists.specs.declared.draining.Way.TheVariants as way

-- the list with more items behind its own, which is the answer
abbrev pub extended_list : ℕ → List Value → List Value → RuleTree
extended_list list more items = within_items (length items + length more) (sets_cell list (cell.List (items ++ more)) (gives (value.Own list)))

abbrev pub extended : ℕ → List Value → RuleTree
extended list more = reads_list list (extended_list list more)

abbrev pub way_taken : Way → RuleTree → RuleTree
way_taken way.Over over = over
way_taken (way.Out b) over = Stop b
way_taken way.Not over = not_iterable
