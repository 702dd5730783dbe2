-- What `sorted` makes of items.
use Rattle.std.specs.Prelude.{◌≡◌, List, Result, Ok, Err}
use Rattle.std.specs.Bool.{⊤}
use Rattle.rp_base.specs.declared.ends.OpEnd.{OpEnd}
use Rattle.rp_base.specs.declared.ends.OpEnd.TheVariants as op_end
use Rattle.rp_base.specs.declared.value.Value.{Value}
use Rattle.py_store.specs.declared.cell.Cell.TheVariants as cell
use Rattle.side_trees.specs.Trees.{Stop}
use Rattle.language_rules.specs.Going.{RuleTree, gives_new}
use Rattle.language_rules.specs.Ordering.{gives_sorted}

-- The tree is nothing but a new list of these items, or this way out of the subset; no exception comes. Want of memory tells nothing.
abbrev pub Makes : RuleTree → Result (List Value) OpEnd → Type 0
Makes t (Ok vs) = t ≡ gives_new (cell.List vs)
Makes t (Err (op_end.Beyond b)) = t ≡ Stop b
Makes t (Err (op_end.Raise r)) = ⊥
Makes t (Err op_end.NoMemory) = ⊤

-- what `sorted` gives
abbrev pub Sorts : List Value → Result (List Value) OpEnd → Type 0
Sorts items r = Makes (gives_sorted items) r
