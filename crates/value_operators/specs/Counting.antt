-- Copies of a tuple, and the limits of what is made.
use Rattle.std.specs.Prelude.{ℕ, ℤ, List, Option, Some, None, if◌then◌else◌}
use Rattle.std.specs.List.{repeat}
use Rattle.rp_base.specs.declared.ends.OpEnd.{OpEnd}
use Rattle.rp_base.specs.declared.ends.OpEnd.TheVariants as op_end
use Rattle.rp_base.specs.declared.ends.TupleEnd.{TupleEnd}
use Rattle.rp_base.specs.declared.ends.TupleEnd.TheVariants as tuple_end
use Rattle.rp_base.specs.declared.exceptions.Beyond.TheVariants as beyond
use Rattle.rp_base.specs.declared.value.Value.{Value}
use Rattle.rp_base.specs.Values.{tuple_of}
use Rattle.py_plain.specs.Arithmetic.{is_count, count_of}
use Rattle.side_trees.specs.Trees.{Stop}
use Rattle.language_rules.specs.Answers.{tuple_answers}
use Rattle.language_rules.specs.Going.{RuleTree}

-- how many copies an int of 64 bits asks for
abbrev pub count_in : ℤ → Option ℕ
count_in n = if is_count n then Some (count_of n) else None

-- that many copies of the tuple of these items
abbrev pub copies_rule : List Value → ℤ → RuleTree
copies_rule xs n = if is_count n then tuple_answers (tuple_of (repeat (count_of n) xs)) else Stop beyond.Int

-- why a tuple is not made
abbrev pub limit_given : TupleEnd → OpEnd
limit_given (tuple_end.Beyond b) = op_end.Beyond b
limit_given tuple_end.NoMemory = op_end.NoMemory
