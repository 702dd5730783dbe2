-- What `print` writes (Python Library Reference, "Built-in Functions").
use Rattle.std.specs.Prelude.{ℕ, ◌+◌, true, false, nat_lt, List, [], ◌∷◌, length, codes}
use Rattle.rp_base.specs.declared.exceptions.Beyond.TheVariants as beyond
use Rattle.rp_base.specs.declared.value.Value.{Value}
use Rattle.side_trees.specs.Trees.{Return, Stop, Tell}
use Rattle.language_rules.specs.States.{State}
use Rattle.language_rules.specs.Going.{RuleTree, done, looks, changes}
use Rattle.language_rules.specs.Printing.{on_str}

-- the most bytes that a side may print
abbrev pub most_printed : ℕ
most_printed = 16777216

abbrev pub counts_printed : ℕ → State → State
counts_printed n s = record s { printed = s.printed + n }

-- a piece is written as a whole, or not at all where it would pass the limit
abbrev pub writes : List ℕ → RuleTree → RuleTree
writes piece t = looks (λ s. elim (nat_lt most_printed (s.printed + length piece)) [ true ↦ Stop beyond.Output | false ↦ changes (counts_printed (length piece)) (Tell piece t) ])

abbrev pub writes_line_end : RuleTree
writes_line_end = writes (10 ∷ []) (Return done)

-- the arguments behind the first: a space is written, then the str is asked and written as soon as it is made
abbrev pub prints_further : List Value → RuleTree
prints_further [] = writes_line_end
prints_further (v ∷ vs) = writes (codes " ") (on_str v (λ t. writes t (prints_further vs)))

abbrev pub prints : List Value → RuleTree
prints [] = writes_line_end
prints (v ∷ vs) = on_str v (λ t. writes t (prints_further vs))
