-- Calls of builtin functions, whose arguments are evaluated (Python Library Reference, "Built-in Functions").
use Rattle.std.specs.Prelude.{false, pos, List, [], ◌∷◌}
use Rattle.rp_base.specs.declared.exceptions.Beyond.TheVariants as beyond
use Rattle.rp_base.specs.declared.operators.CmpOp.TheVariants as cmp
use Rattle.rp_base.specs.declared.value.Value.{Value}
use Rattle.rp_base.specs.Values.{tuple_of}
use Rattle.py_ast.specs.declared.builtin.Builtin.{Builtin}
use Rattle.py_ast.specs.declared.builtin.Builtin.TheVariants as builtin
use Rattle.py_store.specs.declared.cell.Cell.TheVariants as cell
use Rattle.side_trees.specs.Trees.{Return, Stop}
use Rattle.language_rules.specs.Codes.{ATuple, Gives}
use Rattle.language_rules.specs.Going.{RuleTree, boolean, gives_new}
use Rattle.language_rules.specs.Answers.{tuple_answers}
use Rattle.language_rules.specs.PlainItems.{length_of}
use Rattle.language_rules.specs.Truth.{on_truth}
use Rattle.language_rules.specs.Draining.{drains, drains_into}
use Rattle.language_rules.specs.Printing.{on_repr, on_str, gives_text}
use Rattle.language_rules.specs.Output.{prints}
use Rattle.language_rules.specs.Conversions.{gives_int, int_of, absolute, ord_of, chr_of, only_ints, range_over}
use Rattle.language_rules.specs.Ordering.{gives_best, gives_sum, gives_sorted}

-- one clause for each builtin and number of arguments; no text is accepted that calls one with another number
unfoldable pub builtin_rule : Builtin → List Value → RuleTree
builtin_rule builtin.Print vs = prints vs
builtin_rule builtin.Len (v ∷ []) = length_of v
builtin_rule builtin.Str [] = gives_text []
builtin_rule builtin.Str (v ∷ []) = on_str v gives_text
builtin_rule builtin.Repr (v ∷ []) = on_repr v gives_text
builtin_rule builtin.Int [] = gives_int (pos 0)
builtin_rule builtin.Int (v ∷ []) = int_of v
builtin_rule builtin.Bool [] = Return (Gives (boolean false))
builtin_rule builtin.Bool (v ∷ []) = on_truth v (λ b. Return (Gives (boolean b)))
builtin_rule builtin.Abs (v ∷ []) = absolute v
builtin_rule builtin.Ord (v ∷ []) = ord_of v
builtin_rule builtin.Chr (v ∷ []) = chr_of v
builtin_rule builtin.Range vs = range_over (only_ints vs)
builtin_rule builtin.List [] = gives_new (cell.List [])
builtin_rule builtin.List (v ∷ []) = drains v (λ items. gives_new (cell.List items))
builtin_rule builtin.Tuple [] = tuple_answers (tuple_of [])
builtin_rule builtin.Tuple (v ∷ []) = drains_into ATuple v (λ items. tuple_answers (tuple_of items))
builtin_rule builtin.Dict [] = gives_new (cell.Dict [] 0)
builtin_rule builtin.Min (v ∷ []) = drains v (gives_best cmp.Lt)
builtin_rule builtin.Min (v ∷ w ∷ vs) = gives_best cmp.Lt (v ∷ w ∷ vs)
builtin_rule builtin.Max (v ∷ []) = drains v (gives_best cmp.Gt)
builtin_rule builtin.Max (v ∷ w ∷ vs) = gives_best cmp.Gt (v ∷ w ∷ vs)
builtin_rule builtin.Sum (v ∷ []) = drains v gives_sum
builtin_rule builtin.Sorted (v ∷ []) = drains v gives_sorted
builtin_rule _ _ = Stop beyond.Arguments
