-- Answers of operations on plain values, and tuples that are made, as computations.
use Rattle.std.specs.Prelude.{ℕ, Result, Ok, Err}
use Rattle.rp_base.specs.declared.ends.TupleEnd.{TupleEnd}
use Rattle.rp_base.specs.declared.ends.TupleEnd.TheVariants as tuple_end
use Rattle.rp_base.specs.declared.plain.Plain.{Plain}
use Rattle.rp_base.specs.declared.value.Value.{Value}
use Rattle.rp_base.specs.declared.value.Value.TheVariants as value
use Rattle.py_plain.specs.declared.ends.PlainEnd.{PlainEnd}
use Rattle.py_plain.specs.declared.ends.PlainEnd.TheVariants as plain_end
use Rattle.object_operations.specs.declared.operation.Operation.{Operation}
use Rattle.side_trees.specs.Trees.{Return, Stop, Spend}
use Rattle.language_rules.specs.Codes.{Env, Gives, Raises, Node, Give}
use Rattle.language_rules.specs.Going.{RuleTree, nowhere, operates}

-- On with what an operation on plain values gives: its exception is raised, and its end beyond the subset is one. A definition has memory.
abbrev pub on_answer : {A : Type 0} → (A → RuleTree) → Result A PlainEnd → RuleTree
on_answer f (Ok x) = f x
on_answer f (Err (plain_end.Raise r)) = Return (Raises r)
on_answer f (Err (plain_end.Beyond b)) = Stop b
on_answer f (Err plain_end.NoMemory) = nowhere

-- the answer itself
abbrev pub answers : Result Plain PlainEnd → RuleTree
answers = on_answer (λ p. Return (Gives (value.Plain p)))

-- on with a tuple that is made, where it is within the limits
abbrev pub on_tuple : (Value → RuleTree) → Result Value TupleEnd → RuleTree
on_tuple f (Ok v) = f v
on_tuple f (Err (tuple_end.Beyond b)) = Stop b
on_tuple f (Err tuple_end.NoMemory) = nowhere

-- the tuple itself
abbrev pub tuple_answers : Result Value TupleEnd → RuleTree
tuple_answers = on_tuple (λ v. Return (Gives v))

-- what a value gives that is there
abbrev pub gives : Value → RuleTree
gives v = Return (Gives v)

-- an expression, and its end
abbrev pub evaluated : Env → ℕ → RuleTree
evaluated env n = Spend (Node env n) (λ a. Return a)

-- an operation, and its end
abbrev pub asked : Operation → RuleTree
asked o = operates o (λ a. Give a) (λ a. Return a)
