-- Expressions that may leave operands out (Python Language Reference, "Boolean operations", "Comparisons", "Conditional expressions").
use Rattle.std.specs.Prelude.{ℕ, Bool, true, false, not, List, [], ◌∷◌, if◌then◌else◌}
use Rattle.rp_base.specs.declared.plain.Plain.TheVariants as plain
use Rattle.rp_base.specs.declared.value.Value.{Value}
use Rattle.rp_base.specs.declared.value.Value.TheVariants as value
use Rattle.py_ast.specs.declared.expression.Comparison.{Comparison}
use Rattle.py_ast.specs.declared.expression.Comparison.TheVariants as comparison
use Rattle.py_ast.specs.declared.expression.Link.{Link}
use Rattle.side_trees.specs.Trees.{bind}
use Rattle.language_rules.specs.Answers.{evaluated, gives}
use Rattle.language_rules.specs.Codes.{Env}
use Rattle.language_rules.specs.Comparing.{compare_step}
use Rattle.language_rules.specs.Going.{RuleTree, boolean, nowhere, carry, evaluates, on_value}
use Rattle.language_rules.specs.PlainItems.{contains_in}
use Rattle.language_rules.specs.Truth.{on_truth}

-- ---- `or` and `and`: the value of the first operand that decides, else of the last, whose truth is not asked

-- from an operand on, with those behind it
abbrev pub or_from : Env → ℕ → List ℕ → RuleTree
or_from env n [] = evaluated env n
or_from env n (m ∷ ns) = evaluates env n (λ v. on_truth v (λ holds. if holds then gives v else or_from env m ns))

abbrev pub or_rule : Env → List ℕ → RuleTree
or_rule env [] = nowhere
or_rule env (n ∷ ns) = or_from env n ns

abbrev pub and_from : Env → ℕ → List ℕ → RuleTree
and_from env n [] = evaluated env n
and_from env n (m ∷ ns) = evaluates env n (λ v. on_truth v (λ holds. if holds then and_from env m ns else gives v))

abbrev pub and_rule : Env → List ℕ → RuleTree
and_rule env [] = nowhere
and_rule env (n ∷ ns) = and_from env n ns

-- `not`: the opposite of the operand's truth
abbrev pub not_rule : Env → ℕ → RuleTree
not_rule env n = evaluates env n (λ v. on_truth v (λ holds. gives (boolean (not holds))))

-- `first if test else last`: the test, and then one of the two
abbrev pub conditional_rule : Env → ℕ → ℕ → ℕ → RuleTree
conditional_rule env first test last = evaluates env test (λ v. on_truth v (λ holds. if holds then evaluated env first else evaluated env last))

-- ---- comparisons

abbrev pub is_none_value : Value → Bool
is_none_value (value.Plain plain.None) = true
is_none_value _ = false

-- the opposite of a bool
abbrev pub opposite : Value → RuleTree
opposite (value.Plain (plain.Bool b)) = gives (boolean (not b))
opposite _ = nowhere

-- One link of a chain. `in` is asked of the container, which stands on the right; `is` has None on the right.
unfoldable pub link_rule : Comparison → Value → Value → RuleTree
link_rule (comparison.Order o) a b = carry (compare_step o a b)
link_rule comparison.In a b = contains_in b a
link_rule comparison.NotIn a b = bind (contains_in b a) (on_value opposite)
link_rule comparison.Is a b = gives (boolean (is_none_value a))
link_rule comparison.IsNot a b = gives (boolean (not (is_none_value a)))

-- A link whose operands are there, with those behind it, so that an operand in the middle is evaluated once. The chain stops at the first link that is false, whose value it gives; the truth of the last is not asked.
abbrev pub links_from : Env → List Link → Comparison → Value → Value → RuleTree
links_from env [] c a b = link_rule c a b
links_from env (l ∷ ls) c a b = bind (link_rule c a b) (on_value (λ v. on_truth v (λ holds. if holds then evaluates env l.right (λ d. links_from env ls l.comparison b d) else gives v)))

-- the links behind an operand whose value is there
abbrev pub links_rule : Env → Value → List Link → RuleTree
links_rule env a [] = nowhere
links_rule env a (l ∷ ls) = evaluates env l.right (λ b. links_from env ls l.comparison a b)

abbrev pub chain_rule : Env → ℕ → List Link → RuleTree
chain_rule env first links = evaluates env first (λ a. links_rule env a links)
