-- What a link of a chain comes to whose operands are not asked at once.
use Rattle.std.specs.Prelude.{◌≡◌, ◌==◌, ◌||◌, ℕ, List, [], ◌∷◌, Bool, true, false, Option, Some, None, codes, length}
use Rattle.rp_base.specs.declared.exceptions.Beyond.TheVariants as beyond
use Rattle.rp_base.specs.declared.exceptions.ExcKind.TheVariants as exception
use Rattle.rp_base.specs.declared.plain.Plain.TheVariants as plain
use Rattle.rp_base.specs.declared.value.Value.{Value}
use Rattle.py_ast.specs.declared.expression.Comparison.{Comparison}
use Rattle.py_ast.specs.declared.expression.Comparison.TheVariants as comparison
use Rattle.side_trees.specs.Trees.{bind}
use Rattle.language_rules.specs.AtOnce.{Computes}
use Rattle.language_rules.specs.Chains.{opposite}
use Rattle.language_rules.specs.Codes.{Completion, Leaves, Step}
use Rattle.language_rules.specs.Going.{RuleTree, carry, on_value, raised_step}
use Rattle.language_rules.specs.Kinds.{is_reference}
use Rattle.language_rules.specs.States.{State}
use Rattle.eval_frames.specs.Meaning.{RunsAs}
use Rattle.eval_comparing.specs.Answers.{question_step, refers}
use Rattle.eval_comparing.specs.declared.answer.Compared.{Compared}
use Rattle.eval_comparing.specs.declared.answer.Compared.TheVariants as compared

-- no run tells the one from the other, whatever follows
abbrev pub RunsLike : RuleTree → RuleTree → Type 0
RunsLike t u = (s : State) (k : Completion → RuleTree) → RunsAs s (bind t k) (bind u k)

-- at once; by a comparison that asks an object; or by the opposite of what that tells
abbrev pub Compares : RuleTree → Compared → Type 0
Compares t (compared.Ended answer) = Computes t answer
Compares t (compared.Asked q) = (t ≡ carry (question_step q)) × refers q.left q.right
Compares t (compared.Opposite q) = RunsLike t (bind (carry (question_step q)) (on_value opposite)) × refers q.left q.right

-- an order of values, of which one is a tuple that holds an object: two tuples have none here, and others have none
abbrev pub orders : Option (List Value) → Option (List Value) → Step
orders (Some xs) (Some ys) = elim (length xs == length ys) [ true ↦ Leaves beyond.Order | false ↦ Leaves beyond.Compare ]
orders _ _ = raised_step exception.TypeError (plain.Text (codes "no order") ∷ [])

-- or the opposite of it
abbrev pub turned_by : Bool → RuleTree → RuleTree
turned_by b t = elim b [ true ↦ bind t (on_value opposite) | false ↦ t ]

-- whether a link of a chain asks an object: a comparison one of its operands, and a membership test the container on the right
abbrev pub asks_link : Comparison → Value → Value → Bool
asks_link (comparison.Order o) a b = is_reference a || is_reference b
asks_link comparison.In a b = is_reference b
asks_link comparison.NotIn a b = is_reference b
asks_link _ a b = false
