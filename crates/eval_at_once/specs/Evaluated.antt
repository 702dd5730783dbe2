-- What is evaluated at once, with its units.
use Rattle.std.specs.Prelude.{◌≡◌, ◌+◌, ◌≤◌, ℕ, not, List, Option, Some, None, Ok}
use Rattle.std.specs.Bool.{⊤}
use Rattle.rp_base.specs.declared.value.Value.{Value}
use Rattle.py_ast.specs.declared.expression.Expression.{Expression}
use Rattle.py_ast.specs.declared.node.Node.{Node}
use Rattle.py_ast.specs.declared.node.Node.TheVariants as node
use Rattle.py_ast.specs.declared.program.Program.{Program}
use Rattle.py_store.specs.declared.cell.Cell.{Cell}
use Rattle.side_trees.specs.Trees.{Return, bind}
use Rattle.language_rules.specs.Answers.{gives}
use Rattle.language_rules.specs.AtOnce.{at_once, stated}
use Rattle.language_rules.specs.Codes.{Completion, Gives}
use Rattle.language_rules.specs.Going.{RuleTree, boolean}
use Rattle.language_rules.specs.Running.{runs}
use Rattle.language_rules.specs.States.{State}
use Rattle.language_rules.specs.Truth.{on_truth}
use Rattle.eval_at_once.specs.declared.evaluating.Evaluated.{Evaluated}
use Rattle.eval_at_once.specs.declared.evaluating.Operands.{Operands}

-- In this state and within so many units the computation comes to this end, in that state and with so many units left: whatever goes on behind, no run tells the one from the other.
abbrev pub ComesTo : RuleTree → State → ℕ → Completion → State → ℕ → Type 0
ComesTo t s units a now left = (k : Completion → RuleTree) (printed : List ℕ) → runs units (bind t k) s printed ≡ runs left (k a) now printed

-- over these cells and texts the computation comes to this value, which takes a unit at least; without a value nothing is told
abbrev pub IsEvaluated : List Cell → List Program → RuleTree → ℕ → Option Evaluated → Type 0
IsEvaluated cells texts t units (Some e) = ((fixed : State) → ComesTo t (stated fixed cells texts) units (Gives e.value) (stated fixed cells texts) e.left) × (e.left + 1 ≤ units)
IsEvaluated cells texts t units None = ⊤

-- both computations come to their values, the second one with what the first leaves
abbrev pub AreEvaluated : List Cell → List Program → RuleTree → RuleTree → ℕ → Option Operands → Type 0
AreEvaluated cells texts t u units (Some o) = IsEvaluated cells texts t units (Some o.first) × IsEvaluated cells texts u o.first.left (Some o.second)
AreEvaluated cells texts t u units None = ⊤

-- the computation is nothing but this value
abbrev pub IsComputed : RuleTree → ℕ → Option Evaluated → Type 0
IsComputed t left (Some e) = (t ≡ Return (Gives e.value)) × (e.left ≡ left)
IsComputed t left None = ⊤

-- over these cells and texts the computation ends at once with this value
abbrev pub IsRead : List Cell → List Program → RuleTree → ℕ → Option Evaluated → Type 0
IsRead cells texts t left (Some e) = ((fixed : State) → at_once t (stated fixed cells texts) ≡ Some (Ok (Gives e.value), stated fixed cells texts)) × (e.left ≡ left)
IsRead cells texts t left None = ⊤

-- the opposite of a value's truth
abbrev pub inverted : Value → RuleTree
inverted v = on_truth v (λ holds. gives (boolean (not holds)))

-- the expression that a node is
abbrev pub expression_of : Option Node → Option Expression
expression_of (Some (node.Expression e)) = Some e
expression_of _ = None
