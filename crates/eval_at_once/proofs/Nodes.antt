-- Nodes that come to their value at once.
use Rattle.std.proofs.Common.{◌≡◌, arith, ℕ, suc, false, List, Option, Some, None, slice_get, refl, sym, ◌∙◌, ap}
use Rattle.rp_base.specs.declared.operators.BinaryOp.{BinaryOp}
use Rattle.rp_base.specs.declared.operators.BinaryOp.TheVariants as op
use Rattle.rp_base.specs.declared.value.Value.{Value}
use Rattle.rp_base.specs.declared.value.Value.TheVariants as value
use Rattle.py_ast.specs.declared.expression.Expression.{Expression}
use Rattle.py_ast.specs.declared.node.Node.{Node}
use Rattle.py_ast.specs.declared.node.Node.TheVariants as node
use Rattle.py_ast.specs.declared.program.Program.{Program}
use Rattle.py_store.specs.declared.cell.Cell.{Cell}
use Rattle.side_trees.specs.Trees.{Return, bind}
use Rattle.language_rules.proofs.RunLemmas.{goes_on}
use Rattle.language_rules.specs.Answers.{evaluated}
use Rattle.language_rules.specs.AtOnce.{stated}
use Rattle.language_rules.specs.Codes.{Env, Gives}
use Rattle.language_rules.specs.Expressions.{expression_rule}
use Rattle.language_rules.specs.Going.{RuleTree, evaluates, on_value}
use Rattle.language_rules.specs.Kinds.{is_reference}
use Rattle.language_rules.specs.Nodes.{rule_of}
use Rattle.language_rules.specs.Operators.{augmented_rule, binary_rule}
use Rattle.language_rules.specs.Rules.{expand}
use Rattle.language_rules.specs.Running.{prints_behind, runs}
use Rattle.language_rules.specs.States.{State}
use Rattle.language_rules.specs.Texts.{node_at, node_of}
use Rattle.eval_at_once.specs.declared.evaluating.Evaluated.{Evaluated}
use Rattle.eval_at_once.specs.declared.evaluating.Operands.{Operands}
use Rattle.eval_at_once.specs.Evaluated.{AreEvaluated, ComesTo, IsComputed, IsEvaluated, IsRead, expression_of}

-- ---- operands

-- one operand, and then what is made of it
abbrev pub one_operand : Env → ℕ → (Value → RuleTree) → RuleTree
one_operand env n t = evaluates env n t

abbrev pub two_operands : Env → ℕ → ℕ → (Value → Value → RuleTree) → RuleTree
two_operands env n m t = evaluates env n (λ a. evaluates env m (λ b. t a b))

one : (s : State) (env : Env) (n : ℕ) (t : Value → RuleTree) (u u1 : ℕ) (a w : Value) → ComesTo (evaluated env n) s u (Gives a) s u1 → t a ≡ Return (Gives w)
    → ComesTo (one_operand env n t) s u (Gives w) s u1
one s env n t u u1 a w h e k printed = h (λ x. bind (on_value t x) k) printed ∙ ap (λ (x : RuleTree). runs u1 (bind x k) s printed) e

two : (s : State) (env : Env) (n m : ℕ) (t : Value → Value → RuleTree) (u u1 u2 : ℕ) (a b w : Value) → ComesTo (evaluated env n) s u (Gives a) s u1 → ComesTo (evaluated env m) s u1 (Gives b) s u2
    → t a b ≡ Return (Gives w) → ComesTo (two_operands env n m t) s u (Gives w) s u2
two s env n m t u u1 u2 a b w h g e k printed =
    h (λ x. bind (on_value (λ c. evaluates env m (λ d. t c d)) x) k) printed ∙ one s env m (t a) u1 u2 b w g e k printed

-- ---- a node behind its unit

node_there : (env : Env) (o : Option Node) (e : Expression) → expression_of o ≡ Some e → rule_of env o ≡ expression_rule env e
node_there env (Some (node.Expression x)) e h = ap (λ (y : Option Expression). elim y [ Some z ↦ expression_rule env z | None ↦ expression_rule env x ]) h
node_there env (Some (node.Target x)) e h = cc
node_there env (Some (node.Statement x)) e h = cc
node_there env None e h = cc

behind_unit : (s : State) (env : Env) (number : ℕ) (e : Expression) (units left u : ℕ) (v : Value) → units ≡ suc left → expression_of (node_at s env number) ≡ Some e
    → ComesTo (expression_rule env e) s left (Gives v) s u → ComesTo (evaluated env number) s units (Gives v) s u
behind_unit s env number e units left u v p h c k printed =
    ap (λ (n : ℕ). runs n (bind (evaluated env number) k) s printed) p
    ∙ ap (λ (t : RuleTree). runs left (bind t k) s printed) (node_there env (node_at s env number) e h)
    ∙ c k printed

-- ---- nodes, with what was made of their operands

pub of_none : (cells : List Cell) (texts : List Program) (env : Env) (number : ℕ) (e : Expression) (units left : ℕ) (r : Option Evaluated) → units ≡ suc left
    → expression_of (node_of (slice_get texts env.text) number) ≡ Some e → IsComputed (expression_rule env e) left r → IsEvaluated cells texts (evaluated env number) units r
of_none cells texts env number e units left (Some w) p h c = (
  (λ fixed. behind_unit (stated fixed cells texts) env number e units left w.left w.value p h
      (λ k printed. ap (λ (t : RuleTree). runs left (bind t k) (stated fixed cells texts) printed) c.0 ∙ ap (λ (n : ℕ). runs n (k (Gives w.value)) (stated fixed cells texts) printed) (sym c.1))),
  omega (arith, p, c.1),
)
of_none cells texts env number e units left None p h c = tt

pub of_name : (cells : List Cell) (texts : List Program) (env : Env) (number : ℕ) (e : Expression) (units left : ℕ) (r : Option Evaluated) → units ≡ suc left
    → expression_of (node_of (slice_get texts env.text) number) ≡ Some e → IsRead cells texts (expression_rule env e) left r → IsEvaluated cells texts (evaluated env number) units r
of_name cells texts env number e units left (Some w) p h c = (
  (λ fixed. behind_unit (stated fixed cells texts) env number e units left w.left w.value p h
      (λ k printed. goes_on expand prints_behind left (expression_rule env e) k (stated fixed cells texts) (stated fixed cells texts) printed (Gives w.value) (c.0 fixed)
      ∙ ap (λ (n : ℕ). runs n (k (Gives w.value)) (stated fixed cells texts) printed) (sym c.1))),
  omega (arith, p, c.1),
)
of_name cells texts env number e units left None p h c = tt

-- behind its unit, an expression that has operands
pub of_parts : (cells : List Cell) (texts : List Program) (env : Env) (number : ℕ) (e : Expression) (units left : ℕ) (r : Option Evaluated) → units ≡ suc left
    → expression_of (node_of (slice_get texts env.text) number) ≡ Some e → IsEvaluated cells texts (expression_rule env e) left r → IsEvaluated cells texts (evaluated env number) units r
of_parts cells texts env number e units left (Some w) p h c = ((λ fixed. behind_unit (stated fixed cells texts) env number e units left w.left w.value p h (c.0 fixed)), omega (arith, p, c.1))
of_parts cells texts env number e units left None p h c = tt

-- ---- expressions, with what was made of their operands

pub of_one : (cells : List Cell) (texts : List Program) (env : Env) (e : Expression) (units n : ℕ) (t : Value → RuleTree) (a : Evaluated) (r : Option Evaluated) → expression_rule env e ≡ one_operand env n t
    → IsEvaluated cells texts (evaluated env n) units (Some a) → IsComputed (t a.value) a.left r → IsEvaluated cells texts (expression_rule env e) units r
of_one cells texts env e units n t a (Some w) is ha c = (
  (λ fixed k printed. ap (λ (x : RuleTree). runs units (bind x k) (stated fixed cells texts) printed) is
      ∙ one (stated fixed cells texts) env n t units a.left a.value w.value (ha.0 fixed) c.0 k printed
      ∙ ap (λ (m : ℕ). runs m (k (Gives w.value)) (stated fixed cells texts) printed) (sym c.1)),
  omega (arith, c.1, ha.1),
)
of_one cells texts env e units n t a None is ha c = tt

pub of_two : (cells : List Cell) (texts : List Program) (env : Env) (e : Expression) (units n m : ℕ) (t : Value → Value → RuleTree) (o : Operands) (r : Option Evaluated) → expression_rule env e ≡ two_operands env n m t
    → AreEvaluated cells texts (evaluated env n) (evaluated env m) units (Some o) → IsComputed (t o.first.value o.second.value) o.second.left r → IsEvaluated cells texts (expression_rule env e) units r
of_two cells texts env e units n m t o (Some w) is h c = (
  (λ fixed k printed. ap (λ (x : RuleTree). runs units (bind x k) (stated fixed cells texts) printed) is
      ∙ two (stated fixed cells texts) env n m t units o.first.left o.second.left o.first.value o.second.value w.value (h.0.0 fixed) (h.1.0 fixed) c.0 k printed
      ∙ ap (λ (i : ℕ). runs i (k (Gives w.value)) (stated fixed cells texts) printed) (sym c.1)),
  omega (arith, c.1, h.0.1, h.1.1),
)
of_two cells texts env e units n m t o None is h c = tt

-- ---- augmented assignment

same_operator : (o : BinaryOp) (a b : Value) → is_reference a ≡ false → augmented_rule o a b ≡ binary_rule o a b
same_operator op.Add (value.Plain p) b h = refl
same_operator op.Mul (value.Plain p) b h = refl
same_operator op.Or (value.Plain p) b h = refl
same_operator _ (value.Plain p) b h = refl
same_operator _ (value.Own n) b h = cc
same_operator _ (value.Proxy id) b h = cc
same_operator op.Add v b h = refl
same_operator op.Mul v b h = refl
same_operator op.Or v b h = refl
same_operator _ v b h = refl

pub augmented : (o : BinaryOp) (a b : Value) (left : ℕ) (r : Option Evaluated) → is_reference a ≡ false → IsComputed (binary_rule o a b) left r → IsComputed (augmented_rule o a b) left r
augmented o a b left (Some w) h c = (same_operator o a b h ∙ c.0, c.1)
augmented o a b left None h c = tt
