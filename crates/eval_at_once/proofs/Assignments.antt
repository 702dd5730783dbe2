-- Assignments to names that are carried out at once.
use Rattle.std.proofs.Common.{◌≡◌, arith, ℕ, suc, List, Option, Some, None, Ok, slice_get, sym, ◌∙◌, ap}
use Rattle.rp_base.specs.declared.operators.BinaryOp.{BinaryOp}
use Rattle.rp_base.specs.declared.value.Value.{Value}
use Rattle.py_ast.specs.declared.node.Node.{Node}
use Rattle.py_ast.specs.declared.node.Node.TheVariants as node
use Rattle.py_ast.specs.declared.program.Program.{Program}
use Rattle.py_ast.specs.declared.statement.Statement.{Statement}
use Rattle.py_ast.specs.declared.statement.Statement.TheVariants as statement
use Rattle.py_ast.specs.declared.target.Target.{Target}
use Rattle.py_ast.specs.declared.target.Target.TheVariants as target
use Rattle.py_store.specs.Cells.{Cells}
use Rattle.side_trees.specs.Trees.{Return, bind}
use Rattle.language_rules.proofs.RunLemmas.{goes_on}
use Rattle.language_rules.specs.Answers.{evaluated, gives}
use Rattle.language_rules.specs.AtOnce.{at_once, stated}
use Rattle.language_rules.specs.Codes.{Completion, Env, Gives}
use Rattle.language_rules.specs.Going.{RuleTree, done, on_value}
use Rattle.language_rules.specs.Names.{binds_name, reads_name}
use Rattle.language_rules.specs.Nodes.{rule_of}
use Rattle.language_rules.specs.Operators.{augmented_rule}
use Rattle.language_rules.specs.Rules.{expand}
use Rattle.language_rules.specs.Running.{prints_behind, runs}
use Rattle.language_rules.specs.States.{State}
use Rattle.language_rules.specs.Statements.{statement_rule}
use Rattle.language_rules.specs.Targets.{assigns, assigns_target, augments, augments_target}
use Rattle.language_rules.specs.Texts.{as_target, node_at, node_of}
use Rattle.eval_targets.proofs.NameValues.{name_given}
use Rattle.eval_at_once.specs.declared.evaluating.Evaluated.{Evaluated}
use Rattle.eval_at_once.specs.Evaluated.{ComesTo, IsComputed, IsEvaluated, IsRead}
use Rattle.eval_at_once.specs.Executed.{IsBound, IsExecuted, name_of, statement_of}

-- ---- a statement behind its unit, and a target that is a name

statement_there : (env : Env) (o : Option Node) (s : Statement) → statement_of o ≡ Some s → rule_of env o ≡ statement_rule env s
statement_there env (Some (node.Statement x)) s h = ap (λ (y : Option Statement). elim y [ Some z ↦ statement_rule env z | None ↦ statement_rule env x ]) h
statement_there env (Some (node.Target x)) s h = cc
statement_there env (Some (node.Expression x)) s h = cc
statement_there env None s h = cc

name_there : (f : Target → RuleTree) (o : Option Node) (name : List ℕ) → name_of o ≡ Some name → as_target f o ≡ f (target.Name name)
name_there f (Some (node.Target (target.Name x))) name h = ap (λ (y : Option (List ℕ)). elim y [ Some z ↦ f (target.Name z) | None ↦ f (target.Name x) ]) h
name_there f (Some (node.Target (target.Attribute receiver x))) name h = cc
name_there f (Some (node.Target (target.Item receiver key))) name h = cc
name_there f (Some (node.Target (target.Tuple targets))) name h = cc
name_there f (Some (node.Statement x)) name h = cc
name_there f (Some (node.Expression x)) name h = cc
name_there f None name h = cc

-- the value of a name's expression, and then its binding
bound : (before after : State) (env : Env) (name : List ℕ) (right u left : ℕ) (f : Value → RuleTree) (v w : Value) → ComesTo (evaluated env right) before u (Gives v) before left
    → ((k : Completion → RuleTree) (printed : List ℕ) → runs left (bind (f v) k) before printed ≡ runs left (bind (binds_name env name w (Return done)) k) before printed)
    → at_once (binds_name env name w (Return done)) before ≡ Some (Ok done, after) → (k : Completion → RuleTree) (printed : List ℕ)
    → runs u (bind (evaluated env right) (λ x. bind (on_value f x) k)) before printed ≡ runs left (k done) after printed
bound before after env name right u left f v w h g e k printed =
    h (λ x. bind (on_value f x) k) printed ∙ g k printed ∙ goes_on expand prints_behind left (binds_name env name w (Return done)) k before after printed done e

-- ---- assignments

pub assigned : (before after : Cells) (texts : List Program) (env : Env) (number : ℕ) (s : Statement) (units left place right : ℕ) (name : List ℕ) (v : Evaluated) (r : Option ℕ) → units ≡ suc left
    → statement_of (node_of (slice_get texts env.text) number) ≡ Some s → s ≡ statement.Assign place right → name_of (node_of (slice_get texts env.text) place) ≡ Some name
    → IsEvaluated before.cells texts (evaluated env right) left (Some v) → IsBound before after texts (binds_name env name v.value (Return done)) v.left r
    → IsExecuted before after texts (evaluated env number) units r
assigned before after texts env number s units left place right name v (Some u) p there is named h b = (
  (λ fixed k printed.
      let st = stated fixed before.cells texts in
      ap (λ (n : ℕ). runs n (bind (evaluated env number) k) st printed) p
      ∙ ap (λ (t : RuleTree). runs left (bind t k) st printed) (statement_there env (node_at st env number) s there)
      ∙ ap (λ (x : Statement). runs left (bind (statement_rule env x) k) st printed) is
      ∙ bound st (stated fixed after.cells texts) env name right left v.left (assigns env place) v.value v.value (h.0 fixed)
      (λ j out. ap (λ (t : RuleTree). runs v.left (bind t j) st out) (name_there (assigns_target env v.value) (node_at st env place) name named)) (b.0 fixed) k printed
      ∙ ap (λ (n : ℕ). runs n (k done) (stated fixed after.cells texts) printed) (sym b.1)),
  omega (arith, p, h.1, b.1),
)
assigned before after texts env number s units left place right name v None p there is named h b = b

pub augmented_at : (before after : Cells) (texts : List Program) (env : Env) (number : ℕ) (s : Statement) (units left place right : ℕ) (o : BinaryOp) (name : List ℕ) (old v w : Evaluated) (r : Option ℕ) → units ≡ suc left
    → statement_of (node_of (slice_get texts env.text) number) ≡ Some s → s ≡ statement.Augmented place o right → name_of (node_of (slice_get texts env.text) place) ≡ Some name
    → IsRead before.cells texts (reads_name env name gives) left (Some old) → IsEvaluated before.cells texts (evaluated env right) left (Some v)
    → IsComputed (augmented_rule o old.value v.value) v.left (Some w) → IsBound before after texts (binds_name env name w.value (Return done)) w.left r
    → IsExecuted before after texts (evaluated env number) units r
augmented_at before after texts env number s units left place right o name old v w (Some u) p there is named read h made b = (
  (λ fixed k printed.
      let st = stated fixed before.cells texts in
      let last : Value → RuleTree = λ x. binds_name env name x (Return done) in
      ap (λ (n : ℕ). runs n (bind (evaluated env number) k) st printed) p
      ∙ ap (λ (t : RuleTree). runs left (bind t k) st printed) (statement_there env (node_at st env number) s there)
      ∙ ap (λ (x : Statement). runs left (bind (statement_rule env x) k) st printed) is
      ∙ ap (λ (t : RuleTree). runs left (bind t k) st printed) (name_there (augments_target env o right) (node_at st env place) name named)
      ∙ name_given st env name (λ x. augments env o right x last) k old.value (read.0 fixed) left printed
      ∙ bound st (stated fixed after.cells texts) env name right left v.left (λ x. bind (augmented_rule o old.value x) (on_value last)) v.value w.value (h.0 fixed)
      (λ j out. ap (λ (t : RuleTree). runs v.left (bind (bind t (on_value last)) j) st out) made.0) (b.0 fixed) k printed
      ∙ ap (λ (n : ℕ). runs n (k done) (stated fixed after.cells texts) printed) (sym (b.1 ∙ made.1))),
  omega (arith, p, h.1, b.1, made.1),
)
augmented_at before after texts env number s units left place right o name old v w None p there is named read h made b = b
