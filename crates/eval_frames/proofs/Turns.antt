-- The turns of a `while`.
use Rattle.std.proofs.Common.{ℕ, zero, suc, refl, ap}
use Rattle.side_trees.proofs.BindLaw.{bind-bind}
use Rattle.side_trees.specs.Trees.{bind}
use Rattle.language_rules.specs.Beginnings.{while_begins}
use Rattle.language_rules.specs.Codes.{Completion, Env}
use Rattle.language_rules.specs.Going.{RuleTree}
use Rattle.language_rules.specs.Nodes.{node_rule}
use Rattle.language_rules.specs.Running.{runs}
use Rattle.language_rules.specs.States.{State}
use Rattle.eval_frames.specs.declared.frame.Decision.TheVariants as decision
use Rattle.eval_frames.specs.declared.frame.Frame.TheVariants as frame
use Rattle.eval_frames.specs.Meaning.{RunsAs, resume, tests}

pub turns : (s : State) (env : Env) (test body : ℕ) (k : Completion → RuleTree) → RunsAs s (bind (while_begins env test body) k) (tests env test body k)
turns s env test body k zero printed = refl
turns s env test body k (suc u) printed =
    ap (λ (t : RuleTree). runs u t s printed) (bind-bind (node_rule env test) (resume (frame.Test (decision.While env test body))) k)
