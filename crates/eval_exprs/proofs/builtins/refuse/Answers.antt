use Rattle.std.proofs.Common.{ap, reverse}
use Rattle.side_trees.specs.Trees.{bind}
use Rattle.language_rules.specs.Going.{RuleTree}
use Rattle.eval_frames.specs.Meaning.{rest}
use Rattle.eval_exprs.proofs.Objects.{object_refused}
use Rattle.eval_exprs.proofs.builtins.refuse.Goals as goal

pub returns-clause-means : goal.returns-clause-means
returns-clause-means c = λ stack. ap (λ (t : RuleTree). bind t (rest (reverse stack))) (object_refused c.args.function c.args.value c.requires.refused c.requires.object)
