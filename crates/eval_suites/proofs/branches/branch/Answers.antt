use Rattle.std.proofs.Common.{reverse}
use Rattle.language_rules.specs.Statements.{if_rule}
use Rattle.eval_frames.specs.Meaning.{rest}
use Rattle.eval_suites.specs.Within.{chosen}
use Rattle.eval_suites.proofs.Moves.{behind_test}
use Rattle.eval_suites.proofs.branches.branch.Goals as goal

pub returns-in-Some-clause-means : goal.returns-in-Some-clause-means
returns-in-Some-clause-means c =
    behind_test c.args.texts.now c.args.store.now c.take_branch.new.store (if_rule c.args.env c.args.test c.args.then c.args.otherwise) (chosen c.args.env c.args.then c.args.otherwise) c.args.stack.now.items c.take_branch.new.stack.items c.args.fuel.now c.take_branch.new.fuel c.in-Some.tested c.take_branch.result
    c.in-Some.ensures.1 c.take_branch.ensures.spent (λ fixed more printed. c.in-Some.ensures.0 fixed (chosen c.args.env c.args.then c.args.otherwise) (rest (reverse c.args.stack.now.items)) more printed) c.take_branch.ensures.means
