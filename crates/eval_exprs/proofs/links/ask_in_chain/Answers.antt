use Rattle.std.proofs.Common.{◌∷◌, reverse}
use Rattle.language_rules.specs.Chains.{link_rule, links_from}
use Rattle.eval_exprs.proofs.Moving.{anywhere_as}
use Rattle.eval_exprs.proofs.Operands.{last_linked, next_linked}
use Rattle.eval_exprs.proofs.links.ask_in_chain.Goals as goal

pub returns-in-Some-clause-means : goal.returns-in-Some-clause-means
returns-in-Some-clause-means c = anywhere_as c.ask_before.result c.ask_before.new.stack.items c.args.stack.now.items (links_from c.args.env (c.in-Some.next ∷ reverse c.pop.new.self) c.args.comparison c.args.left c.args.right) (links_from c.args.env (reverse c.args.waiting) c.args.comparison c.args.left c.args.right) (next_linked c.args.env c.args.comparison c.args.left c.args.right c.args.waiting c.pop.new.self c.in-Some.next (rw c.in-Some.is at c.pop.ensures)) c.ask_before.ensures.means

pub returns-in-None-clause-means : goal.returns-in-None-clause-means
returns-in-None-clause-means c = let empty = rw c.in-None.is at c.pop.ensures in anywhere_as c.ask_link.result c.ask_link.new.stack.items c.args.stack.now.items (link_rule c.args.comparison c.args.left c.args.right) (links_from c.args.env (reverse c.args.waiting) c.args.comparison c.args.left c.args.right) (last_linked c.args.env c.args.comparison c.args.left c.args.right c.args.waiting empty.0) c.ask_link.ensures.means
