use Rattle.eval_searching.proofs.FoundLaws.{tuple_pair_asked, tuples_asked}
use Rattle.eval_searching.proofs.asking.ask_within_tuples.Goals as goal

pub returns-clause-means : goal.returns-clause-means
returns-clause-means c = tuples_asked c.args.question c.args.frame c.ask_truth_of.result c.ask_truth_of.new.stack.items c.args.stack.now.items c.push.new.self.items c.requires c.in_ok-push.ensures.items c.ask_truth_of.ensures.means

pub returns-clause-pair : goal.returns-clause-pair
returns-clause-pair c = tuple_pair_asked c.args.question c.args.frame c.ask_truth_of.result c.ask_truth_of.new.stack.items c.args.stack.now.items c.push.new.self.items c.requires c.in_ok-push.ensures.items c.ask_truth_of.ensures.means
