use Rattle.eval_searching.proofs.FoundLaws.{found_asked, pair_asked}
use Rattle.eval_searching.proofs.asking.ask_found.Goals as goal

pub returns-clause-means : goal.returns-clause-means
returns-clause-means c = found_asked c.args.wanted c.args.item.now c.in_ok-item.item c.args.frame c.ask_comparison.result c.ask_comparison.new.stack.items c.args.stack.now.items c.push.new.self.items c.push-2.new.self.items c.requires c.in_ok-item.ensures c.in_ok-push.ensures.items c.in_ok-push-2.ensures.items c.ask_comparison.ensures.means

pub returns-clause-pair : goal.returns-clause-pair
returns-clause-pair c = pair_asked c.args.wanted c.args.item.now c.in_ok-item.item c.args.frame c.ask_comparison.result c.ask_comparison.new.stack.items c.args.stack.now.items c.push.new.self.items c.push-2.new.self.items c.requires c.in_ok-item.ensures c.in_ok-push.ensures.items c.in_ok-push-2.ensures.items c.ask_comparison.ensures.means
