use Rattle.std.proofs.Common.{drop}
use Rattle.eval_comparing.proofs.Moving.{pushed}
use Rattle.eval_frames.specs.declared.frame.Frame.TheVariants as frame
use Rattle.eval_frames.specs.declared.list_frames.SearchFrame.TheVariants as search_frame
use Rattle.eval_searching.specs.Searched.{item_asked}
use Rattle.eval_searching.proofs.searching.ask_first.Goals as goal

pub returns-clause-means : goal.returns-clause-means
returns-clause-means c = pushed c.ask_item.result c.ask_item.new.stack.items c.args.stack.now.items c.push.new.self.items (frame.Search search_frame.Found) (item_asked c.args.list c.args.at c.args.wanted (drop c.args.at c.args.items.now)) c.in_ok-push.ensures.items c.ask_item.ensures.means
