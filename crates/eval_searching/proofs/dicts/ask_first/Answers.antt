use Rattle.std.proofs.Common.{drop}
use Rattle.eval_comparing.proofs.Moving.{pushed}
use Rattle.eval_frames.specs.declared.frame.Frame.TheVariants as frame
use Rattle.eval_frames.specs.declared.list_frames.SearchFrame.TheVariants as search_frame
use Rattle.language_rules.specs.Searching.{values_of}
use Rattle.eval_searching.specs.Values.{value_asked}
use Rattle.eval_searching.proofs.dicts.ask_first.Goals as goal

pub returns-clause-means : goal.returns-clause-means
returns-clause-means c = pushed c.ask_value.result c.ask_value.new.stack.items c.args.stack.now.items c.push.new.self.items (frame.Search search_frame.Found) (value_asked c.args.dict c.args.shape c.args.at c.args.wanted (drop c.args.at (values_of c.args.entries.now))) c.in_ok-push.ensures.items c.ask_value.ensures.means
