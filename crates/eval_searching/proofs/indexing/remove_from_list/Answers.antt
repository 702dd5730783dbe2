use Rattle.std.proofs.Common.{List, Ok, drop, remove}
use Rattle.rp_base.specs.declared.value.Value.{Value}
use Rattle.side_trees.specs.Trees.{bind}
use Rattle.language_rules.specs.ListMethods.{becomes, not_in_list}
use Rattle.language_rules.specs.Searching.{reads_list}
use Rattle.eval_frames.specs.declared.list_frames.SearchFrame.TheVariants as search_frame
use Rattle.eval_frames.specs.ListFrames.{through_search}
use Rattle.eval_searching.specs.Searched.{item_asked}
use Rattle.eval_searching.specs.declared.lists.Searched.TheVariants as searched
use Rattle.eval_searching.proofs.PlaceLaws.{any_list, any_stack, any_state, whole_searched}
use Rattle.eval_searching.proofs.indexing.remove_from_list.Goals as goal

pub returns-in-Nowhere-clause-means : goal.returns-in-Nowhere-clause-means
returns-in-Nowhere-clause-means c =
    whole_searched c.args.store.now.cells c.args.store.now.cells c.args.list c.args.wanted c.in_ok-searched.searched searched.Nowhere (through_search (search_frame.Remove c.args.list)) c.refuse_place.result c.args.stack.now.items c.args.stack.now.items c.requires c.in-Nowhere.is c.in_ok-searched.ensures
    (any_list not_in_list c.args.store.now.cells c.args.list c.refuse_place.result c.args.stack.now.items c.refuse_place.ensures.means)

pub returns-in-Found-clause-means : goal.returns-in-Found-clause-means
returns-in-Found-clause-means c =
    whole_searched c.args.store.now.cells c.remove_at.new.store.cells c.args.list c.args.wanted c.in_ok-searched.searched (searched.Found c.in-Found.at) (through_search (search_frame.Remove c.args.list)) (Ok c.remove_at.result) c.args.stack.now.items c.args.stack.now.items c.requires c.in-Found.is c.in_ok-searched.ensures
    (any_stack (reads_list c.args.list (λ items. becomes c.args.list (remove items c.in-Found.at))) c.args.store.now.cells c.remove_at.new.store.cells c.args.list c.remove_at.result c.args.stack.now.items c.remove_at.ensures.means)

pub returns-in-Asked-clause-means : goal.returns-in-Asked-clause-means
returns-in-Asked-clause-means c =
    whole_searched c.args.store.now.cells c.args.store.now.cells c.args.list c.args.wanted c.in_ok-searched.searched (searched.Asked c.in-Asked.at) (through_search (search_frame.Remove c.args.list)) c.ask_over.result c.ask_over.new.stack.items c.args.stack.now.items c.requires c.in-Asked.is c.in_ok-searched.ensures
    (any_state (λ (items : List Value). bind (item_asked c.args.list c.in-Asked.at c.args.wanted (drop c.in-Asked.at items)) (through_search (search_frame.Remove c.args.list))) c.args.store.now.cells c.args.list c.ask_over.result c.ask_over.new.stack.items c.args.stack.now.items c.ask_over.ensures.means)
