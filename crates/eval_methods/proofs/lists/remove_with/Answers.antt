use Rattle.std.proofs.Common.{List, IfOk, sym, subst}
use Rattle.rp_base.specs.declared.value.Value.{Value}
use Rattle.object_operations.specs.declared.method.BuiltinMethod.TheVariants as method
use Rattle.py_dicts.proofs.ArgumentLemmas.{one_left}
use Rattle.eval_methods.proofs.MethodLemmas.{OverStack, searched_by}
use Rattle.language_rules.specs.ListMethods.{list_method}
use Rattle.eval_frames.specs.declared.list_frames.SearchFrame.TheVariants as search_frame
use Rattle.eval_frames.specs.ListFrames.{through_search}
use Rattle.eval_methods.proofs.lists.remove_with.Goals as goal

pub returns-in_ok-copy-in-len1-clause-means : goal.returns-in_ok-copy-in-len1-clause-means
returns-in_ok-copy-in-len1-clause-means c =
    let cells = c.args.store.now.cells in
    let after = c.remove_from_list.new.store.cells in
    subst (λ (vs : List Value). IfOk c.remove_from_list.result (λ n. (items : List Value) → OverStack cells after (list_method c.args.number items method.Remove vs) c.remove_from_list.new.stack.items c.args.stack.now.items n))
    (sym (one_left c.args.arguments.now c.wanted-item.result c.in-len1.len_at_least c.in-len1.len_below c.wanted-item.is))
    (searched_by cells after c.args.number c.in_ok-copy-in-len1.field-0 c.wanted-item.result (through_search (search_frame.Remove c.args.number)) c.remove_from_list.result c.remove_from_list.new.stack.items c.args.stack.now.items c.in_ok-copy-in-len1.ensures c.remove_from_list.ensures.means)
