use Rattle.std.proofs.Common.{IfOk, sym, subst}
use Rattle.object_operations.specs.declared.special.Special.{Special}
use Rattle.object_operations.specs.declared.special.Special.TheVariants as special
use Rattle.rp_base.specs.declared.value.Value.TheVariants as value
use Rattle.language_rules.specs.Perform.{special_rule}
use Rattle.eval_ranges.proofs.CellSteps.{Over}
use Rattle.eval_lists.proofs.ListLemmas.{changed_on}
use Rattle.eval_lists.proofs.specials.list_with_two.Goals as goal

pub returns-in-SetItem-clause-means : goal.returns-in-SetItem-clause-means
returns-in-SetItem-clause-means c =
    subst (λ (s : Special). IfOk c.answered.result (Over c.args.store.now.cells c.change_list.new.store.cells (special_rule s (value.Own c.args.number) c.args.arguments.now))) (sym c.in-SetItem.is)
    (changed_on (special_rule special.SetItem (value.Own c.args.number) c.args.arguments.now) c.args.store.now c.change_list.new.store c.change_list.result c.answered.result c.change_list.ensures.comes c.change_list.ensures.kept c.answered.ensures.means)
