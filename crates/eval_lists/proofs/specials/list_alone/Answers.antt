use Rattle.std.proofs.Common.{[], IfOk, Ok, refl, sym, subst}
use Rattle.object_operations.specs.declared.special.Special.{Special}
use Rattle.object_operations.specs.declared.special.Special.TheVariants as special
use Rattle.rp_base.specs.declared.value.Value.TheVariants as value
use Rattle.py_store.specs.declared.cell.Cell.TheVariants as cell
use Rattle.language_rules.specs.Iterating.{iter_rule}
use Rattle.language_rules.specs.Operators.{unsupported}
use Rattle.language_rules.specs.Perform.{special_rule}
use Rattle.eval_ranges.proofs.SpecialLemmas.{Within, all_within, within}
use Rattle.eval_lists.proofs.ListLemmas.{list_told, read_on}
use Rattle.eval_lists.proofs.specials.list_alone.Goals as goal

pub returns-in-Len-clause-means : goal.returns-in-Len-clause-means
returns-in-Len-clause-means c =
    subst (λ (s : Special). IfOk c.answered.result (Within c.args.store.now.cells (special_rule s (value.Own c.args.number) []))) (sym c.in-Len.is)
    (read_on c.args.store.now.cells (special_rule special.Len (value.Own c.args.number) []) c.read_list.result c.answered.result c.read_list.ensures c.answered.ensures.means)

pub returns-in-Bool-clause-means : goal.returns-in-Bool-clause-means
returns-in-Bool-clause-means c =
    subst (λ (s : Special). IfOk c.answered-in-Bool.result (Within c.args.store.now.cells (special_rule s (value.Own c.args.number) []))) (sym c.in-Bool.is)
    (read_on c.args.store.now.cells (special_rule special.Bool (value.Own c.args.number) []) c.read_list-in-Bool.result c.answered-in-Bool.result c.read_list-in-Bool.ensures c.answered-in-Bool.ensures.means)

pub returns-in-Iter-clause-means : goal.returns-in-Iter-clause-means
returns-in-Iter-clause-means c =
    let t = iter_rule c.args.number (cell.List []) in
    list_told c.args.store.now.cells c.args.number [] c.args.special special.Iter t (Ok c.iterator.result) c.requires c.in-Iter.is (λ items. refl) (within c.args.store.now.cells t c.iterator.result (c.iterator.ensures.means []))

pub returns-in-Neg-clause-means : goal.returns-in-Neg-clause-means
returns-in-Neg-clause-means c =
    list_told c.args.store.now.cells c.args.number [] c.args.special special.Neg unsupported c.refuse-in-Neg.result c.requires c.in-Neg.is (λ items. refl) (all_within c.args.store.now.cells unsupported c.refuse-in-Neg.result c.refuse-in-Neg.ensures.means)
