use Rattle.std.proofs.Common.{IfOk, sym, subst}
use Rattle.object_operations.specs.declared.special.Special.{Special}
use Rattle.object_operations.specs.declared.special.Special.TheVariants as special
use Rattle.rp_base.specs.declared.value.Value.TheVariants as value
use Rattle.language_rules.specs.Draining.{not_iterable}
use Rattle.language_rules.specs.Operators.{unsupported}
use Rattle.language_rules.specs.Perform.{special_rule}
use Rattle.eval_ranges.proofs.CellSteps.{Over}
use Rattle.eval_ranges.proofs.SpecialLemmas.{Within}
use Rattle.eval_lists.proofs.ListLemmas.{changed_on, read_on}
use Rattle.eval_dicts.specs.Arguments.{alone, with_one}
use Rattle.eval_dicts.proofs.DictLemmas.{dict_told, no_add, no_floordiv, no_iadd, no_mod, no_mul, no_negative, no_next}
use Rattle.eval_dicts.proofs.dicts.special_of_dict.Goals as goal

pub returns-in-SetItem-clause-means : goal.returns-in-SetItem-clause-means
returns-in-SetItem-clause-means c =
    subst (λ (s : Special). IfOk c.answered.result (Over c.args.store.now.cells c.change_dict.new.store.cells (special_rule s (value.Own c.args.number) c.args.arguments.now))) (sym c.in-SetItem.is)
    (changed_on (special_rule special.SetItem (value.Own c.args.number) c.args.arguments.now) c.args.store.now c.change_dict.new.store c.change_dict.result c.answered.result c.change_dict.ensures.comes c.change_dict.ensures.kept c.answered.ensures.means)

pub returns-in-DelItem-clause-means : goal.returns-in-DelItem-clause-means
returns-in-DelItem-clause-means c =
    subst (λ (s : Special). IfOk c.answered-in-DelItem.result (Over c.args.store.now.cells c.change_dict-in-DelItem.new.store.cells (special_rule s (value.Own c.args.number) c.args.arguments.now))) (sym c.in-DelItem.is)
    (changed_on (special_rule special.DelItem (value.Own c.args.number) c.args.arguments.now) c.args.store.now c.change_dict-in-DelItem.new.store c.change_dict-in-DelItem.result c.answered-in-DelItem.result c.change_dict-in-DelItem.ensures.comes c.change_dict-in-DelItem.ensures.kept c.answered-in-DelItem.ensures.means)

pub returns-in-Len-clause-means : goal.returns-in-Len-clause-means
returns-in-Len-clause-means c =
    subst (λ (s : Special). IfOk c.answered-in-Len.result (Within c.args.store.now.cells (special_rule s (value.Own c.args.number) c.args.arguments.now))) (sym c.in-Len.is)
    (read_on c.args.store.now.cells (special_rule special.Len (value.Own c.args.number) c.args.arguments.now) c.read_dict.result c.answered-in-Len.result c.read_dict.ensures c.answered-in-Len.ensures.means)

pub returns-in-Bool-clause-means : goal.returns-in-Bool-clause-means
returns-in-Bool-clause-means c =
    subst (λ (s : Special). IfOk c.answered-in-Bool.result (Within c.args.store.now.cells (special_rule s (value.Own c.args.number) c.args.arguments.now))) (sym c.in-Bool.is)
    (read_on c.args.store.now.cells (special_rule special.Bool (value.Own c.args.number) c.args.arguments.now) c.read_dict-in-Bool.result c.answered-in-Bool.result c.read_dict-in-Bool.ensures c.answered-in-Bool.ensures.means)

pub returns-in-GetItem-clause-means : goal.returns-in-GetItem-clause-means
returns-in-GetItem-clause-means c =
    subst (λ (s : Special). IfOk c.answered-in-GetItem.result (Within c.args.store.now.cells (special_rule s (value.Own c.args.number) c.args.arguments.now))) (sym c.in-GetItem.is)
    (read_on c.args.store.now.cells (special_rule special.GetItem (value.Own c.args.number) c.args.arguments.now) c.read_dict-in-GetItem.result c.answered-in-GetItem.result c.read_dict-in-GetItem.ensures c.answered-in-GetItem.ensures.means)

pub returns-in-Contains-clause-means : goal.returns-in-Contains-clause-means
returns-in-Contains-clause-means c =
    subst (λ (s : Special). IfOk c.answered-in-Contains.result (Within c.args.store.now.cells (special_rule s (value.Own c.args.number) c.args.arguments.now))) (sym c.in-Contains.is)
    (read_on c.args.store.now.cells (special_rule special.Contains (value.Own c.args.number) c.args.arguments.now) c.read_dict-in-Contains.result c.answered-in-Contains.result c.read_dict-in-Contains.ensures c.answered-in-Contains.ensures.means)

pub returns-in-Next-clause-means : goal.returns-in-Next-clause-means
returns-in-Next-clause-means c =
    dict_told c.args.store.now.cells c.args.number c.args.arguments.now c.args.special special.Next (alone not_iterable c.args.arguments.now) c.refuse_alone.result c.requires c.in-Next.is (no_next c.args.number c.args.arguments.now) c.refuse_alone.ensures.means

pub returns-in-Neg-clause-means : goal.returns-in-Neg-clause-means
returns-in-Neg-clause-means c =
    dict_told c.args.store.now.cells c.args.number c.args.arguments.now c.args.special special.Neg (alone unsupported c.args.arguments.now) c.refuse_alone-in-Neg.result c.requires c.in-Neg.is (no_negative c.args.number c.args.arguments.now) c.refuse_alone-in-Neg.ensures.means

pub returns-in-Add-clause-means : goal.returns-in-Add-clause-means
returns-in-Add-clause-means c =
    dict_told c.args.store.now.cells c.args.number c.args.arguments.now c.args.special special.Add (with_one unsupported c.args.arguments.now) c.refuse_with_one.result c.requires c.in-Add.is (no_add c.args.number c.args.arguments.now) c.refuse_with_one.ensures.means

pub returns-in-Mul-clause-means : goal.returns-in-Mul-clause-means
returns-in-Mul-clause-means c =
    dict_told c.args.store.now.cells c.args.number c.args.arguments.now c.args.special special.Mul (with_one unsupported c.args.arguments.now) c.refuse_with_one-in-Mul.result c.requires c.in-Mul.is (no_mul c.args.number c.args.arguments.now) c.refuse_with_one-in-Mul.ensures.means

pub returns-in-FloorDiv-clause-means : goal.returns-in-FloorDiv-clause-means
returns-in-FloorDiv-clause-means c =
    dict_told c.args.store.now.cells c.args.number c.args.arguments.now c.args.special special.FloorDiv (with_one unsupported c.args.arguments.now) c.refuse_with_one-in-FloorDiv.result c.requires c.in-FloorDiv.is (no_floordiv c.args.number c.args.arguments.now) c.refuse_with_one-in-FloorDiv.ensures.means

pub returns-in-Mod-clause-means : goal.returns-in-Mod-clause-means
returns-in-Mod-clause-means c =
    dict_told c.args.store.now.cells c.args.number c.args.arguments.now c.args.special special.Mod (with_one unsupported c.args.arguments.now) c.refuse_with_one-in-Mod.result c.requires c.in-Mod.is (no_mod c.args.number c.args.arguments.now) c.refuse_with_one-in-Mod.ensures.means

pub returns-in-IAdd-clause-means : goal.returns-in-IAdd-clause-means
returns-in-IAdd-clause-means c =
    dict_told c.args.store.now.cells c.args.number c.args.arguments.now c.args.special special.IAdd (with_one unsupported c.args.arguments.now) c.refuse_with_one-in-IAdd.result c.requires c.in-IAdd.is (no_iadd c.args.number c.args.arguments.now) c.refuse_with_one-in-IAdd.ensures.means
