use Rattle.std.proofs.Common.{[], codes, refl}
use Rattle.eval_instances.proofs.CallLemmas.{on_instances}
use Rattle.object_operations.specs.declared.special.Special.TheVariants as special
use Rattle.language_rules.specs.Attributes.{calls_method}
use Rattle.py_store.specs.declared.cell.Cell.TheVariants as cell
use Rattle.language_rules.specs.Answers.{gives}
use Rattle.language_rules.specs.Draining.{not_iterable}
use Rattle.language_rules.specs.Iterating.{iter_rule}
use Rattle.language_rules.specs.Lengths.{on_length, truth_rule}
use Rattle.language_rules.specs.Operators.{unsupported}
use Rattle.language_rules.specs.PlainItems.{no_length, number}
use Rattle.eval_instances.proofs.specials.instance_alone.Goals as goal

pub returns-in-Len-clause-means : goal.returns-in-Len-clause-means
returns-in-Len-clause-means c =
    on_instances c.args.store.now.cells c.call_or_refuse.new.stack.items c.args.stack.now.items c.args.number ([]) c.args.special special.Len c.call_or_refuse.result (calls_method c.args.number (codes "__len__") ([]) (on_length (λ m. gives (number m))) no_length) c.in-Len.is (λ class_no attributes. refl)
    (c.call_or_refuse.ensures.means)

pub returns-in-Bool-clause-means : goal.returns-in-Bool-clause-means
returns-in-Bool-clause-means c =
    on_instances c.args.store.now.cells c.truth_of.new.stack.items c.args.stack.now.items c.args.number ([]) c.args.special special.Bool c.truth_of.result (truth_rule c.args.number (cell.Instance 0 [])) c.in-Bool.is (λ class_no attributes. refl)
    (c.truth_of.ensures.means)

pub returns-in-Iter-clause-means : goal.returns-in-Iter-clause-means
returns-in-Iter-clause-means c =
    on_instances c.args.store.now.cells c.iterator_of.new.stack.items c.args.stack.now.items c.args.number ([]) c.args.special special.Iter c.iterator_of.result (iter_rule c.args.number (cell.Instance 0 [])) c.in-Iter.is (λ class_no attributes. refl)
    (c.iterator_of.ensures.means)

pub returns-in-Next-clause-means : goal.returns-in-Next-clause-means
returns-in-Next-clause-means c =
    on_instances c.args.store.now.cells c.call_or_refuse-in-Next.new.stack.items c.args.stack.now.items c.args.number ([]) c.args.special special.Next c.call_or_refuse-in-Next.result (calls_method c.args.number (codes "__next__") ([]) (gives) not_iterable) c.in-Next.is (λ class_no attributes. refl)
    (c.call_or_refuse-in-Next.ensures.means)

pub returns-in-Neg-clause-means : goal.returns-in-Neg-clause-means
returns-in-Neg-clause-means c =
    on_instances c.args.store.now.cells c.call_or_refuse-in-Neg.new.stack.items c.args.stack.now.items c.args.number ([]) c.args.special special.Neg c.call_or_refuse-in-Neg.result (calls_method c.args.number (codes "__neg__") ([]) (gives) unsupported) c.in-Neg.is (λ class_no attributes. refl)
    (c.call_or_refuse-in-Neg.ensures.means)
