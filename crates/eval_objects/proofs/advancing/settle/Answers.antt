use Rattle.std.proofs.Common.{[], sym, subst}
use Rattle.rp_base.specs.declared.exceptions.ExcKind.TheVariants as exception
use Rattle.language_rules.specs.Answers.{gives}
use Rattle.language_rules.specs.Going.{raises, reads_cell}
use Rattle.eval_objects.specs.Iterators.{comes_up, ended, stepped}
use Rattle.eval_objects.specs.declared.upcoming.Upcoming.{Upcoming}
use Rattle.eval_ranges.proofs.CellSteps.{Over}
use Rattle.eval_objects.proofs.IteratorLemmas.{set_there}
use Rattle.eval_objects.proofs.advancing.settle.Goals as goal

pub returns-in-Item-clause-means : goal.returns-in-Item-clause-means
returns-in-Item-clause-means c =
    subst (λ (u : Upcoming). Over c.args.store.now.cells c.step.new.store.cells (reads_cell c.args.number (comes_up c.args.number u)) c.give.result) (sym c.in-Item.is)
    (set_there c.args.store.now.cells c.step.new.store.cells c.args.number stepped (gives c.in-Item.value) c.give.result c.requires c.step.ensures c.give.ensures.means)

pub returns-in-End-clause-means : goal.returns-in-End-clause-means
returns-in-End-clause-means c =
    subst (λ (u : Upcoming). Over c.args.store.now.cells c.end.new.store.cells (reads_cell c.args.number (comes_up c.args.number u)) c.stop_iteration.result) (sym c.in-End.is)
    (set_there c.args.store.now.cells c.end.new.store.cells c.args.number ended (raises exception.StopIteration []) c.stop_iteration.result c.requires c.end.ensures c.stop_iteration.ensures.means)
