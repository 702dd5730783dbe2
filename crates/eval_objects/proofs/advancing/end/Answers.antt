use Rattle.std.proofs.Common.{None, Some, ◌∙◌, ap, refl}
use Rattle.py_store.specs.declared.cell.Cell.{Cell}
use Rattle.py_store.specs.declared.cell.Cell.TheVariants as cell
use Rattle.eval_objects.specs.Iterators.{ended}
use Rattle.eval_objects.proofs.IteratorLemmas.{replaced}
use Rattle.eval_objects.proofs.advancing.end.Goals as goal

pub returns : goal.returns
returns c = λ d k fixed texts.
    replaced ended c.args.number c.args.store.now c.replace.new.self c.replace-in-Iter.new.self (cell.Iter c.in-Iter.source c.in-Iter.at c.in-Iter.shape) cell.Root (cell.Iter None c.in-Iter.at c.in-Iter.shape) d
    (c.replace.ensures.old ∙ ap (λ (x : Cell). Some x) c.in-Iter.is) c.replace.ensures.new c.replace-in-Iter.ensures.new
    refl k fixed texts
