use Rattle.std.proofs.Common.{◌≡◌, ◌+◌, ◌-◌, ◌^◌, ℕ, suc, min, Some, sym, ◌∙◌, ap, arith}
use Rattle.py_store.specs.declared.cell.Cell.{Cell}
use Rattle.py_store.specs.declared.cell.Cell.TheVariants as cell
use Rattle.eval_objects.specs.Iterators.{stepped}
use Rattle.eval_objects.proofs.IteratorLemmas.{replaced}
use Rattle.eval_objects.proofs.advancing.step.Goals as goal

pub returns : goal.returns
returns c = λ d k fixed texts.
    let one : suc c.in-Iter.at ≡ c.in-Iter.at + 1 = omega arith in
    replaced stepped c.args.number c.args.store.now c.replace.new.self c.replace-in-Iter.new.self (cell.Iter c.in-Iter.source c.in-Iter.at c.in-Iter.shape) cell.Root (cell.Iter c.in-Iter.source c.saturating_add.result c.in-Iter.shape) d
    (c.replace.ensures.old ∙ ap (λ (x : Cell). Some x) c.in-Iter.is) c.replace.ensures.new c.replace-in-Iter.ensures.new
    (ap (λ (n : ℕ). cell.Iter c.in-Iter.source n c.in-Iter.shape) (ap (λ (n : ℕ). min n (2 ^ 64 - 1)) one ∙ sym c.saturating_add.ensures)) k fixed texts
