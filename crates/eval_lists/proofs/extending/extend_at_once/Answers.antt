use Rattle.std.proofs.Common.{◌≡◌, ◌+◌, List, Some, length, nat_lt, not, ap, ◌∙◌, ℕ}
use Rattle.rp_base.specs.declared.value.Value.{Value}
use Rattle.py_store.specs.Cells.{cell_of}
use Rattle.py_store.specs.declared.cell.Cell.TheVariants as cell
use Rattle.language_rules.specs.Draining.{most_items}
use Rattle.eval_lists.proofs.ListLemmas.{grown}
use Rattle.eval_lists.proofs.extending.extend_at_once.Goals as goal

pub returns-in_ok-put_behind-clause-means : goal.returns-in_ok-put_behind-clause-means
returns-in_ok-put_behind-clause-means c =
    let room : (items : List Value) → cell_of c.args.store.now.cells c.args.list ≡ Some (cell.List items) → c.fits.result ≡ not (nat_lt most_items (length items + length c.args.more)) =
    λ items is. c.fits.ensures items is ∙ ap (λ (n : ℕ). not (nat_lt most_items (length items + n))) c.len.ensures in
    grown c.args.store.now.cells c.put_behind.new.store.cells c.args.list c.args.more c.give.result c.fits.result c.requires room c.if-fits.true c.in_ok-put_behind.ensures c.give.ensures.means
