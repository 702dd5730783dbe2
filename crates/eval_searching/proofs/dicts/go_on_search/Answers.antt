use Rattle.std.proofs.Common.{◌≡◌, ◌==◌, Some, drop, suc, if◌then◌else◌}
use Rattle.rp_base.specs.declared.exceptions.Beyond.TheVariants as beyond
use Rattle.py_store.specs.Cells.{cell_of}
use Rattle.py_store.specs.declared.cell.Cell.TheVariants as cell
use Rattle.side_trees.specs.Trees.{Stop}
use Rattle.language_rules.specs.Searching.{values_from, values_of}
use Rattle.eval_searching.proofs.ValueLaws.{dict_read}
use Rattle.eval_searching.proofs.dicts.go_on_search.Goals as goal

pub returns-in-Some-Dict-clause-means : goal.returns-in-Some-Dict-clause-means
returns-in-Some-Dict-clause-means c =
    let seen = c.in-Some-Dict.ensures in
    let is = c.in-Some-Dict.field-0-is in
    let there : cell_of c.args.store.now.cells c.args.dict ≡ Some (cell.Dict c.in-Some-Dict.entries c.in-Some-Dict.now) = cc in
    dict_read c.args.store.now.cells c.args.dict c.in-Some-Dict.entries c.in-Some-Dict.now (λ entries now. if now == c.args.shape then values_from c.args.dict c.args.shape (suc c.args.position) c.args.wanted (drop (suc c.args.position) (values_of entries)) else Stop beyond.Changed) c.search_same.result c.search_same.new.stack.items c.args.stack.now.items there c.search_same.ensures.means
