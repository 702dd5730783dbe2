use Rattle.std.proofs.Common.{sym}
use Rattle.language_rules.specs.Codes.{AList}
use Rattle.language_rules.specs.Draining.{drains_kind, goes_over}
use Rattle.eval_lists.specs.Extending.{extended, way_taken}
use Rattle.eval_lists.proofs.ListLemmas.{on_kinds, same_means}
use Rattle.eval_lists.proofs.draining.extend_by_asking.Goals as goal

pub returns-clause-means : goal.returns-clause-means
returns-clause-means c =
    let over = goes_over AList c.args.more.now (extended c.args.list) in
    on_kinds c.args.store.now.cells c.args.more.now (drains_kind over) c.kind_of_value.result c.take_way.result c.take_way.new.stack.items c.args.stack.now.items (λ fixed texts. c.kind_of_value.ensures fixed texts)
    (same_means (way_taken c.way_over.result over) (drains_kind over c.kind_of_value.result) c.take_way.result c.take_way.new.stack.items c.args.stack.now.items (sym (c.way_over.ensures over)) c.take_way.ensures.means)
