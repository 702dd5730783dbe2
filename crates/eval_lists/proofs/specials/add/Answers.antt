use Rattle.language_rules.specs.Arithmetic.{adds_list}
use Rattle.eval_lists.proofs.ListLemmas.{on_kinds}
use Rattle.eval_lists.proofs.specials.add.Goals as goal

pub returns-clause-means : goal.returns-clause-means
returns-clause-means c = on_kinds c.args.store.now.cells c.args.other.now (adds_list c.args.number c.args.other.now) c.kind_of_value.result c.add_kind.result c.add_kind.new.stack.items c.args.stack.now.items (λ fixed texts. c.kind_of_value.ensures fixed texts) c.add_kind.ensures.means
