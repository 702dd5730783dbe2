use Rattle.language_rules.specs.CellComparing.{same_length}
use Rattle.eval_searching.specs.Compared.{told_end}
use Rattle.eval_searching.proofs.CompareLaws.{not_told}
use Rattle.eval_searching.proofs.comparing.give_end.Goals as goal

pub returns-in-Err-clause-means : goal.returns-in-Err-clause-means
returns-in-Err-clause-means c = not_told c.args.completion c.told_length.result c.in-Err.next c.args.store.now.cells (λ m. same_length c.args.pair.now.list c.args.length (λ items. told_end c.args.pair.now.op c.args.length c.args.equal m)) c.told_length.ensures.told c.in-Err.is
