use Rattle.language_rules.specs.Searching.{reads_list}
use Rattle.eval_searching.specs.Compared.{by_length}
use Rattle.eval_searching.proofs.CompareLaws.{not_told}
use Rattle.eval_searching.proofs.comparing.give_length.Goals as goal

pub returns-in-Err-clause-means : goal.returns-in-Err-clause-means
returns-in-Err-clause-means c = λ fixed texts. not_told c.args.completion c.told_length.result c.in-Err.next c.args.store.now.cells (λ m. reads_list c.args.pair.list (λ items. by_length c.args.pair m items)) c.told_length.ensures.told c.in-Err.is fixed texts c.args.stack.now.items
