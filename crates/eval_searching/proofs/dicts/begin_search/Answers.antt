use Rattle.std.proofs.Common.{ap, drop, sym, ◌∙◌}
use Rattle.language_rules.specs.Containing.{gives_found}
use Rattle.language_rules.specs.Searching.{values_from, values_of}
use Rattle.eval_comparing.proofs.Moving.{anywhere_as}
use Rattle.eval_searching.specs.Values.{left_of_values, value_asked}
use Rattle.eval_searching.specs.declared.lists.Searched.{Searched}
use Rattle.eval_searching.proofs.dicts.begin_search.Goals as goal

pub returns-in-Asked-clause-means : goal.returns-in-Asked-clause-means
returns-in-Asked-clause-means c = anywhere_as c.ask_first.result c.ask_first.new.stack.items c.args.stack.now.items (gives_found (value_asked c.args.dict c.args.shape c.in-Asked.at c.args.wanted (drop c.in-Asked.at (values_of c.args.entries.now)))) (gives_found (values_from c.args.dict c.args.shape 0 c.args.wanted (values_of c.args.entries.now)))
    (ap gives_found (sym (c.in_ok-search_values_from.ensures c.args.dict c.args.shape ∙ ap (λ (r : Searched). left_of_values c.args.dict c.args.shape c.args.wanted (values_of c.args.entries.now) r) c.in-Asked.is))) c.ask_first.ensures.means
