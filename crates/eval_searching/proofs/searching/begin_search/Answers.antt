use Rattle.std.proofs.Common.{ap, drop, sym, ◌∙◌}
use Rattle.language_rules.specs.Containing.{gives_found}
use Rattle.language_rules.specs.Searching.{searches_from}
use Rattle.eval_comparing.proofs.Moving.{anywhere_as}
use Rattle.eval_searching.specs.Searched.{item_asked, left_of_search}
use Rattle.eval_searching.specs.declared.lists.Searched.{Searched}
use Rattle.eval_searching.proofs.searching.begin_search.Goals as goal

pub returns-in-Asked-clause-means : goal.returns-in-Asked-clause-means
returns-in-Asked-clause-means c = anywhere_as c.ask_first.result c.ask_first.new.stack.items c.args.stack.now.items (gives_found (item_asked c.args.list c.in-Asked.at c.args.wanted (drop c.in-Asked.at c.args.items.now))) (gives_found (searches_from c.args.list 0 c.args.wanted c.args.items.now))
    (ap gives_found (sym (c.in_ok-search_from.ensures c.args.list ∙ ap (λ (r : Searched). left_of_search c.args.list c.args.wanted c.args.items.now r) c.in-Asked.is))) c.ask_first.ensures.means
