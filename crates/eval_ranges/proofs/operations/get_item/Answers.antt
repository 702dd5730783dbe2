use Rattle.std.proofs.Common.{codes, ◌≡◌, ℤ, None, ap}
use Rattle.language_rules.specs.Going.{type_error}
use Rattle.language_rules.specs.Items.{item_of_range}
use Rattle.language_rules.specs.PlainItems.{gives_item, on_index}
use Rattle.language_rules.specs.TextFunctions.{as_int}
use Rattle.eval_ranges.proofs.SpecialLemmas.{same_tree}
use Rattle.eval_ranges.proofs.operations.get_item.Goals as goal

pub returns-in-None-clause-means : goal.returns-in-None-clause-means
returns-in-None-clause-means c =
    let f = λ (k : ℤ). gives_item (codes "range") (item_of_range c.args.start c.args.stop c.args.step k) in
    let none : None ≡ as_int c.args.key.now = cc in
    same_tree (type_error (codes "index is no integer")) (on_index f (as_int c.args.key.now)) c.refuse.result
    (ap (on_index f) none) c.refuse.ensures.means
