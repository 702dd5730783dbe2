use Rattle.std.proofs.Common.{codes, ◌≡◌, ℕ, ℤ, Option, None, sym, ◌∙◌, ap}
use Rattle.std.specs.Int.{w128}
use Rattle.std.proofs.lemmas.Int.{to_z-of_z}
use Rattle.rp_base.specs.declared.value.Value.{Value}
use Rattle.language_rules.specs.Items.{item_of_range}
use Rattle.language_rules.specs.PlainItems.{gives_item, out_of_range}
use Rattle.language_rules.specs.Ranges.{range_length}
use Rattle.language_rules.specs.TextFunctions.{place_among}
use Rattle.eval_ranges.proofs.RangeLemmas.{no_item, same_range}
use Rattle.eval_ranges.proofs.SpecialLemmas.{same_tree}
use Rattle.eval_ranges.proofs.operations.item_at.Goals as goal

pub returns-in-None-clause-means : goal.returns-in-None-clause-means
returns-in-None-clause-means c =
    let l : c.range_length.result ≡ range_length c.args.start c.args.stop c.args.step =
    same_range (λ a b e. c.range_length.result ≡ range_length a b e) c.args.start c.args.stop c.args.step c.ranges.start c.ranges.stop c.ranges.step c.range_length.ensures in
    let none : None ≡ place_among (range_length c.args.start c.args.stop c.args.step) c.args.position =
    sym c.in-None.is ∙ c.place_among.ensures.place ∙ ap (λ (z : ℤ). place_among c.range_length.result z) (to_z-of_z w128 c.args.position c.ranges.position)
    ∙ ap (λ (n : ℕ). place_among n c.args.position) l in
    same_tree (out_of_range (codes "range")) (gives_item (codes "range") (item_of_range c.args.start c.args.stop c.args.step c.args.position)) c.fail.result
    (ap (λ (o : Option Value). gives_item (codes "range") o) (no_item c.args.start c.args.stop c.args.step c.args.position none))
    c.fail.ensures.means
