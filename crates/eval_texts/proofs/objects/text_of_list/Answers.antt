use Rattle.std.proofs.Common.{◌==◌, ◌∙◌, ap, codes, sym, List, ℕ}
use Rattle.std.specs.List.{list_any}
use Rattle.language_rules.specs.Printing.{prints_items}
use Rattle.eval_texts.proofs.StackLaws.{refused}
use Rattle.eval_texts.proofs.objects.text_of_list.Goals as goal

pub returns-then-contains-clause-means : goal.returns-then-contains-clause-means
returns-then-contains-clause-means c =
    refused c.args.printing.now c.args.list (prints_items c.args.list 0 (codes "[") c.args.items.now) c.args.stack.now.items
    (ap (λ (ns : List ℕ). list_any (λ m. m == c.args.list) ns) (sym c.as_slice.ensures) ∙ sym c.contains.ensures.value ∙ c.if-contains.true)
