use Rattle.std.proofs.Common.{◌==◌, ◌∙◌, ap, codes, sym, List, ℕ}
use Rattle.std.specs.List.{list_any}
use Rattle.language_rules.specs.Printing.{prints_entries}
use Rattle.eval_texts.proofs.StackLaws.{refused}
use Rattle.eval_texts.proofs.objects.text_of_dict.Goals as goal

pub returns-then-contains-clause-means : goal.returns-then-contains-clause-means
returns-then-contains-clause-means c =
    refused c.args.printing.now c.args.dict (prints_entries c.args.dict c.args.shape 0 (codes "{") c.args.entries.now) c.args.stack.now.items
    (ap (λ (ns : List ℕ). list_any (λ m. m == c.args.dict) ns) (sym c.as_slice.ensures) ∙ sym c.contains.ensures.value ∙ c.if-contains.true)
