use Rattle.std.proofs.Common.{◌∙◌, drop, string_bytes, Option, ℕ}
use Rattle.std.specs.Bool.{⊤}
use Rattle.language_rules.specs.Printing.{adds_part, gives_text, prints_items}
use Rattle.std.proofs.Common.{codes}
use Rattle.eval_texts.specs.Texts.{left_of_list}
use Rattle.eval_texts.proofs.PartLaws.{ended_as, items_end}
use Rattle.eval_texts.proofs.lists.put_items.Goals as goal

pub returns-in-Err-put_part : goal.returns-in-Err-put_part
returns-in-Err-put_part c = record {
  makes = λ n.
      ended_as ⊤ (Option ℕ) (prints_items n c.args.start (string_bytes c.args.made.now) (drop c.args.start c.args.items.now)) (adds_part (string_bytes c.items.made) (codes "]") gives_text) (λ u t. gives_text t) (left_of_list n c.args.items.now) c.in-Err-put_part.end c.put_part.result (string_bytes c.put_part.new.made)
      (c.items.invariant n ∙ items_end n c.items.at c.args.items.now (string_bytes c.items.made) c.items-test.false) (c.put_part.ensures.adds gives_text) c.in-Err-put_part.is;
}
