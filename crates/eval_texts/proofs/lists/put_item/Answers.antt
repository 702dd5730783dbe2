use Rattle.std.proofs.Common.{◌∷◌, Bool, suc, string_bytes}
use Rattle.language_rules.specs.Codes.{ListText}
use Rattle.language_rules.specs.Printing.{prints_items}
use Rattle.eval_texts.specs.Texts.{behind_item, item_of_list}
use Rattle.eval_texts.proofs.PartLaws.{makes_as}
use Rattle.eval_texts.proofs.lists.put_item.Goals as goal

pub returns-in-Ok : goal.returns-in-Ok
returns-in-Ok c = record {
  makes = λ n others.
      makes_as Bool (prints_items n c.args.at (string_bytes c.args.made.now) (c.args.item.now ∷ others)) (item_of_list n c.args.at c.args.item.now others (string_bytes c.put_separator.new.made)) (behind_item n c.args.at c.args.item.now others) c.put_text.result (string_bytes c.put_text.new.made)
      (c.in-Ok.ensures.adds (item_of_list n c.args.at c.args.item.now others))
      (c.put_text.ensures.makes (λ made r. ListText n c.args.at made r) (λ after. prints_items n (suc c.args.at) after others));
}
