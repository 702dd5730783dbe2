use Rattle.std.proofs.Common.{◌∷◌, Bool, suc, string_bytes}
use Rattle.language_rules.specs.Codes.{DictText}
use Rattle.language_rules.specs.Printing.{prints_entries}
use Rattle.eval_texts.specs.Texts.{behind_value, value_of_dict}
use Rattle.eval_texts.proofs.PartLaws.{makes_as}
use Rattle.eval_texts.proofs.dicts.put_entry.Goals as goal

pub returns-in-Ok : goal.returns-in-Ok
returns-in-Ok c = record {
  makes = λ n shape others.
      makes_as Bool (prints_entries n shape c.args.at (string_bytes c.args.made.now) ((c.args.key.now, c.args.value.now) ∷ others)) (value_of_dict n shape c.args.at c.args.value.now others (string_bytes c.put_key.new.made)) (behind_value n shape c.args.at c.args.value.now others) c.put_text.result (string_bytes c.put_text.new.made)
      (c.in-Ok.ensures.adds (value_of_dict n shape c.args.at c.args.value.now others))
      (c.put_text.ensures.makes (λ made r. DictText n shape c.args.at made r) (λ after. prints_entries n shape (suc c.args.at) after others));
}
