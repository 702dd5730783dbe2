use Rattle.std.proofs.Common.{refl, string_bytes, suc, drop}
use Rattle.eval_texts.proofs.PartLaws.{entry_placed, entry_there}
use Rattle.eval_texts.proofs.dicts.put_entry_at.Goals as goal

pub returns : goal.returns
returns c = record {
  makes = λ n shape.
      entry_placed n shape c.args.at c.key_at.result.now c.value_at.result.now c.args.entries.now (drop (suc c.args.at) c.args.entries.now) (string_bytes c.args.made.now) (string_bytes c.put_entry.new.made) c.put_entry.result
      (entry_there c.args.entries.now c.args.at c.key_at.result.now c.value_at.result.now c.key_at.ensures c.value_at.ensures) refl (c.put_entry.ensures.makes n shape (drop (suc c.args.at) c.args.entries.now));
}
