use Rattle.std.proofs.Common.{◌+◌, ap, drop, length, string_bytes, suc, sym, Option, ℕ, add-one}
use Rattle.language_rules.specs.Printing.{prints_items}
use Rattle.eval_texts.specs.Texts.{left_of_list}
use Rattle.eval_texts.proofs.PartLaws.{makes_as, past_items}
use Rattle.eval_texts.proofs.lists.put_items_behind.Goals as goal

pub returns-then-position-items : goal.returns-then-position-items
returns-then-position-items c = record {
  makes = λ n.
      makes_as (Option ℕ) (prints_items n (suc c.args.position) (string_bytes c.args.made.now) (drop (suc c.args.position) c.args.items.now)) (prints_items n (c.args.position + 1) (string_bytes c.args.made.now) (drop (c.args.position + 1) c.args.items.now)) (left_of_list n c.args.items.now) c.put_items.result (string_bytes c.put_items.new.made)
      (ap (λ (i : ℕ). prints_items n i (string_bytes c.args.made.now) (drop i c.args.items.now)) (sym (add-one c.args.position))) (c.put_items.ensures.makes n);
}

pub returns-else-position-items : goal.returns-else-position-items
returns-else-position-items c = record {
  makes = λ n.
      makes_as (Option ℕ) (prints_items n (suc c.args.position) (string_bytes c.args.made.now) (drop (suc c.args.position) c.args.items.now)) (prints_items n (length c.args.items.now) (string_bytes c.args.made.now) (drop (length c.args.items.now) c.args.items.now)) (left_of_list n c.args.items.now) c.put_items-else-position-items.result (string_bytes c.put_items-else-position-items.new.made)
      (past_items n c.args.position c.args.items.now (string_bytes c.args.made.now) c.if-position-items.false) (c.put_items-else-position-items.ensures.makes n);
}
