use Rattle.std.proofs.Common.{◌+◌, ◌∙◌, ◌≤◌, subst, ap, drop, string_bytes, suc, sym, Option, ℕ, add-one}
use Rattle.language_rules.specs.Printing.{prints_entries}
use Rattle.eval_texts.specs.Texts.{left_of_dict}
use Rattle.eval_texts.proofs.PartLaws.{makes_as, past_entries}
use Rattle.eval_texts.proofs.dicts.put_entries_behind.Goals as goal

pub returns-then-position-count : goal.returns-then-position-count
returns-then-position-count c = record {
  makes = λ n shape.
      makes_as (Option ℕ) (prints_entries n shape (suc c.args.position) (string_bytes c.args.made.now) (drop (suc c.args.position) c.args.entries.now)) (prints_entries n shape (c.args.position + 1) (string_bytes c.args.made.now) (drop (c.args.position + 1) c.args.entries.now)) (left_of_dict n shape c.args.entries.now) c.put_entries.result (string_bytes c.put_entries.new.made)
      (ap (λ (i : ℕ). prints_entries n shape i (string_bytes c.args.made.now) (drop i c.args.entries.now)) (sym (add-one c.args.position))) (c.put_entries.ensures.makes n shape);
}

pub returns-else-position-count : goal.returns-else-position-count
returns-else-position-count c = record {
  makes = λ n shape.
      makes_as (Option ℕ) (prints_entries n shape (suc c.args.position) (string_bytes c.args.made.now) (drop (suc c.args.position) c.args.entries.now)) (prints_entries n shape c.len-count.result (string_bytes c.args.made.now) (drop c.len-count.result c.args.entries.now)) (left_of_dict n shape c.args.entries.now) c.put_entries-else-position-count.result (string_bytes c.put_entries-else-position-count.new.made)
      (past_entries n shape c.args.position c.args.entries.now (string_bytes c.args.made.now) (subst (λ (m : ℕ). m ≤ c.args.position) c.len-count.ensures.len c.if-position-count.false) ∙ ap (λ (m : ℕ). prints_entries n shape m (string_bytes c.args.made.now) (drop m c.args.entries.now)) (sym c.len-count.ensures.len)) (c.put_entries-else-position-count.ensures.makes n shape);
}
