use Rattle.std.proofs.Common.{◌∙◌, ◌≤◌, subst, drop, string_bytes, Option, ℕ}
use Rattle.std.specs.Bool.{⊤}
use Rattle.language_rules.specs.Printing.{adds_part, gives_text, prints_entries}
use Rattle.std.proofs.Common.{codes}
use Rattle.eval_texts.specs.Texts.{left_of_dict}
use Rattle.eval_texts.proofs.PartLaws.{ended_as, entries_end}
use Rattle.eval_texts.proofs.dicts.put_entries.Goals as goal

pub returns-in-Err-put_part : goal.returns-in-Err-put_part
returns-in-Err-put_part c = record {
  makes = λ n shape.
      ended_as ⊤ (Option ℕ) (prints_entries n shape c.args.start (string_bytes c.args.made.now) (drop c.args.start c.args.entries.now)) (adds_part (string_bytes c.entries.made) (codes "}") gives_text) (λ u t. gives_text t) (left_of_dict n shape c.args.entries.now) c.in-Err-put_part.end c.put_part.result (string_bytes c.put_part.new.made)
      (c.entries.invariant n shape ∙ entries_end n shape c.entries.at c.args.entries.now (string_bytes c.entries.made) (subst (λ (m : ℕ). m ≤ c.entries.at) c.len.ensures.len c.entries-test.false)) (c.put_part.ensures.adds gives_text) c.in-Err-put_part.is;
}
