use Rattle.std.proofs.Common.{ap, drop, string_bytes, suc, sym, List, ℕ, ◌∙◌}
use Rattle.std.specs.Bool.{⊤}
use Rattle.language_rules.specs.Going.{RuleTree}
use Rattle.language_rules.specs.Printing.{adds_part, prints_entries}
use Rattle.eval_texts.proofs.StackLaws.{left_here}
use Rattle.eval_texts.proofs.waiting.put_value.Goals as goal

pub returns-in-Err-clause-means : goal.returns-in-Err-clause-means
returns-in-Err-clause-means c =
    let next : List ℕ → RuleTree = λ after. prints_entries c.args.dict c.args.shape (suc c.args.position) after (drop (suc c.args.position) c.args.entries.now) in
    left_here ⊤ (adds_part (string_bytes c.in_ok-whole.whole) c.as_str.result.now next) (adds_part c.args.made.now c.args.text.now next) (λ u t. next t) (string_bytes c.put_part.new.made) c.in-Err.end c.put_part.result c.left.result c.args.stack.now.items
    (ap (λ (b : List ℕ). adds_part b c.args.text.now next) (sym c.in_ok-whole.ensures) ∙ ap (λ (b : List ℕ). adds_part (string_bytes c.in_ok-whole.whole) b next) (sym c.as_str.ensures)) (c.put_part.ensures.adds next) c.in-Err.is c.left.ensures.left
