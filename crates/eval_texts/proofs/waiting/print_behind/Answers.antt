use Rattle.std.proofs.Common.{drop, refl, string_bytes, suc, Option, ℕ}
use Rattle.language_rules.specs.Going.{RuleTree}
use Rattle.language_rules.specs.Printing.{prints_items}
use Rattle.eval_texts.specs.Texts.{left_of_list}
use Rattle.eval_texts.proofs.StackLaws.{left_here}
use Rattle.eval_texts.proofs.waiting.print_behind.Goals as goal

pub returns-in-Err-clause-means : goal.returns-in-Err-clause-means
returns-in-Err-clause-means c =
    let t : RuleTree = prints_items c.args.list (suc c.args.position) (string_bytes c.args.made) (drop (suc c.args.position) c.args.items.now) in
    left_here (Option ℕ) t t (left_of_list c.args.list c.args.items.now) (string_bytes c.put_items_behind.new.made) c.in-Err.end c.put_items_behind.result c.left.result c.args.stack.now.items refl (c.put_items_behind.ensures.makes c.args.list) c.in-Err.is c.left.ensures.left
