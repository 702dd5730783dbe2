use Rattle.std.proofs.Common.{◌∙◌, ap, codes, drop, string_bytes, subst, sym, List, None, Some, Ok, Option, ℕ}
use Rattle.language_rules.specs.Going.{RuleTree}
use Rattle.language_rules.specs.Printing.{prints_items}
use Rattle.eval_frames.specs.declared.next.Next.{Next}
use Rattle.eval_texts.specs.Texts.{MeansPrinting, first_of_list, left_of_list}
use Rattle.eval_texts.proofs.PartLaws.{makes_as, went_on}
use Rattle.eval_texts.proofs.StackLaws.{asked_begun, given_whole, left_begun}
use Rattle.language_rules.specs.Printing.{prints_cell}
use Rattle.eval_texts.proofs.objects.begin_list.Goals as goal

pub returns-in-Ok-None-clause-means : goal.returns-in-Ok-None-clause-means
returns-in-Ok-None-clause-means c =
    let t : RuleTree = prints_items c.args.list 0 (codes "[") c.args.items.now in
    subst (λ (n : Next). MeansPrinting c.args.printing.now c.args.printing.now c.args.stack.now.items n (prints_cell c.args.list t) c.args.stack.now.items) (sym c.given.ensures)
    (given_whole c.args.printing.now c.args.list t (string_bytes c.put_items.new.made) c.args.stack.now.items c.requires
    (went_on (Option ℕ) t (prints_items c.args.list 0 (string_bytes c.in_ok-made.made) c.args.items.now) (left_of_list c.args.list c.args.items.now) None c.put_items.result (string_bytes c.put_items.new.made)
    (ap (λ (b : List ℕ). prints_items c.args.list 0 b c.args.items.now) (sym c.in_ok-made.ensures.ok)) (c.put_items.ensures.makes c.args.list) (c.in-Ok-None.is ∙ ap (λ (x : Option ℕ). Ok x) c.in-Ok-None.field-0-is)))

pub returns-in-Ok-Some-clause-means : goal.returns-in-Ok-Some-clause-means
returns-in-Ok-Some-clause-means c =
    let t : RuleTree = prints_items c.args.list 0 (codes "[") c.args.items.now in
    asked_begun c.args.printing.now c.ask_first_item.new.printing c.args.list t (first_of_list c.args.list c.in-Ok-Some.at (drop c.in-Ok-Some.at c.args.items.now) (string_bytes c.put_items.new.made)) c.ask_first_item.result c.args.stack.now.items c.ask_first_item.new.stack.items c.requires
    (went_on (Option ℕ) t (prints_items c.args.list 0 (string_bytes c.in_ok-made.made) c.args.items.now) (left_of_list c.args.list c.args.items.now) (Some c.in-Ok-Some.at) c.put_items.result (string_bytes c.put_items.new.made)
    (ap (λ (b : List ℕ). prints_items c.args.list 0 b c.args.items.now) (sym c.in_ok-made.ensures.ok)) (c.put_items.ensures.makes c.args.list) (c.in-Ok-Some.is ∙ ap (λ (x : Option ℕ). Ok x) c.in-Ok-Some.field-0-is))
    c.ask_first_item.ensures.printing c.ask_first_item.ensures.means

pub returns-in-Err-clause-means : goal.returns-in-Err-clause-means
returns-in-Err-clause-means c =
    let t : RuleTree = prints_items c.args.list 0 (codes "[") c.args.items.now in
    left_begun (Option ℕ) c.args.printing.now c.left_printing.new.printing c.args.list t (left_of_list c.args.list c.args.items.now) (string_bytes c.put_items.new.made) c.in-Err.end c.put_items.result c.left_printing.result c.args.stack.now.items c.requires
    (makes_as (Option ℕ) t (prints_items c.args.list 0 (string_bytes c.in_ok-made.made) c.args.items.now) (left_of_list c.args.list c.args.items.now) c.put_items.result (string_bytes c.put_items.new.made)
    (ap (λ (b : List ℕ). prints_items c.args.list 0 b c.args.items.now) (sym c.in_ok-made.ensures.ok)) (c.put_items.ensures.makes c.args.list))
    c.in-Err.is c.left_printing.ensures.printing c.left_printing.ensures.left
