use Rattle.std.proofs.Common.{rules, ◌≡◌, true, false}
use Rattle.std.specs.List.{list_all}
use Rattle.language_rules.specs.Ordering.{is_number, is_text}
use Rattle.item_sorting.proofs.Rows.{numbers_come, texts_come}
use Rattle.item_sorting.proofs.items.sorted_plain.Goals as goal

pub returns-in-Ok : goal.returns-in-Ok
returns-in-Ok c =
    let numbers : list_all is_number c.args.plains.items ≡ true = search rules in
    numbers_come c.args.plains.items c.in-Ok.sorted.items c.listed.result numbers c.in-Ok.ensures c.listed.ensures

pub returns-in-Ok-texts_in_order : goal.returns-in-Ok-texts_in_order
returns-in-Ok-texts_in_order c =
    let numbers : list_all is_number c.args.plains.items ≡ false = search rules in
    let texts : list_all is_text c.args.plains.items ≡ true = search rules in
    texts_come c.args.plains.items c.in-Ok-texts_in_order.sorted.items c.listed-in-Ok-texts_in_order.result numbers texts c.in-Ok-texts_in_order.ensures c.listed-in-Ok-texts_in_order.ensures
