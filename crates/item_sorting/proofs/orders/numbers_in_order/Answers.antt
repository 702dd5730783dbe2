use Rattle.std.proofs.Common.{◌∙◌, rules, ap}
use Rattle.std.proofs.lemmas.List.Sorted.{answers_always}
use Rattle.std.specs.Ordering.{is_lt}
use Rattle.item_sorting.proofs.KeyOrders.{number_before, numbers_rank, numbers_order}
use Rattle.item_sorting.proofs.StableSorts.{stable_sort_is}
use Rattle.item_sorting.proofs.orders.numbers_in_order.Goals as goal

pub returns : goal.returns
returns c =
    let sorted = c.in_ok-sort_by.ensures.sorted number_before numbers_rank (answers_always _ _ _ (λ f a r g h. ap is_lt (search rules))) in
    let stable = c.sort_by.ensures.stable number_before numbers_rank (answers_always _ _ _ (λ f a r g h. ap is_lt (search rules))) in
    stable_sort_is number_before numbers_rank c.args.plains.items c.sort_by.new.self.items sorted stable ∙ numbers_order c.args.plains.items c.requires
