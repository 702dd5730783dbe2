use Rattle.std.proofs.Common.{remove}
use Rattle.language_rules.specs.ListMethods.{becomes}
use Rattle.language_rules.specs.Searching.{reads_list}
use Rattle.eval_searching.proofs.PlaceLaws.{no_place, place_told}
use Rattle.eval_searching.proofs.places.give_removed.Goals as goal

pub returns-in-Ok-clause-means : goal.returns-in-Ok-clause-means
returns-in-Ok-clause-means c =
    place_told c.args.store.now.cells c.remove_place.new.store.cells c.args.completion c.told_place.result c.in-Ok.place (λ k. reads_list c.args.list (λ items. becomes c.args.list (remove items k))) c.remove_place.result c.told_place.ensures.told c.in-Ok.is c.remove_place.ensures.means

pub returns-in-Err-clause-means : goal.returns-in-Err-clause-means
returns-in-Err-clause-means c =
    no_place c.args.store.now.cells c.args.completion c.told_place.result c.in-Err.next (λ k. reads_list c.args.list (λ items. becomes c.args.list (remove items k))) c.told_place.ensures.told c.in-Err.is
