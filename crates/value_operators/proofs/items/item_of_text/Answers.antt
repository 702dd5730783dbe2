use Rattle.std.proofs.Common.{◌≡◌, to_z, of_z, arith}
use Rattle.std.proofs.lemmas.Int.{ints}
use mir.Syntax.{w128}
use Rattle.value_operators.proofs.ItemLemmas.{letter_made}
use Rattle.value_operators.proofs.items.item_of_text.Goals as goal

pub returns : goal.returns
returns c =
    let same : c.in-Some.position ≡ to_z w128 (of_z w128 c.in-Some.position) = grind (arith, ints) in
    letter_made c.args.text.now c.args.key.now c.in-Some.position (to_z w128 (of_z w128 c.in-Some.position)) c.as_int.result c.text_at.result c.give_letter.result
    c.as_int.ensures c.in-Some.is same c.positions_are_places.ensures c.text_at.ensures c.give_letter.ensures
