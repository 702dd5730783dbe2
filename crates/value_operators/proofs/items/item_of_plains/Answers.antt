use Rattle.std.proofs.Common.{◌≡◌, to_z, of_z, arith}
use Rattle.std.proofs.lemmas.Int.{ints}
use mir.Syntax.{w128}
use Rattle.std.specs.Prelude.{codes}
use Rattle.rp_base.specs.declared.value.Value.TheVariants as value
use Rattle.value_operators.proofs.ItemLemmas.{item_made}
use Rattle.value_operators.proofs.items.item_of_plains.Goals as goal

pub returns : goal.returns
returns c =
    let same : c.in-Some.position ≡ to_z w128 (of_z w128 c.in-Some.position) = grind (arith, ints) in
    item_made (codes "tuple") (λ p. value.Plain p) c.args.items.now c.args.key.now c.in-Some.position (to_z w128 (of_z w128 c.in-Some.position)) c.as_int.result c.place_among.result c.give_plain.result
    c.as_int.ensures c.in-Some.is same c.place_among.ensures.place c.give_plain.ensures
