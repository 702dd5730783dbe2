use Rattle.std.proofs.Common.{◌≡◌, to_z, of_z, arith}
use Rattle.std.proofs.lemmas.Int.{ints}
use mir.Syntax.{w128}
use Rattle.language_rules.specs.Comparing.{tuple_items}
use Rattle.value_operators.proofs.TupleLemmas.{copied}
use Rattle.value_operators.proofs.tuples.copies_of.Goals as goal

pub returns : goal.returns
returns c =
    let same : c.in-Some-count.n ≡ to_z w128 (of_z w128 c.in-Some-count.n) = grind (arith, ints) in
    copied (tuple_items c.args.tuple.now) c.args.count c.in-Some.items c.as_slice.result.now c.in-Some-count.n (to_z w128 (of_z w128 c.in-Some-count.n)) c.in_ok-items.field-0 c.copies.result
    c.in_ok-items.ensures c.in-Some.is c.as_slice.ensures c.in-Some-count.is same c.copies.ensures
