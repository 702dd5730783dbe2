use Rattle.value_operators.proofs.CompareLemmas.{in_text, in_tuple}
use Rattle.value_operators.proofs.membership.contains_plain.Goals as goal

pub returns-in-Text-part-clause-tests : goal.returns-in-Text-part-clause-tests
returns-in-Text-part-clause-tests c =
    in_text c.args.container.now c.args.part.now c.in-Text.text c.in-Text-part.part c.as_str.result.now c.as_str-in-Text-part.result.now c.find_text.result c.is_some.result
    c.in-Text.is c.in-Text-part.is c.as_str.ensures c.as_str-in-Text-part.ensures c.places_are_least.ensures c.find_text.ensures c.is_some.ensures

pub returns-in-Tuple-clause-tests : goal.returns-in-Tuple-clause-tests
returns-in-Tuple-clause-tests c =
    in_tuple c.args.container.now c.args.part.now c.in-Tuple.items c.as_slice.result.now c.is_among.result c.in-Tuple.is c.as_slice.ensures c.is_among.ensures
