use Rattle.value_operators.proofs.ItemLemmas.{of_text, of_bytes, of_tuple}
use Rattle.value_operators.proofs.items.item_of_plain.Goals as goal

pub returns-in-Text : goal.returns-in-Text
returns-in-Text c = of_text c.args.receiver.now c.in-Text.text c.as_str.result.now c.args.key.now c.item_of_text.result c.in-Text.is c.as_str.ensures c.item_of_text.ensures

pub returns-in-Bytes : goal.returns-in-Bytes
returns-in-Bytes c = of_bytes c.args.receiver.now c.in-Bytes.bytes c.as_slice.result.now c.args.key.now c.item_of_bytes.result c.in-Bytes.is c.as_slice.ensures c.item_of_bytes.ensures

pub returns-in-Tuple : goal.returns-in-Tuple
returns-in-Tuple c = of_tuple c.args.receiver.now c.in-Tuple.items c.as_slice-in-Tuple.result.now c.args.key.now c.item_of_plains.result c.in-Tuple.is c.as_slice-in-Tuple.ensures c.item_of_plains.ensures
