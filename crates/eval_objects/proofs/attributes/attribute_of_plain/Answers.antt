use Rattle.eval_objects.proofs.AttributeLemmas.{of_text}
use Rattle.eval_objects.proofs.attributes.attribute_of_plain.Goals as goal

pub returns-in_ok-copy-in-Text-clause-means : goal.returns-in_ok-copy-in-Text-clause-means
returns-in_ok-copy-in-Text-clause-means c =
    of_text c.args.receiver.now c.in-Text.text c.in_ok-copy-in-Text.field-0 c.args.name.now c.text_method.result c.bind_method.result c.in-Text.is c.in_ok-copy-in-Text.ensures c.text_method.ensures c.bind_method.ensures.means
