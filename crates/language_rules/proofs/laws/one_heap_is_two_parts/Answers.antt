use Rattle.side_trees.proofs.HeapParts.{one_heap as parts_law}
use Rattle.language_rules.specs.Conversation.{script_language, one_heap}
use Rattle.language_rules.proofs.laws.one_heap_is_two_parts.Goals as goal

pub returns : goal.returns
returns c = parts_law script_language one_heap
