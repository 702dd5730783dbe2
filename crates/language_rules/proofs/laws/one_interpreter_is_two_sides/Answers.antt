use Rattle.side_trees.proofs.TwoSides.{one_is_two}
use Rattle.language_rules.specs.Conversation.{script_language, one_heap}
use Rattle.language_rules.proofs.laws.one_interpreter_is_two_sides.Goals as goal

pub returns : goal.returns
returns c = one_is_two script_language one_heap
