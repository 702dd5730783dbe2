use Rattle.side_trees.proofs.SharedUnitsLaw.{pair_ends_as_one}
use Rattle.side_trees.proofs.TwoSides.{one_is_two}
use Rattle.language_rules.specs.Conversation.{script_language, one_heap}
use Rattle.language_rules.proofs.laws.two_sides_end_as_one.Goals as goal

pub returns : goal.returns
returns c = pair_ends_as_one script_language one_heap (one_is_two script_language one_heap)
