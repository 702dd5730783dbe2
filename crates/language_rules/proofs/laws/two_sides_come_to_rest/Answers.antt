use Rattle.side_trees.proofs.PairRestLaw.{pair_rests, pair_comes}
use Rattle.side_trees.proofs.TwoSides.{one_is_two}
use Rattle.language_rules.specs.Conversation.{script_language, one_heap}
use Rattle.language_rules.proofs.laws.two_sides_come_to_rest.Goals as goal

pub returns-clause-rests : goal.returns-clause-rests
returns-clause-rests c = pair_rests script_language one_heap (one_is_two script_language one_heap)

pub returns-clause-comes : goal.returns-clause-comes
returns-clause-comes c = pair_comes script_language one_heap (one_is_two script_language one_heap)
