use Rattle.side_trees.proofs.GrowthLaw.{growth}
use Rattle.language_rules.specs.Conversation.{script_language}
use Rattle.language_rules.proofs.laws.sides_grow.Goals as goal

pub returns : goal.returns
returns c = growth script_language
