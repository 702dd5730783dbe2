use Rattle.py_mentions.specs.Mentions.{mentions_at}
use Rattle.py_mentions.specs.Rules.{broken_at}
use Rattle.py_mentions.specs.Walks.{broken_in, mentions_in}
use Rattle.py_mentions.proofs.StandingLaws.{found_stands, standing_found}
use Rattle.py_mentions.proofs.laws.each_node_is_visited.Goals as goal

pub returns-clause-mentions : goal.returns-clause-mentions
unfolding mentions_in
returns-clause-mentions c = λ p m. (found_stands p (mentions_at p) m, standing_found p (mentions_at p) m)

pub returns-clause-broken : goal.returns-clause-broken
unfolding broken_in
returns-clause-broken c = λ p r. (found_stands p (broken_at p) r, standing_found p (broken_at p) r)
