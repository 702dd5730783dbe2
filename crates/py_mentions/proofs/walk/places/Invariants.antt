use Rattle.std.proofs.Common.{◌≡◌, ◌++◌, reverse}
use Rattle.py_mentions.specs.Mentions.{mentions_at}
use Rattle.py_mentions.specs.Rules.{broken_at}
use Rattle.py_mentions.specs.Tasks.{todo}
use Rattle.py_mentions.specs.Walks.{broken_in, mentions_in}
use Rattle.py_mentions.specs.Worst.{worst, worst_with}
use Rattle.py_mentions.proofs.WalkLaws.{load}
use Rattle.py_mentions.proofs.walk.places.Given as goal

abbrev pub invariant-tasks : goal.invariant-tasks
invariant-tasks l =
    (l.walk.mentions ++ todo l.program (mentions_at l.program) l.walk.constructs.items (reverse l.walk.tasks.items) ≡ mentions_in l.program)
    × (worst_with l.walk.worst (todo l.program (broken_at l.program) l.walk.constructs.items (reverse l.walk.tasks.items)) ≡ worst (broken_in l.program))

abbrev pub decreases-tasks : goal.decreases-tasks
decreases-tasks l = load l.program l.walk.constructs.items (reverse l.walk.tasks.items)
