use Rattle.py_mentions.specs.Mentions.{mentions_at}
use Rattle.py_mentions.specs.Rules.{broken_at}
use Rattle.py_mentions.proofs.WalkLaws.{begins_mentions, begins_worst, gathers_more, worst_so_far, load_so_far}
use Rattle.py_mentions.proofs.walk.places.Goals as goal

pub tasks-init : goal.tasks-init
tasks-init c =
    let e = c.in_ok-walk.ensures in
    (begins_mentions c.args.program.now _ _ _ e.mentions e.constructs e.tasks, begins_worst c.args.program.now _ _ _ e.worst e.constructs e.tasks)

pub tasks-smaller : goal.tasks-smaller
tasks-smaller c = load_so_far c.args.program.now _ _ _ _ _ c.step.new.walk.tasks.items c.in-Some.ensures.items c.in_ok-step.ensures.constructs c.in_ok-step.ensures.tasks

pub tasks-preserved : goal.tasks-preserved
tasks-preserved c =
    let e = c.in_ok-step.ensures in (
      gathers_more c.args.program.now (mentions_at c.args.program.now) _ _ _ _ _ _ _ _ c.step.new.walk.tasks.items c.in-Some.ensures.items e.constructs e.tasks e.mentions c.tasks.invariant.0,
      worst_so_far c.args.program.now (broken_at c.args.program.now) _ _ _ _ _ _ _ _ c.step.new.walk.tasks.items c.in-Some.ensures.items e.constructs e.tasks e.worst c.tasks.invariant.1,
    )
