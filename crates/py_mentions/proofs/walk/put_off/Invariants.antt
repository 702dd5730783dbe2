use Rattle.std.proofs.Common.{◌≡◌, ◌++◌, length, map, filter, reverse}
use Rattle.py_mentions.specs.declared.place.Task.TheVariants as task
use Rattle.py_mentions.specs.Walks.{smaller}
use Rattle.py_mentions.proofs.walk.put_off.Given as goal

abbrev pub invariant-parts : goal.invariant-parts
invariant-parts l = map task.Visit (filter (smaller l.number) l.parts.items) ++ reverse l.tasks.items ≡ map task.Visit (filter (smaller l.number) l.initial.parts.items) ++ reverse l.initial.tasks.items

abbrev pub decreases-parts : goal.decreases-parts
decreases-parts l = length l.parts.items
