use Rattle.std.proofs.Common.{◌≡◌, drop, length}
use Rattle.py_parser.specs.BuildingTargets.{with_places}
use Rattle.py_parser.proofs.builder.targets.set_places.Given as goal

abbrev pub invariant-loop-number : goal.invariant-loop-number
invariant-loop-number l = (with_places (drop l.number-index l.numbers) l.nodes ≡ with_places l.numbers l.initial.nodes) × (length l.nodes ≡ length l.initial.nodes)
