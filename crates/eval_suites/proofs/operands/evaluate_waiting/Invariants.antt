use Rattle.std.proofs.Common.{◌-◌, ◌≤◌, List, length, reverse}
use Rattle.rp_base.specs.declared.value.Value.{Value}
use Rattle.language_rules.specs.Going.{RuleTree, evaluates_behind}
use Rattle.eval_suites.specs.Within.{GoesOnAs}
use Rattle.eval_suites.proofs.operands.evaluate_waiting.Given as goal

abbrev pub invariant-operands : goal.invariant-operands
invariant-operands l =
    ((f : List Value → RuleTree) → GoesOnAs l.texts l.store (evaluates_behind l.env l.initial.values (reverse l.initial.waiting) f) (l.units - l.left) l.store (evaluates_behind l.env l.values (reverse l.waiting) f)) × (l.left ≤ l.units)

abbrev pub decreases-operands : goal.decreases-operands
decreases-operands l = length l.waiting
