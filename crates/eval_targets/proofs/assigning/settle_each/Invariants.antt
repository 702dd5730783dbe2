use Rattle.std.proofs.Common.{length}
use Rattle.eval_targets.proofs.Settling.{IsLeft}
use Rattle.eval_targets.proofs.assigning.settle_each.Given as goal

-- the rest of the targets is left
abbrev pub invariant-targets : goal.invariant-targets
invariant-targets l = IsLeft l.env l.texts l.initial.targets l.initial.values l.initial.store l.targets l.values l.store

abbrev pub decreases-targets : goal.decreases-targets
decreases-targets l = length l.targets
