use Rattle.std.proofs.Common.{◌≡◌, [], length, reverse}
use Rattle.language_rules.specs.Displays.{entries_with}
use Rattle.eval_exprs.proofs.making.entries_of.Given as goal

abbrev pub invariant-entries : goal.invariant-entries
invariant-entries l = entries_with [] l.fn.items ≡ entries_with l.entries (reverse l.waiting)

abbrev pub decreases-entries : goal.decreases-entries
decreases-entries l = length l.waiting
