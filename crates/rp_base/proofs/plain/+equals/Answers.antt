use Rattle.std.proofs.Common.{arith}
use Rattle.rp_base.specs.PlainLaws.{lengths_differ}
use Rattle.rp_base.proofs.plain.+equals.Goals as goal

pub equal_all-returns-then-xs-ys : goal.equal_all-returns-then-xs-ys
equal_all-returns-then-xs-ys t c = lengths_differ _ _ (λ e. omega arith)
