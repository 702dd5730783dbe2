use Rattle.std.proofs.Common.{arith}
use Rattle.nested_serve.proofs.WithinLaws.{enters_within}
use Rattle.nested_serve.proofs.running.advance_by_frames.Goals as goal

pub returns-in_ok-begin_within-in-Some-clause-run : goal.returns-in_ok-begin_within-in-Some-clause-run
returns-in_ok-begin_within-in-Some-clause-run c =
    enters_within c.args.machine.now c.begin_within.new.machine c.args.env c.args.number c.in_ok-begin_within-in-Some.field-0 c.args.fuel.now c.in-Some.left c.begin_within.new.fuel (omega (arith, c.in-Some.ensures.0, c.in-Some.ensures.1))
    c.begin_within.ensures.spent c.in_ok-begin_within-in-Some.ensures.means c.in_ok-begin_within-in-Some.ensures.light
