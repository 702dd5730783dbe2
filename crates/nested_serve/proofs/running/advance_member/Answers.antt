use Rattle.std.proofs.Common.{arith}
use Rattle.nested_serve.proofs.Steps.{enters_member}
use Rattle.nested_serve.proofs.running.advance_member.Goals as goal

pub returns-clause-run : goal.returns-clause-run
returns-clause-run c =
    enters_member c.args.machine.now c.begin_member_of.new.machine c.args.env c.args.number c.in_ok-begin_member_of.field-0 c.args.fuel.now c.in-Some.remaining (omega (arith, c.in-Some.ensures.0, c.in-Some.ensures.1))
    c.in_ok-begin_member_of.ensures.means c.in_ok-begin_member_of.ensures.light
