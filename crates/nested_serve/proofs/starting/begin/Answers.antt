use Rattle.std.proofs.Common.{refl, reverse}
use Rattle.nested_serve.proofs.Beginning.{begins_first}
use Rattle.nested_serve.proofs.starting.begin.Goals as goal

pub returns : goal.returns
returns c =
    begins_first c.args.program (reverse c.in_ok-waiting.waiting) c.in_ok-machine.machine (record c.in_ok-machine.machine { stack = c.execute_further.new.stack }) c.in_ok-next.next
    c.in_ok-waiting.ensures c.in_ok-machine.ensures refl refl refl refl refl refl c.in_ok-next.ensures.means
