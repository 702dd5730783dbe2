use Rattle.std.proofs.Common.{refl}
use Rattle.nested_serve.proofs.alone.run_alone.Goals as goal

pub returns : goal.returns
returns c =
    c.alone_run.ensures c.args.program c.in_ok-machine.machine c.run.new.machine c.in_ok-machine.first c.in_ok-machine.ensures c.in_ok-halt.ensures.run refl
