use Rattle.eval_targets.proofs.Settling.{list_unpacked}
use Rattle.eval_targets.proofs.unpacking.unpack_list.Goals as goal

pub returns : goal.returns
returns c = list_unpacked c.args.env c.args.list c.args.targets.now c.in_ok-targets.targets c.in_ok-targets.ensures
