use Rattle.std.proofs.Common.{sym, length, ◌<◌, arith}
use Rattle.py_scope.specs.Finished.{free_names, takes_through}
use Rattle.py_scope.proofs.SetLaws.{each_start, each_more}
use Rattle.py_scope.proofs.facts.Facts.free_names.Goals as goal

pub loop-mention-init : goal.loop-mention-init
unfolding free_names
loop-mention-init c = each_start (length c.args.self.now.functions.now) (takes_through c.args.self.now.mentions.now c.args.self.now.functions.now) c.in_ok-sets.sets.items c.in_ok-sets.ensures

pub loop-mention-preserved : goal.loop-mention-preserved
unfolding free_names
loop-mention-preserved c =
    let within : c.loop-mention.mention-index < length c.args.self.now.mentions.now = omega arith in
    each_more (length c.args.self.now.functions.now) (takes_through c.args.self.now.mentions.now c.args.self.now.functions.now) c.args.self.now.mentions.now c.loop-mention.mention-index c.mention-item.result c.mention-item.result
    c.loop-mention.sets.items c.add_free.new.sets.items within (sym c.mention-item.is) c.loop-mention.invariant c.in_ok-add_free.ensures
