use Rattle.std.proofs.Common.{length-take, length-drop, arith}
use Rattle.wire_io.proofs.Taken.{Wrote-more}
use Rattle.wire_io.proofs.sink.write_all.Goals as goal

pub loop-done-preserved : goal.loop-done-preserved
loop-done-preserved g c =
    let t = c.in_ok-n.ensures.taken in
    let k = c.loop-done.invariant in
    let within = simp (length-take, length-drop) at t.1 in
    (omega arith, omega (arith, k.1, c.in_ok-n.ensures.later), Wrote-more _ _ _ c.args.text.now c.loop-done.done c.in_ok-n.n (omega arith) k.2 t.2)
