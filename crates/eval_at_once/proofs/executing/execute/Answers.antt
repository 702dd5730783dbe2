use Rattle.std.proofs.Common.{arith, sym}
use Rattle.eval_at_once.proofs.Assignments.{assigned, augmented_at}
use Rattle.eval_at_once.proofs.executing.execute.Goals as goal

pub returns-in_ok-right-in-Assign : goal.returns-in_ok-right-in-Assign
returns-in_ok-right-in-Assign c =
    assigned c.args.store.now c.bind.new.store c.args.texts.now c.args.env c.args.number c.in_ok-target.field-0.now c.args.units c.in_ok-left.left c.in-Assign.target c.in-Assign.value c.in_ok-name-in-Assign.name.now c.in_ok-right-in-Assign.right c.bind.result
    (omega (arith, c.in_ok-left.ensures.0, c.in_ok-left.ensures.1)) (sym c.in_ok-target.ensures) c.in-Assign.is (sym c.in_ok-name-in-Assign.ensures) c.in_ok-right-in-Assign.ensures c.bind.ensures

pub returns-in_ok-made-in-Augmented : goal.returns-in_ok-made-in-Augmented
returns-in_ok-made-in-Augmented c =
    augmented_at c.args.store.now c.bind-in-Augmented.new.store c.args.texts.now c.args.env c.args.number c.in_ok-target.field-0.now c.args.units c.in_ok-left.left c.in-Augmented.target c.in-Augmented.value c.in-Augmented.op c.in_ok-name-in-Augmented.name.now c.in_ok-old-in-Augmented.old c.in_ok-right-in-Augmented.right c.in_ok-made-in-Augmented.made c.bind-in-Augmented.result
    (omega (arith, c.in_ok-left.ensures.0, c.in_ok-left.ensures.1)) (sym c.in_ok-target.ensures) c.in-Augmented.is (sym c.in_ok-name-in-Augmented.ensures) c.in_ok-old-in-Augmented.ensures c.in_ok-right-in-Augmented.ensures c.in_ok-made-in-Augmented.ensures c.bind-in-Augmented.ensures
