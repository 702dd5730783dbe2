use Rattle.std.proofs.Common.{◌≡◌, ◌==◌, false, length, arith}
use Rattle.eval_calls.proofs.CallLemmas.{wrong_number}
use Rattle.eval_calls.proofs.calling.judge_arguments.Goals as goal

pub returns-else-len-arguments-clause-means : goal.returns-else-len-arguments-clause-means
returns-else-len-arguments-clause-means c =
    let told = c.len.ensures in
    let no = c.if-len-arguments.false in
    let other : (length c.args.info.now.parameters == length c.args.arguments.now) ≡ false = grind arith in
    wrong_number c.args.closure.text c.args.closure.function c.args.closure.scope c.args.arguments.now c.args.info.now c.args.texts.now c.args.store.now.cells c.args.stack.now.items c.refuse.result other c.refuse.ensures.means
