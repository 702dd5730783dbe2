use Rattle.std.proofs.Common.{refl}
use Rattle.eval_handlers.proofs.Finally.{finally_pending}
use Rattle.eval_handlers.proofs.handlers.begin_finally.Goals as goal

pub returns-in_default : goal.returns-in_default
returns-in_default c = record {
  means =
      finally_pending c.args.env c.args.suite c.args.completion c.args.completion c.args.texts.now c.args.handled.now c.begin_pending.new.stack.items c.args.stack.now.items c.begin_pending.result
      c.in_default.not-Raises refl c.begin_pending.ensures.means;
  light = c.begin_pending.ensures.light;
}
