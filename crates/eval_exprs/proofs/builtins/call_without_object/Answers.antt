use Rattle.std.proofs.Common.{sym}
use Rattle.language_rules.specs.Builtins.{builtin_rule}
use Rattle.language_rules.specs.Printing.{gives_text, on_repr}
use Rattle.eval_exprs.proofs.Moving.{anywhere, anywhere_as, over_one}
use Rattle.eval_exprs.proofs.Tuples.{shown_so}
use Rattle.eval_exprs.proofs.builtins.call_without_object.Goals as goal

pub returns-in-Some-clause-means : goal.returns-in-Some-clause-means
returns-in-Some-clause-means c =
    anywhere_as c.begin_text.result c.begin_text.new.stack.items c.args.stack.now.items (on_repr c.in-Some.tuple gives_text) (builtin_rule c.args.function c.args.arguments.now)
    (sym (shown_so c.args.function c.args.arguments.now c.in-Some.tuple c.in_ok-tuple.field-0 c.in-Some.is c.in_ok-tuple.ensures)) c.begin_text.ensures.means

pub returns-in-None-clause-means : goal.returns-in-None-clause-means
returns-in-None-clause-means c =
    anywhere c.call_at_hand.result c.args.stack.now.items c.args.stack.now.items (builtin_rule c.args.function c.args.arguments.now)
    (over_one c.call_at_hand.result c.args.stack.now.items (builtin_rule c.args.function c.args.arguments.now) c.call_at_hand.ensures.means)
