use Rattle.std.proofs.Common.{Ok, refl}
use Rattle.rp_base.specs.declared.exceptions.Beyond.TheVariants as beyond
use Rattle.language_rules.specs.Codes.{Raises}
use Rattle.eval_frames.specs.declared.next.Next.TheVariants as next
use Rattle.eval_handlers.specs.declared.handlers.Choice.TheVariants as choice
use Rattle.eval_handlers.proofs.Choosing.{choice_made}
use Rattle.eval_handlers.proofs.handlers.handle.Goals as goal

pub returns-in-Handler-clause-means : goal.returns-in-Handler-clause-means
returns-in-Handler-clause-means c =
    choice_made c.args.env c.args.texts.now c.args.raised c.args.handlers.now c.in_ok-choice.choice (choice.Handler c.in-Handler.name c.in-Handler.suite) c.args.handled.now c.begin_handling.new.handled c.begin_handling.new.stack.items c.args.stack.now.items c.begin_handling.result
    c.in_ok-choice.ensures c.in-Handler.is c.begin_handling.ensures.means

pub returns-in-Passes-clause-means : goal.returns-in-Passes-clause-means
returns-in-Passes-clause-means c =
    choice_made c.args.env c.args.texts.now c.args.raised c.args.handlers.now c.in_ok-choice.choice choice.Passes c.args.handled.now c.args.handled.now c.args.stack.now.items c.args.stack.now.items (Ok (next.Give (Raises c.args.raised)))
    c.in_ok-choice.ensures c.in-Passes.is (λ fixed units printed. refl)

pub returns-in-Nowhere-clause-means : goal.returns-in-Nowhere-clause-means
returns-in-Nowhere-clause-means c =
    choice_made c.args.env c.args.texts.now c.args.raised c.args.handlers.now c.in_ok-choice.choice choice.Nowhere c.args.handled.now c.args.handled.now c.args.stack.now.items c.args.stack.now.items (Ok (next.Leave beyond.NotYet))
    c.in_ok-choice.ensures c.in-Nowhere.is (λ fixed units printed. refl)
