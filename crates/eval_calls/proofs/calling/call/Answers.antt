use Rattle.std.proofs.Common.{refl}
use Rattle.language_rules.specs.Calls.{call_value}
use Rattle.eval_calls.proofs.CallLemmas.{refused}
use Rattle.eval_calls.proofs.calling.call.Goals as goal

pub returns-in-Plain-clause-means : goal.returns-in-Plain-clause-means
returns-in-Plain-clause-means c = refused (λ v. call_value v c.args.arguments) c.args.callee.now _ c.args.texts.now c.args.store.now.cells c.args.stack.now.items c.refuse.result c.in-Plain.is refl c.refuse.ensures.means

pub returns-in-Tuple-clause-means : goal.returns-in-Tuple-clause-means
returns-in-Tuple-clause-means c = refused (λ v. call_value v c.args.arguments) c.args.callee.now _ c.args.texts.now c.args.store.now.cells c.args.stack.now.items c.refuse-in-Tuple.result c.in-Tuple.is refl c.refuse-in-Tuple.ensures.means

pub returns-in-Proxy-clause-means : goal.returns-in-Proxy-clause-means
returns-in-Proxy-clause-means c = refused (λ v. call_value v c.args.arguments) c.args.callee.now _ c.args.texts.now c.args.store.now.cells c.args.stack.now.items c.refuse-in-Proxy.result c.in-Proxy.is refl c.refuse-in-Proxy.ensures.means
