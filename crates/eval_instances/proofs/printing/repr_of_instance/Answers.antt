use Rattle.std.proofs.Common.{[], codes, refl, Ok}
use Rattle.eval_instances.proofs.CallLemmas.{anywhere, method_called, method_missing}
use Rattle.language_rules.specs.Printing.{text_result}
use Rattle.side_trees.specs.Trees.{Stop}
use Rattle.rp_base.specs.declared.exceptions.Beyond.TheVariants as beyond
use Rattle.eval_frames.specs.declared.next.Next.TheVariants as next
use Rattle.eval_instances.proofs.printing.repr_of_instance.Goals as goal

pub returns-in-Some-clause-means : goal.returns-in-Some-clause-means
returns-in-Some-clause-means c =
    method_called c.args.store.now.cells c.args.number (codes "__repr__") ([]) (text_result) (Stop beyond.Address) c.in-Some.callee.now c.call.result c.call.new.stack.items c.args.stack.now.items c.in-Some.ensures c.call.ensures.means

pub returns-in-None-clause-means : goal.returns-in-None-clause-means
returns-in-None-clause-means c =
    method_missing c.args.store.now.cells c.args.number (codes "__repr__") ([]) (text_result) (Stop beyond.Address) (Ok (next.Leave beyond.Address)) c.args.stack.now.items c.args.stack.now.items c.in-None.ensures
    (anywhere c.args.store.now.cells (Stop beyond.Address) (Ok (next.Leave beyond.Address)) c.args.stack.now.items (λ fs. refl))
