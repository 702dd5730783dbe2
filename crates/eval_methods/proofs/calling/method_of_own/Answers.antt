use Rattle.std.proofs.Common.{subst}
use Rattle.eval_methods.specs.Receivers.{IsReceiver}
use Rattle.eval_methods.specs.declared.calling.Receiver.{Receiver}
use Rattle.eval_methods.proofs.MethodLemmas.{no_receiver}
use Rattle.eval_methods.proofs.calling.method_of_own.Goals as goal

pub method_of_list-requires : goal.method_of_list-requires
method_of_list-requires c = subst (λ (r : Receiver). IsReceiver c.args.store.now.cells c.args.number r) c.in-List.is c.receiver_of.ensures

pub method_of_dict-requires : goal.method_of_dict-requires
method_of_dict-requires c = subst (λ (r : Receiver). IsReceiver c.args.store.now.cells c.args.number r) c.in-Dict.is c.receiver_of.ensures

pub returns-in-Other-clause-means : goal.returns-in-Other-clause-means
returns-in-Other-clause-means c =
    no_receiver c.args.store.now.cells c.args.number c.args.method c.args.arguments.now c.args.stack.now.items
    (subst (λ (r : Receiver). IsReceiver c.args.store.now.cells c.args.number r) c.in-Other.is c.receiver_of.ensures)
