use Rattle.std.proofs.Common.{subst}
use Rattle.object_operations.specs.declared.method.BuiltinMethod.TheVariants as method
use Rattle.eval_methods.specs.Kinds.{IsListMethod}
use Rattle.eval_methods.specs.declared.lists.ListMethod.{ListMethod}
use Rattle.eval_methods.proofs.MethodLemmas.{no_list_method, of_list}
use Rattle.eval_methods.proofs.lists.method_of_list.Goals as goal

pub direct-requires-clause-direct : goal.direct-requires-clause-direct
direct-requires-clause-direct c = subst (λ (k : ListMethod). IsListMethod c.args.method k) c.in-Direct.is c.list_method_of.ensures

pub returns-in-Extend-clause-means : goal.returns-in-Extend-clause-means
returns-in-Extend-clause-means c =
    of_list c.args.store.now.cells c.extend_with.new.store.cells c.args.number c.args.method method.Extend c.args.arguments.now c.extend_with.result c.extend_with.new.stack.items c.args.stack.now.items c.requires
    (subst (λ (k : ListMethod). IsListMethod c.args.method k) c.in-Extend.is c.list_method_of.ensures) c.extend_with.ensures.means

pub returns-in-Index-clause-means : goal.returns-in-Index-clause-means
returns-in-Index-clause-means c =
    of_list c.args.store.now.cells c.args.store.now.cells c.args.number c.args.method method.Index c.args.arguments.now c.index_with.result c.index_with.new.stack.items c.args.stack.now.items c.requires
    (subst (λ (k : ListMethod). IsListMethod c.args.method k) c.in-Index.is c.list_method_of.ensures) c.index_with.ensures.means

pub returns-in-Remove-clause-means : goal.returns-in-Remove-clause-means
returns-in-Remove-clause-means c =
    of_list c.args.store.now.cells c.remove_with.new.store.cells c.args.number c.args.method method.Remove c.args.arguments.now c.remove_with.result c.remove_with.new.stack.items c.args.stack.now.items c.requires
    (subst (λ (k : ListMethod). IsListMethod c.args.method k) c.in-Remove.is c.list_method_of.ensures) c.remove_with.ensures.means

pub returns-in-Other-clause-means : goal.returns-in-Other-clause-means
returns-in-Other-clause-means c =
    no_list_method c.args.store.now.cells c.args.number c.args.method c.args.arguments.now c.args.stack.now.items c.requires
    (subst (λ (k : ListMethod). IsListMethod c.args.method k) c.in-Other.is c.list_method_of.ensures)
