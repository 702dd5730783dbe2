use Rattle.std.proofs.Common.{subst}
use Rattle.py_dicts.specs.DictCells.{view_method}
use Rattle.language_rules.specs.AtOnce.{stated}
use Rattle.language_rules.specs.DictMethods.{dict_method}
use Rattle.eval_ranges.proofs.SpecialLemmas.{in_state}
use Rattle.eval_methods.specs.Kinds.{IsDictMethod}
use Rattle.eval_methods.specs.declared.dicts.DictMethod.{DictMethod}
use Rattle.eval_methods.proofs.MethodLemmas.{no_dict_method, of_dict}
use Rattle.eval_methods.proofs.dicts.method_of_dict.Goals as goal

pub direct-requires-clause-direct : goal.direct-requires-clause-direct
direct-requires-clause-direct c = subst (λ (k : DictMethod). IsDictMethod c.args.method k) c.in-Direct.is c.dict_method_of.ensures

pub returns-in-View-clause-means : goal.returns-in-View-clause-means
returns-in-View-clause-means c =
    of_dict c.args.store.now.cells c.args.number c.args.method (view_method c.in-View.which) c.args.arguments.now c.view_with.result c.requires
    (subst (λ (k : DictMethod). IsDictMethod c.args.method k) c.in-View.is c.dict_method_of.ensures)
    (λ entries shape fixed texts stack. in_state (stated fixed c.args.store.now.cells texts) (dict_method c.args.number entries shape (view_method c.in-View.which) c.args.arguments.now) c.view_with.result stack stack (c.view_with.ensures.means entries shape stack))

pub returns-in-Other-clause-means : goal.returns-in-Other-clause-means
returns-in-Other-clause-means c =
    no_dict_method c.args.store.now.cells c.args.number c.args.method c.args.arguments.now c.requires
    (subst (λ (k : DictMethod). IsDictMethod c.args.method k) c.in-Other.is c.dict_method_of.ensures)
